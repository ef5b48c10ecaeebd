use Rattle.std.proofs.Common.{◌≡◌, ◌+◌, drop}
use Rattle.sixel_base.specs.Bytes.{count, first_terminator}
use Rattle.sixel_decoder.proofs.image_end.to_terminator.Given as goal

abbrev pub invariant-bytes : goal.invariant-bytes
invariant-bytes l = record {
  counted : l.index + count (drop l.index l.chunk) ≡ count l.chunk;
  first : first_terminator (drop l.index l.chunk) ≡ first_terminator l.chunk;
}
