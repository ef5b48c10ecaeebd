-- The bytes so far are what the reader has lost.
use Rattle.std.specs.Io.KnownBytes.{Consumes}
use Rattle.sixel.proofs.read.read_to_end.Given as goal

abbrev pub invariant-reads : goal.invariant-reads
invariant-reads g l =
    Consumes (g.R.Read.remaining l.fn.input) (g.R.Read.remaining l.input) l.bytes.items
