-- The writer holds what it held, and then the bytes that are done.
use Rattle.std.{proofs.Common.{◌≤◌, length, take}, specs.Io.KnownBytes.Appends}
use Rattle.sixel.proofs.write.write_all.Given as goal

abbrev pub invariant-writes : goal.invariant-writes
invariant-writes g l = record {
  within : l.done ≤ length l.bytes;
  written : Appends (g.O.Write.contents l.fn.output) (g.O.Write.contents l.output)
      (take l.done l.bytes);
}
