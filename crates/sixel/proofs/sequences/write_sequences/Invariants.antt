-- The images before the rest are written.
use Rattle.std.proofs.Common.{length}
use Rattle.sixel_base.specs.Decoder.{new_decoder}
use Rattle.icy_sixel.specs.Receiver.{start_of}
use Rattle.sixel.proofs.ImageSequences.{Leads}
use Rattle.sixel.proofs.sequences.write_sequences.Given as goal

abbrev pub invariant-sequences : goal.invariant-sequences
invariant-sequences g l =
    Leads new_decoder l.bytes (start_of l.receiver) l.rest (g.O.Write.contents l.fn.output)
    (g.O.Write.contents l.output)

abbrev pub decreases-sequences : goal.decreases-sequences
decreases-sequences g l = length l.rest
