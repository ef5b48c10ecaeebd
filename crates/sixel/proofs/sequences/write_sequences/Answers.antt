use Rattle.std.proofs.{Common.{arith, Bor, List, ℕ}, lemmas.Bool.Decides.nat_tests}
use Rattle.sixel.proofs.{DcsSequences.{no_bytes, some_bytes}, ImageSequences.Serves-led}
use Rattle.sixel.proofs.ImageSequences.{leads_last, leads_more, rest_smaller}
use Rattle.sixel.proofs.sequences.write_sequences.Goals as goal

pub sequences-smaller : goal.sequences-smaller
sequences-smaller g c = grind (arith, nat_tests, rest_smaller, some_bytes)

pub sequences-preserved : goal.sequences-preserved
sequences-preserved g c = grind (arith, nat_tests, leads_more)

pub returns : goal.returns
returns g c =
    elim c.if-is_empty.branch [
      | goal.then-is_empty w ↦
          rw (w.result-is, w.output-is)
          (leads_last _ _ _ _ _ _ (no_bytes c.sequences.rest.now w.if-is_empty.ensures)
          c.sequences.invariant)
      | goal.else-is_empty+in-Err w ↦
          rw (w.result-is, w.output-is)
          (Serves-led (Bor (List ℕ)) (Unit {0}) _ _ _ _ _ _ _ _
          (some_bytes c.sequences.rest.now w.if-is_empty.ensures) c.sequences.invariant
          w.in-Err.ensures.stopped)
    ]
