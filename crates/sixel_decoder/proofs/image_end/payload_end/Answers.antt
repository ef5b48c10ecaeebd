use Rattle.std.proofs.{Common.{◌∙◌, arith}, lemmas.Bool.Decides.nat_tests}
use Rattle.sixel_decoder.proofs.chunks.Joined.{count-append, first_terminator-append}
use Rattle.sixel_decoder.proofs.chunks.Joined.{first_terminator-ended}
use Rattle.sixel_decoder.proofs.{dcs_sequences.Ends.terminator_same, images.Finality.count_ended}
use Rattle.sixel_decoder.proofs.image_end.payload_end.Goals as goal

pub returns-clause-counted : goal.returns-clause-counted
returns-clause-counted c = λ settings bytes is. elim c.match-terminator.branch [
  | goal.in-Some w ↦
      let some = is ∙ w.in-Some.is in
      grind (arith, nat_tests, count_ended, first_terminator-ended, c.of_payload.ensures)
  | goal.in-None w ↦
      let none = is ∙ w.in-None.is in
      grind (
        arith,
        nat_tests,
        count-append,
        first_terminator-append,
        terminator_same,
        c.of_payload.ensures,
      )
]
