use Rattle.std.proofs.Common.{sym, ◌∙◌, arith}
use Rattle.sixel_decoder.proofs.dcs_sequences.Ends.{goes_to_end, goes_later}
use Rattle.sixel_decoder.proofs.images.FoundPayloads.{tail_whole}
use Rattle.sixel_decoder.proofs.dcs_end.end_now.Goals as goal

pub returns-clause-ends : goal.returns-clause-ends
returns-clause-ends c = λ payload ended first counted.
    let piece = c.args.chunk.now in
    let t = c.args.terminator in
    let consumed = c.args.consumed in
    elim c.match-ended.branch [
      | goal.in-None w ↦
          rw w.end-is (goes_to_end payload piece _ t c.min.result consumed _ _
          (sym w.in-None.is ∙ ended) first counted
          (tail_whole c.min.result piece) (λ within. omega (arith, c.min.ensures))
          w.end_at-end.ensures.count w.end_at-end.ensures.status)
      | goal.in-Some w ↦
          rw w.end-is (goes_later payload piece t consumed _ w.in-Some.status _
          (sym w.in-Some.is ∙ ended) first counted
          w.end_later-end.ensures.waiting w.end_later-end.ensures.over)
    ]
