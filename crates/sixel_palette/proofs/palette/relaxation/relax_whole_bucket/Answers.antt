use Rattle.std.proofs.{Common.{◌≡◌, ◌+◌, ◌*◌, inl, inr, arith}, lemmas.Bool.cases_lt}
use Rattle.sixel_palette.proofs.traversal.Lanes.{greatest_from_lanes, greatest_lanes_more}
use Rattle.sixel_palette.proofs.traversal.Lanes.{length-chosen, length-smaller}
use Rattle.sixel_palette.proofs.palette.relaxation.relax_whole_bucket.Goals as goal

pub loop-eight-preserved : goal.loop-eight-preserved
loop-eight-preserved c =
    let from = 64 * c.args.bucket in
    let eight = c.loop-eight.eight in
    let h = c.loop-eight.invariant in
    let is = c.relax_lanes-lanes.ensures in
    let next : 8 * (eight + 1) ≡ 8 * eight + 8 = omega arith in
    rw next (record {
      relaxed = λ entries at kept k after to within.
          elim (cases_lt k (from + 8 * eight)) [
            | inl below ↦
                rw (is.squares k (inl below), is.indices k (inl below))
                (h.relaxed entries at kept k after below within)
            | inr above ↦
                is.near entries k at above (omega (arith, to))
                (rw (h.squares.after k above, h.indices.after k above)
                (kept k (record { from = after; to = omega (arith, to); within = within })))
          ];
      squares = grind (arith, is.squares, h.squares);
      indices = grind (arith, is.indices, h.indices);
      eight = length-chosen _ _ _ (length-smaller _ _ h.eight is.eight) is.eight h.eight;
      greatest =
          greatest_lanes_more c.loop-eight.squares c.relax_lanes-lanes.new.squares from (8 * eight)
          _ _ (omega arith) h.eight is.eight (λ k l. is.squares k (inl l)) is.lanes h.greatest;
    })

pub returns-clause-greatest : goal.returns-clause-greatest
returns-clause-greatest c =
    let all : 8 * c.loop-eight.eight ≡ 64 = omega arith in
    let h = c.greatest_of_eight.ensures in
    greatest_from_lanes _ _ c.loop-eight.greatest _ _ c.requires.whole
    (rw all at c.loop-eight.invariant.greatest) h.upper h.reached
