use Rattle.std.proofs.Common.{◌∙◌, arith}
use Rattle.sixel_palette.proofs.refinement.{Counts.{error_is, error-small}, Tops.tops_longer}
use Rattle.sixel_palette.proofs.palette.refined.refined_entries.Goals as goal

pub summed-requires-clause-small : goal.summed-requires-clause-small
summed-requires-clause-small c =
    let weighed = c.requires.weighed in
    rw c.deref.ensures.value (omega (
      arith,
      error_is _ _ _ _ _ weighed.same c.in_ok-topped.ensures.relaxed,
      error-small c.in_ok-topped.topped.colors.items _ _ weighed,
    ))

pub returns : goal.returns
returns c =
    let start = c.in_ok-start.ensures in
    let topped = c.in_ok-topped.topped in
    let made = c.in_ok-topped.ensures in
    record {
      shown = made.shown;
      few = made.few;
      some = λ l.
          omega (arith, tops_longer _ _ _ _ _ made.top, start.size, start.initial_some l);
      initial_shown = start.initial_shown;
      initial_few = start.initial_few;
      base = c.in_ok-start.start.assignment.colors.items;
      whole = start.whole;
      cut = start.cut;
      falls = start.falls;
      top = made.top;
      same = made.whole.indices;
      squares = topped.traversal.squares.items;
      nearest = made.relaxed;
      error =
          (rw c.deref.ensures.value at c.summed.ensures)
          ∙ error_is _ _ _ _ _ c.requires.weighed.same
          made.relaxed;
      opaque = c.total_of.ensures;
      flat =
          (rw c.deref-2.ensures.value at c.is_flat.ensures) _ _ _ c.requires.weighed.same
          made.relaxed;
      apart = rw c.deref-3.ensures.value at c.least_apart.ensures;
    }
