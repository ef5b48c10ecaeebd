use Rattle.std.proofs.Common.{◌≡◌, ℕ, ◌+◌, ◌<◌, ◌≤◌, drop, get_or, ap, sym, ◌∙◌, arith}
use Rattle.std.{proofs.lemmas.Bool.Decides.nat_tests, proofs.lemmas.List.{drop-drop, get_or-drop}}
use Rattle.std.proofs.lemmas.List.Sorted.{IsPermutation-trans, sum_by-IsPermutation}
use Rattle.std.{proofs.lemmas.List.Sums.sum_by-take-drop, specs.List.{sum_by, swap}}
use Rattle.sixel_palette.proofs.refinement.Divide.{low_above, low_below, range_after, range_more}
use Rattle.sixel_palette.proofs.refinement.Divide.{sums_of_parts, swap_back, swap_front, swap_taken}
use Rattle.sixel_palette.{specs.GainCut.side, specs.declared.palette.bins.Bin.Bin}
use Rattle.sixel_palette.specs.inside.Boxes.{low_part, range_of}
use Rattle.sixel_palette.proofs.palette.gain_cut.divide.Goals as goal

pub loop-position-preserved : goal.loop-position-preserved
loop-position-preserved c =
    let old = c.args.bins.now in
    let bins = c.loop-position.bins in
    let start = c.args.start in
    let middle = c.loop-position.middle in
    let position = c.loop-position.position in
    let channel = c.args.cut.channel in
    let value = c.args.cut.value in
    let h = c.loop-position.invariant in
    let d = c.index-bins-position.result in
    let at : position + 0 ≡ position = omega arith in
    let same : get_or bins position d ≡ get_or old position d =
    rw at at (sym (get_or-drop position bins 0 d) ∙ (ap (λ xs. get_or xs 0 d) h.rest
    ∙ get_or-drop position old 0 d)) in
    let bin : get_or old position d ≡ d = sym same ∙ sym c.index-bins-position.is in
    let rest : drop (position + 1) bins ≡ drop (position + 1) old =
    sym (drop-drop 1 position bins) ∙ (ap (drop 1) h.rest ∙ drop-drop 1 position old) in
    let more = λ (number : Bin → ℕ).
    range_more (low_part channel value number) old start position d (omega arith) (omega arith)
    ∙ ap (λ b. sum_by (low_part channel value number) (range_of old start position)
    + low_part channel value number b) bin in
    let sided = rw (sym c.index-bins-position.is) at c.side_of.ensures.value in
    elim c.if-side_of-from.branch [
      | goal.then-side_of-from w ↦
          let below : side channel d.corner ≤ value =
          omega (arith, w.if-side_of-from.true, sided, c.from.ensures) in
          let swapped : w.swap.new.self ≡ swap bins middle position = w.swap.ensures.after in
          rw (w.bins-is, w.middle-is) (record {
            from = omega arith;
            to = omega arith;
            size = omega (arith, w.swap.ensures.len, h.size);
            moved = IsPermutation-trans old bins w.swap.new.self h.moved w.swap.ensures.permutation;
            front = rw swapped (swap_front bins start middle position d h.from h.to (omega arith)
                ∙ h.front);
            rest = rw swapped (swap_back bins middle position d h.to (omega arith) ∙ rest);
            lower = λ number.
                rw swapped (omega (
                  arith,
                  swap_taken number bins middle position d h.to (omega arith),
                  h.lower number,
                  more number,
                  low_below channel value number d below,
                  ap number c.index-bins-position.is,
                ));
          })
      | goal.else-side_of-from w ↦
          let above : value < side channel d.corner =
          omega (arith, w.if-side_of-from.false, sided, c.from.ensures) in
          rw (w.bins-is, w.middle-is) (record {
            from = h.from;
            to = omega arith;
            size = h.size;
            moved = h.moved;
            front = h.front;
            rest = rest;
            lower = λ number.
                omega (arith, h.lower number, more number, low_above channel value number d above);
          })
    ]

pub returns-clause-lower : goal.returns-clause-lower
returns-clause-lower c = grind (arith, nat_tests, c.loop-position.invariant, range_after)

pub returns-clause-upper : goal.returns-clause-upper
returns-clause-upper c = λ number.
    let old = c.args.bins.now in
    let new = c.loop-position.bins in
    let end = c.args.end in
    let h = c.loop-position.invariant in
    let all : c.loop-position.position ≡ end = omega arith in
    grind (
      arith,
      range_after,
      sum_by-take-drop number new end,
      sum_by-take-drop number old end,
      rw all at h.rest,
      sum_by-IsPermutation number old new h.moved,
      rw all at (h.lower number),
      sums_of_parts,
    )
