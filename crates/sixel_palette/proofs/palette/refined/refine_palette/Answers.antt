use Rattle.std.proofs.Common.{◌≡◌, ap, arith, refl, subst}
use Rattle.sixel_palette.specs.Palette.{AreIndices}
use Rattle.sixel_palette.specs.declared.palette.refined.RefinedEntries.{RefinedEntries}
use Rattle.sixel_palette.proofs.refinement.Refinement.{refinement-below, refinement-palette}
use Rattle.sixel_palette.proofs.palette.refined.refine_palette.Goals as goal

pub returns-clause-refined : goal.returns-clause-refined
returns-clause-refined c =
    let room : c.from-2.result ≡ c.args.max_colors = grind arith in
    let is = rw room at c.in_ok-refinement.ensures in
    let same = is.entries.none refl in
    let below = refinement-below _ _ _ _ is in
    refinement-palette _ _ _ _ is _
    (record {
      colors = ap (λ e. e.colors.items) same;
      error = ap (λ e. e.error) same;
      initial = ap (λ e. e.initial.items) same;
      witnesses = ap (λ e. e.witnesses.items) same;
      apart = ap (λ e. e.apart) same;
    })
    (subst (λ (e : RefinedEntries). AreIndices c.args.pixels.now e.colors.items
    c.in_ok-indices.indices.items) same (c.in_ok-indices.ensures _ is.entries.squares
    (rw c.deref.ensures.value is.entries.nearest) below))
