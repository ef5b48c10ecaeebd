use Rattle.std.proofs.Common.{◌≡◌, ℕ, ◌<◌, ◌+◌, ◌*◌, [], false, length, get_or, ap, sym, ◌∙◌, arith}
use Rattle.std.proofs.{Math.Seq.map-set_same, lemmas.List.{get_or-map, length-map, map_push}}
use Rattle.std.proofs.lemmas.List.{get_or_default}
use Rattle.sixel_palette.specs.{GainCut.corner, Lloyd.is_corner, declared.palette.bins.Bin.Bin}
use Rattle.sixel_palette.specs.inside.Bins.{slot, corners_of}
use Rattle.sixel_palette.proofs.refinement.Bins.{not_found, sums_more, table_more}
use Rattle.sixel_palette.proofs.palette.bins.add_color.Goals as goal

pub returns-then-is_corner-clause-sums : goal.returns-then-is_corner-clause-sums
returns-then-is_corner-clause-sums c = grind (arith, get_or_default, sums_more)

pub returns-then-is_corner-clause-table : goal.returns-then-is_corner-clause-table
returns-then-is_corner-clause-table c = grind (arith, map-set_same, c.index_mut.ensures.value)

pub returns-clause-table : goal.returns-clause-table
returns-clause-table c = λ red l h.
    let bins = c.args.bins.now.items in
    let positions = c.args.positions.now in
    let color = corner 4 c.args.color in
    let size : length (corners_of bins) ≡ length bins = length-map bins (λ (b : Bin). b.corner) in
    let place : c.from.result * 64 + c.from-2.result ≡ slot color =
    omega (arith, c.from.ensures, c.from-2.ensures) in
    let long : c.len-2.result ≡ length (corners_of bins) =
    omega (arith, size, c.len-2.ensures, c.args.bins.now.ok.0) in
    let at : ℕ = get_or positions (c.from.result * 64 + c.from-2.result) 0 in
    let miss : get_or positions (slot color) 0 < length (corners_of bins)
    → is_corner (get_or (corners_of bins) (get_or positions (slot color) 0) []) color ≡ false =
    rw (← place)
    (elim c.else-position-len.branch [
      | goal.else-position-len-via-then-position-len+else-is_corner w ↦ λ inside.
          let bin = w.index.result.now in
          let here : get_or (corners_of bins) at [] ≡ bin.corner =
          get_or-map (λ (b : Bin). b.corner) bins at bin [] (omega arith)
          ∙ ap (λ (b : Bin). b.corner) (sym w.index.ensures) in
          rw here (sym w.is_corner.ensures ∙ w.if-is_corner.false)
      | goal.else-position-len-via-else-position-len w ↦ λ inside.
          absurd (omega (arith))
    ]) in
    rw (
      c.in_ok-push.ensures.items,
      map_push (λ (b : Bin). b.corner) bins (record { corner = color; sums = c.args.sums }),
      place,
      long,
    )
    (table_more _ _ _ _ c.requires.table h l (omega arith) (omega arith)
    (not_found (corners_of bins) positions color c.requires.table (omega arith) miss)
    (omega (arith, c.requires.positions)))
