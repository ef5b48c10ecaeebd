use Rattle.std.proofs.Common.{◌≡◌, ℕ, ◌+◌, ◌-◌, ◌*◌, ◌≤◌, ◌<◌, ◌++◌, length, max, min, take, drop}
use Rattle.std.proofs.{Common.{ap, arith, length-drop, length-take}, Math.Nat.mul-le-mul}
use Rattle.std.proofs.{Math.Nat.mul-le-mul_right}
use Rattle.sixel_base.specs.Picture.{joined}
use Rattle.sixel_canvas.proofs.{ReleasedRows.dropped, RowBytes.part_len_is}
use Rattle.sixel_canvas.proofs.RowBytes.{row_copied, row_len, when_ok}
use Rattle.sixel_canvas.proofs.final_rows.FinalRows.lay_out.Goals as goal

row_room : (row rows width kept : ℕ) → row < rows → kept ≤ width
    → 4 * (row * width) + 4 * kept + 4 * (width - kept) ≤ 4 * (rows * width)
row_room row rows width kept inside narrow = omega (arith, mul-le-mul_right width inside)

pub copied-preserved : goal.copied-preserved
copied-preserved c =
    let old = c.self.inside in
    let before = c.copied.invariant in
    let row = c.copied.row in
    let width = c.args.width in
    let kept = c.min-kept.result in
    let bytes = c.shrink_to.new.self.items in
    let stored = drop (4 * (old.free * old.width)) bytes in
    let fits : length stored ≡ 4 * (old.rows * old.width) = grind (arith) in
    let start = 4 * ((old.free + row) * old.width) in
    let least : kept ≡ min width old.width = omega (arith, c.min-kept.ensures) in
    let inside : row < old.rows = omega (arith, c.copied-test.true) in
    let part = take (start + 4 * kept - start) (drop start c.deref.result.now) in
    let cut : part ≡ take (4 * kept) (drop (4 * (row * old.width)) stored) =
    grind (arith, dropped bytes old.width old.free row) in
    let narrow : kept ≤ width = omega (arith, least) in
    let part_len =
    part_len_is stored part old.width width row old.rows kept least inside
    fits cut in
    let added = c.add_row-added in
    let new = added.new.bytes.items in
    let told = added.ensures in
    let ok : new ≡ c.copied.bytes.items ++ (part ++ joined (λ _. old.background) (width - kept)) =
    when_ok added.result
    (told.within_capacity (omega (
      arith,
      before,
      part_len,
      row_room row (max c.args.rows old.rows) width kept (omega (arith, inside)) narrow,
    )))
    told.ok in (
      row_len c.copied.bytes.items part new old.background width row kept narrow c.self.told
          before.0 part_len ok,
      omega (arith, before.1, told.capacity),
      row_copied stored c.copied.bytes.items part new old.background old.width width row
          old.rows kept least c.self.told inside fits before.0 cut ok before.2,
    )

pub add_row-added-requires : goal.add_row-added-requires
add_row-added-requires c =
    let width = c.args.width in
    let kept : c.min-kept.result ≤ width = omega (arith, c.min-kept.ensures) in
    let room = row_room c.copied.row c.self.inside.rows width _ c.copied-test.true kept in
    omega (
      arith,
      length-take {A = ℕ},
      c.copied.invariant,
      room,
      mul-le-mul c.self.invariant.0.few c.requires.narrow,
    )

pub slice_bounds-old-end : goal.slice_bounds-old-end
slice_bounds-old-end c =
    let old = c.self.inside in
    let kept : c.min-kept.result ≤ old.width = omega (arith, c.min-kept.ensures) in
    let room = row_room c.copied.row old.rows old.width _ c.copied-test.true kept in
    omega (
      arith,
      room,
      c.self.invariant.0.fits,
      c.self.invariant.1,
      length-drop (4 * (old.free * old.width)) old.bytes.items,
      ap length c.deref.ensures.value,
    )
