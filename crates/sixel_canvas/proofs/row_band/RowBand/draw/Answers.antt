use Rattle.std.proofs.lemmas.{Bool.le-ltb, Bool.Decides.nat_tests, List.get_or_default}
use Rattle.std.proofs.Common.{◌≡◌, ℕ, ◌+◌, List, max, length, ap, ◌∙◌, arith}
use Rattle.std.specs.Prelude.{nat_le, nat_lt, ◌&&◌, if◌then◌else◌}
use Rattle.sixel_base.specs.Picture.{is_struck}
use Rattle.sixel_canvas.specs.inside.{RowBand.line_in, TaggedRow.{TaggedRowState, tagged_pixel}}
use Rattle.sixel_canvas.proofs.StruckRows.{struck_more, is_struck-hit}
use Rattle.sixel_canvas.proofs.row_band.RowBand.draw.Goals as goal

pub drawn-preserved : goal.drawn-preserved
drawn-preserved c =
    let rows = c.drawn.self-inside.rows.items in
    let old = c.args.self.now in
    let row = c.drawn.bit in
    let struck = is_struck 0 c.args.bits in
    let before = c.drawn.invariant in
    let six = c.drawn-test.true in
    let down : row ≡ 0 + row = omega arith in
    let paint = λ (column : ℕ) (k : ℕ) (p : List ℕ).
    if nat_le c.args.from column && nat_lt column c.args.to then c.args.color else p in
    let grow = λ (k n : ℕ). max n c.args.to in
    elim c.if-bits-bit-eq1.branch [
      | goal.then-bits-bit-eq1+in_ok-draw_row w ↦
          let hit =
          ap struck down ∙ is_struck-hit 0 c.args.bits row six w.if-bits-bit-eq1.true in
          let next = w.draw_row.new.rows.items in
          rw w.self-inside-is (
            omega (arith, w.draw_row.ensures.len, before.0),
            w.draw_row.ensures.rows before.1,
            λ background column.
                struck_more (paint column) struck row
                (λ k. tagged_pixel (line_in old background k) column)
                (λ k. tagged_pixel (line_in rows background k) column)
                (λ k. tagged_pixel (line_in next background k) column)
                (before.2 background column) hit (w.in_ok-draw_row.ensures.drawn background column)
                (grind (arith)),
            λ background.
                struck_more grow struck row
                (λ k. length (line_in old background k).row.pixels)
                (λ k. length (line_in rows background k).row.pixels)
                (λ k. length (line_in next background k).row.pixels)
                (before.3 background) hit (w.in_ok-draw_row.ensures.grown background)
                (λ k apart.
                ap (λ (l : TaggedRowState). length l.row.pixels)
                (w.in_ok-draw_row.ensures.others background k apart)),
          )
      | goal.else-bits-bit-eq1 w ↦ grind (arith, nat_tests)
    ]

pub returns-in_err-draw_row-clause-held : goal.returns-in_err-draw_row-clause-held
returns-in_err-draw_row-clause-held c = λ background single held.
    let rows = c.drawn.self-inside.rows.items in
    let old = c.args.self.now in
    let row = c.drawn.bit in
    let before = c.drawn.invariant in
    let same : length (line_in rows background row).row.pixels
    ≡ length (line_in old background row).row.pixels =
    rw (le-ltb row row (omega arith)) at (before.3 background row) in
    absurd (grind (arith, get_or_default))

pub invariant_of-self-in_err-draw_row : goal.invariant_of-self-in_err-draw_row
invariant_of-self-in_err-draw_row c = grind (arith)

pub returns-in_err-draw_row-clause-sound : goal.returns-in_err-draw_row-clause-sound
returns-in_err-draw_row-clause-sound c = invariant_of-self-in_err-draw_row c
