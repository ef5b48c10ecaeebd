use Rattle.std.proofs.Common.{◌≡◌, ◌∙◌, ℕ, true, false, min, refl, sym, ap, arith}
use Rattle.std.proofs.lemmas.{Bool.{le-ltb, lt-ltb}, Bool.Decides.nat_tests}
use Rattle.sixel_base.specs.{Clip.{clipped_bits, is_pixel_inside}, Limits.Limit}
use Rattle.sixel_decoder.proofs.drawing.Clips.{covers_clipped, covers_outside}
use Rattle.sixel_decoder.proofs.painter.Painter.draw_inside.Goals as goal

pub returns : goal.returns
returns g c =
    let old = c.args.self.now in
    let limit : Limit = old.pixel_limit in
    let top : ℕ = g.C.Canvas.top old.canvas in
    let top_is : c.top-top.result ≡ top = c.top-top.ensures in
    let columns_is : c.columns-columns.result ≡ limit.columns = c.columns-columns.ensures.value in
    let rows_is : c.rows-rows.result ≡ limit.rows = c.rows-rows.ensures.value in
    elim c.if-from-columns.branch [
      | goal.then-from-columns+then-top-rows+in_ok-draw w ↦
          let inside : is_pixel_inside limit c.args.from top ≡ true =
          rw (
            lt-ltb c.args.from limit.columns (omega (arith, w.if-from-columns.true, columns_is)),
            lt-ltb top limit.rows (omega (arith, w.if-top-rows.true, rows_is, top_is)),
          ) refl in
          let bits : w.clipped_bits-bits.result ≡ clipped_bits limit top c.args.bits =
          w.clipped_bits-bits.ensures.value limit (sym rows_is)
          ∙ ap (λ (n : ℕ). clipped_bits limit n c.args.bits) top_is in
          let right : w.min.result ≡ min c.args.right limit.columns =
          w.min.ensures ∙ ap (min c.args.right) columns_is in
          let drawn = w.in_ok-draw.ensures in
          rw w.self-is
          (grind (arith, nat_tests, inside, right, bits, covers_clipped, drawn, c.add.ensures))
      | goal.else-from-columns w ↦
          let outside : is_pixel_inside limit c.args.from top ≡ false =
          elim w.else-from-columns.branch [
            | goal.else-from-columns-via-then-from-columns+else-top-rows v ↦ rw (
              lt-ltb c.args.from limit.columns (omega (arith, v.if-from-columns.true, columns_is)),
              le-ltb top limit.rows (omega (arith, v.if-top-rows.false, rows_is, top_is)),
            ) refl
            | goal.else-from-columns-via-else-from-columns v ↦ rw
                (le-ltb c.args.from limit.columns
                (omega (arith, v.if-from-columns.false, columns_is))) refl
          ] in
          rw w.self-is (grind (arith, nat_tests, outside, covers_outside, c.add.ensures))
    ]
