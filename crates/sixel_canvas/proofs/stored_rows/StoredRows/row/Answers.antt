use Rattle.std.proofs.Common.{◌≡◌, ◌+◌, ◌-◌, ◌*◌, take, drop, ap, ◌∙◌, refl, arith}
use Rattle.std.proofs.lemmas.Bool.{lt-ltb}
use Rattle.sixel_canvas.{proofs.RowBytes.pixel_part, specs.Layout.pixel_at}
use Rattle.sixel_canvas.proofs.stored_rows.StoredRows.row.Goals as goal

pub returns-clause-pixels : goal.returns-clause-pixels
returns-clause-pixels c = λ column left up.
    let all = c.args.self.now in
    let start = 4 * (c.args.row * all.width) in
    let many : start + 4 * all.width - start ≡ 4 * all.width = omega arith in
    ap (λ n. pixel_at (take n (drop start all.bytes.now)) column) many
    ∙ pixel_part all.bytes.now (c.args.row * all.width) all.width column left
    ∙ rw (lt-ltb column all.width left, lt-ltb c.args.row all.rows up) refl
