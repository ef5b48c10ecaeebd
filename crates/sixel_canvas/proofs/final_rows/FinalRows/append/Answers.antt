use Rattle.std.proofs.Common.{◌≡◌, ◌+◌, ◌-◌, ◌*◌, ◌≤◌, ◌++◌, drop, length, length-append}
use Rattle.std.proofs.{Common.{length-drop, arith, rules}, lemmas.List.drop-append-le}
use Rattle.std.specs.Prelude.{vec_capacity}
use Rattle.sixel_base.specs.Picture.{joined}
use Rattle.sixel_canvas.proofs.RowBytes.{row_appended, row_len, when_ok}
use Rattle.sixel_canvas.proofs.final_rows.FinalRows.append.Goals as goal

pub invariant_of-self : goal.invariant_of-self
invariant_of-self c =
    let all = c.self.inside in
    let start = 4 * (all.free * all.width) in
    let part = c.as_flattened.result.now in
    let few : length c.args.pixels.now ≤ all.width = search rules in
    let rest = joined (λ _. all.background) (all.width - length c.args.pixels.now) in
    let cut = drop-append-le start all.bytes.items (part ++ rest) c.self.invariant.1 in
    let len : length all.bytes.items ≡ start + 4 * (all.rows * all.width) =
    omega (
      arith,
      c.self.invariant.1,
      c.self.invariant.0.fits,
      length-drop start all.bytes.items,
    ) in
    let is =
    row_len (drop start all.bytes.items) part (drop start c.add_row-added.new.bytes.items)
    all.background all.width all.rows (length c.args.pixels.now) few c.self.told in
    grind (arith, cut, is, length-append all.bytes.items (part ++ rest))

pub returns-clause-shown : goal.returns-clause-shown
returns-clause-shown c =
    let all = c.self.inside in
    let start = 4 * (all.free * all.width) in
    let part = c.as_flattened.result.now in
    let few : length c.args.pixels.now ≤ all.width = search rules in
    let rest = joined (λ _. all.background) (all.width - length c.args.pixels.now) in
    let cut = drop-append-le start all.bytes.items (part ++ rest) c.self.invariant.1 in
    let len : length all.bytes.items ≡ start + 4 * (all.rows * all.width) =
    omega (
      arith,
      c.self.invariant.1,
      c.self.invariant.0.fits,
      length-drop start all.bytes.items,
    ) in
    let is =
    row_appended (drop start all.bytes.items) part (drop start c.add_row-added.new.bytes.items)
    all.background c.args.pixels.now all.width all.rows (vec_capacity all.bytes - start)
    (vec_capacity c.add_row-added.new.bytes - start) all.moved (all.shifted + all.free) few
    c.self.told c.told-pixels in
    grind (arith, when_ok, len, cut, is)
