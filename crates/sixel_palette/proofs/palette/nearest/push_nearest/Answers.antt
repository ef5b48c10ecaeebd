use Rattle.std.proofs.Common.{◌≡◌, ◌≢◌, ℕ, ◌+◌, ◌-◌, ◌%◌, ◌<◌, ◌≤◌, List, length, get_or, ⊎_elim}
use Rattle.std.proofs.{Common.arith, lemmas.Bool.Decides.{leb_tells, nat_tests}}
use Rattle.std.proofs.lemmas.List.{take_more, take_more_set, take-set-le, length-set}
use Rattle.sixel_palette.proofs.nearest_entries.Keys.{none, pushed_taken, pushed_skipped}
use Rattle.sixel_palette.proofs.nearest_entries.Keys.{AreLeastKeys}
use Rattle.sixel_palette.specs.inside.Keys.{key_of, IsInCube}
use Rattle.sixel_palette.proofs.palette.nearest.push_nearest.Goals as goal

-- the key of the entry at the position
this_key : (c : goal.After-from-end) (color : List ℕ) → IsInCube c.args.cube.now color
    → get_or c.if-position-eq0.keys (c.loop-position.position % 64) 0
    ≤ key_of (get_or c.args.entries.now c.loop-position.position none) color
this_key c color box = grind (arith, nat_tests)

-- the keys after the position, if there are more of the 64
later : (c : goal.After-from-end) → (c.loop-position.position + 1) % 64 ≢ 0
    → AreLeastKeys c.args.cube.now c.args.entries.now
    (c.loop-position.position + 1 - (c.loop-position.position + 1) % 64) c.if-position-eq0.keys
later c other = grind (arith, nat_tests)

pub loop-position-preserved : goal.loop-position-preserved
loop-position-preserved c =
    let entries = c.args.entries.now in
    let greatest = c.greatest_key-greatest.result in
    let position = c.loop-position.position in
    let e = get_or entries position none in
    let list = c.loop-position.list.items in
    let end = c.loop-position.end in
    let key = get_or c.if-position-eq0.keys (position % 64) 0 in
    let h = c.loop-position.invariant in
    let next = take_more entries position none (omega arith) in
    let within : end < length list = omega (arith, h.size, h.end) in
    ⊎_elim (λ t.
    let more : c.from-end.result ≡ 1 = rw t.0 at c.from-end.ensures in
    let to : end + c.from-end.result ≡ end + 1 = omega (arith, more) in
    rw to (record {
      pushed = rw (next, take_more_set list end e within) (pushed_taken _ _ _ _ _ _ h.pushed);
      size = omega (arith, h.size, length-set list end e);
      end = omega (arith, h.end);
      keys = later c;
    })) (λ f.
    let more : c.from-end.result ≡ 0 = rw f.0 at c.from-end.ensures in
    let to : end + c.from-end.result ≡ end = omega (arith, more) in
    rw to (record {
      pushed = grind (arith, nat_tests, take-set-le, pushed_skipped, this_key, h.pushed);
      size = omega (arith, h.size, length-set list end e);
      end = omega (arith, h.end);
      keys = later c;
    })) (leb_tells key greatest)
