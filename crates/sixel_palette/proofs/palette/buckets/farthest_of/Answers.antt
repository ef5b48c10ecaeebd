use Rattle.std.proofs.Common.{ℕ, ◌≤◌, get_or, refl, arith}
use Rattle.sixel_palette.specs.inside.Buckets.{IsInBucket}
use Rattle.sixel_palette.proofs.traversal.{Buckets.{first_greatest, none}, Relaxation.greatest_more}
use Rattle.sixel_palette.proofs.palette.buckets.farthest_of.Goals as goal

pub loop-bucket-preserved : goal.loop-bucket-preserved
loop-bucket-preserved c =
    rw c.max-greatest.ensures
    (greatest_more _ _ _ _ _ _ (omega arith) refl (λ j l. refl) c.loop-bucket.invariant)

-- the bucket has a position with the greatest number
held : (c : goal.After-buckets)
    → (k : ℕ) × IsInBucket c.args.codes.now c.buckets.best k
    × (c.loop-bucket.greatest ≤ get_or c.args.squares.now k 0)
held c =
    let some = c.buckets.invariant.some in
    let each = c.requires.buckets.each _ none (omega (arith, some.1, some.2)) in
    let reached = each.greatest.reached in
    (reached.0, reached.1, omega (arith, reached.2, c.buckets-test.false))

pub positions-init : goal.positions-init
positions-init c =
    let at = held c in
    let inside = at.1 in
    record {
      from = omega arith;
      some = (at.0, at.1, inside.from, at.2);
      first = λ k l m. absurd (omega arith);
    }

pub returns : goal.returns
returns c =
    let at = c.positions.invariant.some in
    let inside = at.1 in
    first_greatest _ _ _ _ _ _ c.requires.squares c.requires.buckets (record {
      upper = λ j l. c.loop-bucket.invariant.upper j (omega arith) (omega arith);
      first = c.buckets.invariant.first;
    }) (omega (arith, inside.within, at.2)) c.positions.invariant.first
    (omega (arith, c.positions-test.false))
