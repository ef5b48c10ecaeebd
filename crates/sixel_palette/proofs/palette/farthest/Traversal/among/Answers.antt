use Rattle.std.proofs.Common.{◌≡◌, ◌++◌, [], List, length, take, drop, ℕ, arith}
use Rattle.std.proofs.lemmas.List.{take_at, take_more, length-take}
use Rattle.sixel_palette.proofs.palette.farthest.Traversal.among.Goals as goal

-- a list of the same length replaces an old one
replaced : {X : Type 0} (new old : List X) (len : ℕ) → length new ≡ len
    → take len (new ++ drop (length new) old) ≡ new
replaced new old len same = take_at new (drop (length new) old) len same

pub loop-index-preserved : goal.loop-index-preserved
loop-index-preserved c =
    let colors = c.args.colors.now in
    let index = c.loop-index.index in
    let old = c.loop-index.traversal in
    let new = c.relax_buckets.new in
    let h = c.loop-index.invariant in
    let squares = replaced new.squares old.squares.items old.squares.len (omega arith) in
    let indices = replaced new.indices old.indices.items old.indices.len (omega arith) in
    let buckets = replaced new.buckets old.buckets.items old.buckets.len (omega arith) in
    record {
      whole = record {
        squares = rw squares (omega arith);
        indices = rw indices (omega arith);
        buckets = rw (squares, buckets) c.relax_buckets.ensures.buckets;
      };
      relaxed =
          rw (squares, indices, take_more colors index [] (omega arith))
          (c.relax_buckets.ensures.near (take index colors)
          (omega (arith, length-take index colors))
          (rw (c.deref_mut.ensures.value, c.deref_mut-in-loop-index.ensures.value) h.relaxed));
    }
