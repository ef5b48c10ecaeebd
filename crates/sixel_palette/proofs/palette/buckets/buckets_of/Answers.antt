use Rattle.std.{proofs.Common.arith, proofs.lemmas.List.length_push}
use Rattle.sixel_palette.{proofs.colors.Lists.each_push, specs.inside.Buckets.IsBucket}
use Rattle.sixel_palette.proofs.palette.buckets.buckets_of.Goals as goal

pub loop-position-preserved : goal.loop-position-preserved
loop-position-preserved c =
    let buckets = c.loop-position.buckets.items in
    let h = c.loop-position.invariant in
    rw c.in_ok-push.ensures.items (record {
      size = omega (arith, length_push buckets c.bucket_of.result, h.size);
      each = λ j d.
          each_push (IsBucket c.args.codes.now c.args.squares.now) buckets _ d _ h.size
          (λ k. h.each k d) c.bucket_of.ensures j;
    })
