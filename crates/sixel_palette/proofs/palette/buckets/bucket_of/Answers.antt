use Rattle.std.proofs.Common.{arith}
use Rattle.sixel_palette.proofs.traversal.Buckets.{box_from_intervals}
use Rattle.sixel_palette.proofs.palette.buckets.bucket_of.Goals as goal

pub returns : goal.returns
returns c = record {
  box =
      box_from_intervals _ _ _ _ _ _ _ c.requires.small
      (omega (arith, c.min.ensures, c.requires.some)) c.interval_of.ensures
      c.interval_of-2.ensures c.interval_of-3.ensures;
  greatest = c.greatest_in.ensures;
}
