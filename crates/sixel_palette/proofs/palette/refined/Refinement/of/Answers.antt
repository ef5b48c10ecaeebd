use Rattle.sixel_palette.proofs.refinement.Counts.{weighed_from_counts}
use Rattle.sixel_palette.proofs.palette.refined.Refinement.of.Goals as goal

pub refined_entries-requires-clause-weighed : goal.refined_entries-requires-clause-weighed
refined_entries-requires-clause-weighed c =
    rw (c.deref.ensures.value, c.deref-2.ensures.value)
    (weighed_from_counts _ _ _ c.in_ok-counts.ensures c.requires.area)

pub spread-requires-clause-weighed : goal.spread-requires-clause-weighed
spread-requires-clause-weighed c =
    rw (c.deref-3.ensures.value, c.deref-4.ensures.value)
    (weighed_from_counts _ _ _ c.in_ok-counts.ensures c.requires.area)
