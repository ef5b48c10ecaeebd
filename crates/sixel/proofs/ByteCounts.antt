-- How many bytes of a list belong to a complete DCS sequence.
use Rattle.std.proofs.{Common.{◌≡◌, ℕ, ◌<◌, List, arith}, lemmas.Bool.Decides.nat_tests}
use Rattle.sixel_base.specs.Dcs.{Stage, stage, stage_count, stage_status, dcs_status, dcs_count}
use Rattle.sixel_base.specs.declared.status.SixelDcsFeedStatus.TheVariants.{Complete}

stage_counts : (bytes : List ℕ) (w : Stage) → stage_status w ≡ Complete → 0 < stage_count bytes w
stage_counts bytes w is = grind (arith, nat_tests)

-- a sequence that is complete has bytes of its own
pub complete_counts : (bytes : List ℕ) → dcs_status bytes ≡ Complete → 0 < dcs_count bytes
complete_counts bytes whole = stage_counts bytes (stage bytes) whole
