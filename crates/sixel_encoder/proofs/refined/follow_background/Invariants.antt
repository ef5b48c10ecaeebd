use Rattle.std.proofs.Common.{◌≡◌, ◌++◌, drop, map, take}
use Rattle.sixel_encoder.specs.RefinedText.{next_index}
use Rattle.sixel_encoder.proofs.refined.follow_background.Given as goal

abbrev pub invariant-loop-pixel : goal.invariant-loop-pixel
invariant-loop-pixel l =
    l.indices ≡ map next_index (take l.pixel l.fn.indices) ++ drop l.pixel l.fn.indices
