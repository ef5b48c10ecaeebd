use Rattle.std.proofs.Common.{◌≡◌, ◌++◌, false, List, Option, ℕ, take}
use Rattle.sixel_base.specs.declared.status.SixelDcsFeedStatus.{SixelDcsFeedStatus}
use Rattle.sixel_decoder.specs.inside.DcsState.{HasFollowed, is_failed, released_of}
use Rattle.sixel_decoder.proofs.dcs_state.DcsState.read_head.Given as goal

abbrev pub invariant-head : goal.invariant-head
invariant-head g l =
    let old = l.initial.self in
    ((ended : Option SixelDcsFeedStatus) (before : List ℕ) → is_failed old ≡ false
    → HasFollowed old l.decoder ended before
    → (is_failed l.self ≡ false)
    × HasFollowed l.self l.decoder ended (before ++ take l.index l.chunk))
    × (released_of l.self ≡ released_of old)
