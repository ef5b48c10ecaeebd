use Rattle.std.proofs.Common.{◌≡◌, drop}
use Rattle.sixel.specs.netpbm.Words.{after_gap, after_gap_from}
use Rattle.sixel.proofs.netpbm.words.skip_gap.Given as goal

-- the bytes so far are blanks and comments, of which the last one may be open
abbrev pub invariant-gap : goal.invariant-gap
invariant-gap l = after_gap_from l.in_comment (drop l.index l.bytes) ≡ after_gap l.bytes
