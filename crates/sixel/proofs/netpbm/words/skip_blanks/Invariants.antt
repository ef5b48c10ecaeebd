use Rattle.std.proofs.Common.{◌≡◌, drop}
use Rattle.sixel.specs.netpbm.Words.{after_blanks}
use Rattle.sixel.proofs.netpbm.words.skip_blanks.Given as goal

-- the bytes so far are blanks
abbrev pub invariant-blanks : goal.invariant-blanks
invariant-blanks l = after_blanks (drop l.index l.bytes) ≡ after_blanks l.bytes
