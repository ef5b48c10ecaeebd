use Rattle.std.proofs.Common.{◌≡◌, drop}
use Rattle.sixel.specs.Number.{with_digits}
use Rattle.sixel.proofs.number.number.Given as goal

-- the number so far, and the digits after it
abbrev pub invariant-digits : goal.invariant-digits
invariant-digits l = with_digits l.number (drop l.byte-index l.digits) ≡ with_digits 0 l.digits
