-- Lenient decoding: a command with a fault is ignored, and the image goes on. The tokens that are
-- tolerated take effect. A sixel that is ignored leaves a repeat of one column, so that its own
-- repeat does not pass on to the next sixel. The rule is this library's own.
use Rattle.std.specs.Prelude.{ℕ, ◌+◌, min, [], ◌∷◌, Option, None, is_none, if◌then◌else◌}
use Rattle.sixel_base.specs.{Fault.Fault, History.{Token, Sixel, Repeat, History}, Limits.Limit}
use Rattle.sixel_base.specs.TokenFaults.{fault_of, first_fault}

-- the tokens that take effect where this one is ignored
abbrev pub without : Token → History → History
without (Sixel _) older = Repeat [] ∷ older
without _ older = older

-- and where it is ignored only if it has a fault after them
abbrev pub with_tolerated : Limit → Token → History → History
with_tolerated limit token older =
    if is_none (fault_of limit token older) then token ∷ older else without token older

-- the tokens that are tolerated: each one that has no fault after the tolerated ones before it
abbrev pub tolerated : Limit → History → History
tolerated limit [] = []
tolerated limit (token ∷ older) = with_tolerated limit token (tolerated limit older)

-- the greatest number of ignored tokens that is counted
abbrev pub count_limit : ℕ
count_limit = 0xffff_ffff_ffff_ffff

-- how many of the tokens are not tolerated, up to that number
abbrev pub ignored : Limit → History → ℕ
ignored limit [] = 0
ignored limit (token ∷ older) =
    if is_none (fault_of limit token (tolerated limit older)) then ignored limit older
    else min (ignored limit older + 1) count_limit

-- the tokens that take effect: all, or the tolerated ones of a lenient image
abbrev pub effective : Limit → History → History
effective limit history = if limit.lenient then tolerated limit history else history

-- how many are ignored: none unless the image is lenient
abbrev pub ignored_count : Limit → History → ℕ
ignored_count limit history = if limit.lenient then ignored limit history else 0

-- what is wrong with the tokens: their first fault, or nothing if the image is lenient
abbrev pub fault : Limit → History → Option Fault
fault limit history = if limit.lenient then None else first_fault limit history
