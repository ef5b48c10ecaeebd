-- How the header of a DCS sequence continues with a byte, and which of its faults an error names.
-- An invariant of this library's own: what a header means is in Header of sixel_base.
use Rattle.std.specs.Prelude.{ℕ, ◌≡◌, true, false, List, [], ◌∷◌, ◌++◌, Option, Result, MatchResult}
use Rattle.std.specs.Prelude.{MatchOption, IsSomeAnd}
use Rattle.sixel_base.specs.{Bytes.carrying, Fault.{IsFault, MissingCommand}, Header.{Headed, Open}}
use Rattle.sixel_base.specs.Header.{Begun, Faulty, is_header, settings_of, command_fault}
use Rattle.sixel_base.specs.{Settings.Settings, declared.error.SixelError.SixelError}
use Rattle.sixel_base.specs.inside.Parameters.{Parameters, Keeps}

-- The parameters are those of the text before the byte; the byte continues the header, ends it, or
-- is a fault.
abbrev pub StepsTo : Result (Option Settings) SixelError → Parameters → List ℕ → ℕ → Type 0
StepsTo result parameters text byte =
    MatchResult result
    (λ answer. MatchOption answer
    ((is_header byte ≡ true) × Keeps parameters (text ++ carrying (byte ∷ [])))
    (λ settings. (is_header byte ≡ false) × (byte ≡ 113) × (settings ≡ settings_of text)))
    (λ error. (is_header byte ≡ false) × IsSomeAnd (command_fault byte) (IsFault error))

-- the error names what is wrong with a header
abbrev pub IsHeaderFault : SixelError → Headed → Type 0
IsHeaderFault error Open = IsFault error MissingCommand
IsHeaderFault error (Begun payload) = ⊥
IsHeaderFault error (Faulty fault) = IsFault error fault
