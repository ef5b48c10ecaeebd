-- The faults of the arguments of a call on an image, a palette or rows, apart from any code. Sizes
-- and lengths determine some of them. Others are a number of colors or an index that SIXEL has no
-- registers for, rows that are not final or were released, and a stride that is too short. The
-- texts are this library's own.
use Rattle.std.specs.Prelude.{◌≡◌, ℕ, ◌==◌, ◌||◌, nat_lt, if◌then◌else◌, List, codes, Option, Some}
use Rattle.std.specs.Prelude.{None, Result, Ok, IfErr, MatchResult}
use Rattle.sixel_base.specs.declared.error.SixelError.{SixelError}
use Rattle.sixel_base.specs.declared.error.SixelError.TheVariants.{InvalidDimensions}
use Rattle.sixel_base.specs.declared.error.SixelError.TheVariants.{BufferSizeMismatch, InvalidData}
use Rattle.sixel_base.specs.declared.error.SixelError.TheVariants.{NoSixelData, IntegerOverflow}
use Rattle.sixel_base.specs.declared.error.SixelError.TheVariants.{OutOfMemory}

-- this very error, a palette of no colors or of more than there are registers, an index past it,
-- rows of an image that are not final, rows that were released, rows that overlap in the caller's
-- memory
pub data CallFault : Type 0 where
  Exactly : SixelError → CallFault
  ColorCount : CallFault
  IndexRange : CallFault
  RowsNotFinal : CallFault
  RowsReleased : CallFault
  ShortStride : CallFault

-- the error is invalid data with this text
abbrev pub HasText : SixelError → List ℕ → Type 0
HasText (InvalidDimensions _ _) text = ⊥
HasText (BufferSizeMismatch _ _) text = ⊥
HasText (InvalidData own) text = own.now ≡ text
HasText NoSixelData text = ⊥
HasText IntegerOverflow text = ⊥
HasText OutOfMemory text = ⊥

-- the error names this fault
abbrev pub IsCallFault : SixelError → CallFault → Type 0
IsCallFault error (Exactly fault) = error ≡ fault
IsCallFault error ColorCount = HasText error (codes "number of colors is not 1 to 256")
IsCallFault error IndexRange = HasText error (codes "palette index out of range")
IsCallFault error RowsNotFinal = HasText error (codes "rows are not final")
IsCallFault error RowsReleased = HasText error (codes "rows were released")
IsCallFault error ShortStride = HasText error (codes "stride is shorter than a row")

-- a call with this fault fails by it; a call with none only if an allocation fails
abbrev pub FailsBy : {X : Type 0} → Option CallFault → Result X SixelError → Type 0
FailsBy None result = IfErr result (λ e. e ≡ OutOfMemory)
FailsBy (Some fault) result = MatchResult result (λ _. ⊥) (λ e. IsCallFault e fault)

-- a test of this fault passes if there is none, and otherwise fails by it
abbrev pub IsVerdict : Option CallFault → Result (Unit {0}) SixelError → Type 0
IsVerdict None result = result ≡ Ok tt
IsVerdict (Some fault) result = MatchResult result (λ _. ⊥) (λ e. IsCallFault e fault)

-- what is wrong with a palette of `count` colors
abbrev pub color_count_fault : ℕ → Option CallFault
color_count_fault count = if count == 0 || nat_lt 256 count then Some ColorCount else None

-- an error of the sizes, as a fault of the call
abbrev pub size_call_fault : Option SixelError → Option CallFault
size_call_fault None = None
size_call_fault (Some error) = Some (Exactly error)
