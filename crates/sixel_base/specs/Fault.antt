-- The faults of data, apart from any code: the texts of invalid data, a missing introducer, and a
-- size that overflows. The causes are those of the documentation of icy_sixel.
use Rattle.std.specs.Prelude.{◌≡◌, List, ℕ, codes, Bool, true, false, IsTrue, Option, Some, None}
use Rattle.std.specs.Prelude.{IsSomeAnd}
use Rattle.sixel_base.specs.declared.error.SixelError.{SixelError}
use Rattle.sixel_base.specs.declared.error.SixelError.TheVariants.{InvalidDimensions}
use Rattle.sixel_base.specs.declared.error.SixelError.TheVariants.{BufferSizeMismatch, InvalidData}
use Rattle.sixel_base.specs.declared.error.SixelError.TheVariants.{NoSixelData, IntegerOverflow}
use Rattle.sixel_base.specs.declared.error.SixelError.TheVariants.{OutOfMemory}

pub data Fault : Type 0 where
  Malformed : Fault
  TooLarge : Fault
  MissingCommand : Fault
  BadHeader : Fault
  StreamFailed : Fault
  DcsStreamFailed : Fault
  Incomplete : Fault
  NoIntroducer : Fault
  Overflow : Fault

-- the text of invalid data; the other two faults are errors of their own
abbrev pub text_of : Fault → Option (List ℕ)
text_of Malformed = Some (codes "malformed SIXEL data")
text_of TooLarge = Some (codes "image dimensions too large")
text_of MissingCommand = Some (codes "missing SIXEL DCS command")
text_of BadHeader = Some (codes "invalid SIXEL DCS header")
text_of StreamFailed = Some (codes "stream decoder has failed")
text_of DcsStreamFailed = Some (codes "DCS stream decoder has failed")
text_of Incomplete = Some (codes "incomplete SIXEL DCS sequence")
text_of NoIntroducer = None
text_of Overflow = None

-- the error names this fault
abbrev pub IsFault : SixelError → Fault → Type 0
IsFault (InvalidDimensions _ _) fault = ⊥
IsFault (BufferSizeMismatch _ _) fault = ⊥
IsFault (InvalidData text) fault = text_of fault ≡ Some text.now
IsFault NoSixelData fault = fault ≡ NoIntroducer
IsFault IntegerOverflow fault = fault ≡ Overflow
IsFault OutOfMemory fault = ⊥

-- The errors that a call may return where this fault was found: the fault, or out of memory where
-- an allocation may fail.
abbrev pub Faults : SixelError → Bool → Option Fault → Type 0
Faults OutOfMemory may_want found = IsTrue may_want
Faults error may_want found = IsSomeAnd found (IsFault error)

-- whether an error is a fault, and no failed allocation
abbrev pub is_fault : SixelError → Bool
is_fault OutOfMemory = false
is_fault error = true
