-- What contracts see of a receiver, by its parts: the record of the session inside, in the words of
-- both forms, and the error that is stored. This library's own.
use Rattle.std.specs.{Option.option_map, Prelude.{◌≡◌, ◌≢◌, Bool, true, Option, Some, None}}
use Rattle.std.specs.Prelude.{is_some}
use Rattle.sixel_base.specs.Fault.{Fault, Faults, Malformed, MissingCommand, TooLarge, BadHeader}
use Rattle.sixel_base.specs.Fault.{StreamFailed, DcsStreamFailed, Incomplete, NoIntroducer}
use Rattle.sixel_base.specs.Fault.{Overflow}
use Rattle.sixel_decoder.specs.{FinishedImages.IsStored, Reception.{Reception, of_payload}}
use Rattle.sixel_decoder.specs.{Reception.of_sequence, declared.received.FailedRead.FailedRead}
use Rattle.icy_sixel.specs.{Receiver.{Receiver, no_image}, declared.receiver.FailedFeed.FailedFeed}
use Rattle.icy_sixel.specs.declared.receiver.Open.{Open}
use Rattle.icy_sixel.specs.declared.receiver.SixelReceiver.TheInside.{Inside}
use Rattle.icy_sixel.specs.declared.receiver.failure.Failure.{Failure}
use Rattle.icy_sixel.specs.declared.receiver.Open.TheVariants as opened
use Rattle.icy_sixel.specs.declared.receiver.failure.Failure.TheVariants as failures

abbrev pub reception_of : Open → Reception
reception_of opened.Nothing = no_image
reception_of (opened.Payload reader) = of_payload reader
reception_of (opened.ControlString reader) = of_sequence reader

-- the fault of an error that is stored, where a failed allocation is none
abbrev pub fault_of : Failure → Option Fault
fault_of failures.Malformed = Some Malformed
fault_of failures.TooLarge = Some TooLarge
fault_of failures.BadHeader = Some BadHeader
fault_of failures.StreamFailed = Some StreamFailed
fault_of failures.DcsStreamFailed = Some DcsStreamFailed
fault_of failures.Incomplete = Some Incomplete
fault_of failures.NoIntroducer = Some NoIntroducer
fault_of failures.Overflow = Some Overflow
fault_of failures.OutOfMemory = None

abbrev pub receiver_of : Inside → Receiver
receiver_of receiver = record {
  decoder = receiver.decoder;
  lenient = receiver.lenient;
  transparent = receiver.transparent;
  first_register = receiver.first_register;
  image = record (reception_of receiver.open) { failure = option_map fault_of receiver.failure };
}

-- an error is stored for a rejected image alone
abbrev pub StoresFailure : Inside → Type 0
StoresFailure receiver =
    is_some receiver.failure ≡ true → (reception_of receiver.open).is_refused ≡ true

-- The result is a failed feed with the error of the first one, which is stored.
pub record IsFirst (old now : Option Failure) (failed : FailedRead) (result : FailedFeed)
    : Type 0 where
  pub consumed : result.consumed ≡ failed.fed.consumed
  pub status : result.status ≡ failed.fed.status
  pub again : is_some old ≡ true
      → (now ≡ old) × IsStored (option_map fault_of old) result.error
  pub first : old ≡ None → result.error ≡ failed.error
  pub stored : (may : Bool) (found : Option Fault) → old ≡ None → found ≢ Some MissingCommand
      → Faults failed.error may found → IsStored (option_map fault_of now) failed.error
