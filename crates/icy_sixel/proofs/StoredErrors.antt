-- What the calls of an image do whose first error is stored, by what they do to one that stores
-- none, as in a session.
use Rattle.std.proofs.Common.{◌≡◌, ◌≢◌, ℕ, Bool, true, false, List, [], ◌∷◌, None, Some, Option, Ok}
use Rattle.std.proofs.{Common.Err, Common.arith, Common.refl, lemmas.Bool.Decides.nat_tests}
use Rattle.std.specs.{Option.option_map, Prelude.MatchBool, Prelude.if◌then◌else◌, Prelude.is_some}
use Rattle.sixel_base.specs.Fault.{Fault, Faults, Incomplete, IsFault, MissingCommand}
use Rattle.sixel_base.specs.Dcs.{Introduced, can_finish, introduced, stage_after, stage_by}
use Rattle.sixel_base.specs.{Dcs.stage_fault, Header.Headed, Header.Faulty, Header.headed_by}
use Rattle.sixel_base.specs.{History.History, History.Token, Limits.Limit, Payload.fault_of}
use Rattle.sixel_base.specs.{Payload.first_fault, declared.error.SixelError.SixelError}
use Rattle.sixel_decoder.specs.{FedImages.IsFed, FedImages.fault, Reception.OfString}
use Rattle.sixel_decoder.specs.{Reception.Reception, Session.Session}
use Rattle.sixel_decoder.specs.{declared.received.FailedRead.FailedRead}
use Rattle.sixel_decoder.specs.{declared.received.Received.Received}
use Rattle.sixel_decoder.specs.FinishedImages.{IsStored, end_fault, failed}
use Rattle.sixel_decoder.specs.Reception.{Form, HasNoPayload, IsPayloadOf, Nothing, OfPayload}
use Rattle.icy_sixel.specs.{Receiver.AreSettingsKept, ReceiverCalls.IsCounted}
use Rattle.icy_sixel.specs.{declared.receiver.FailedFeed.FailedFeed, declared.receiver.Open.Open}
use Rattle.icy_sixel.specs.declared.receiver.SixelReceiver.TheInside.{Inside}
use Rattle.icy_sixel.specs.declared.receiver.failure.Failure.{Failure}
use Rattle.icy_sixel.specs.inside.Receiving.{IsFirst, StoresFailure, receiver_of, reception_of}
use Rattle.icy_sixel.specs.ReceiverCalls as receivers
use Rattle.icy_sixel.specs.declared.receiver.Open.TheVariants as opened
use Rattle.icy_sixel.specs.inside.Receiving as receiving

-- the payload of the image, or that it has none
pub lent_stored : (payload : Session) (image : Reception) (failure : Option (Option Fault))
    → IsPayloadOf payload image → IsPayloadOf payload (record image { failure = failure })
lent_stored payload image failure is = grind arith

pub none_stored : (image : Reception) (failure : Option (Option Fault)) → HasNoPayload image
    → HasNoPayload (record image { failure = failure })
none_stored image failure is = grind arith

-- a feed that succeeds
pub fed_ok : (old new : Reception) (failure : Option (Option Fault)) (chunk : List ℕ)
    (fed : Received) → IsFed old new chunk (Ok fed)
    → IsFed (record old { failure = failure }) (record new { failure = failure }) chunk (Ok fed)
fed_ok old new failure chunk fed is = grind (arith, nat_tests)

-- a feed finds no missing command
token_other : (limit : Limit) (token : Token) (older : History)
    → fault_of limit token older ≢ Some MissingCommand
token_other limit token older = grind (arith, nat_tests)

payload_other : (limit : Limit) (history : History)
    → first_fault limit history ≢ Some MissingCommand
payload_other limit [] = grind (arith, nat_tests)
payload_other limit (token ∷ older) =
    let before = payload_other limit older in
    let last = token_other limit token older in
    grind (arith, nat_tests)

headed_other : (rest : List ℕ) → headed_by rest ≢ Faulty MissingCommand
headed_other [] = grind (arith, nat_tests)
headed_other (byte ∷ rest) = grind (arith, nat_tests)

after_other : (limit : Limit) (rest : List ℕ) (head : Headed) → head ≢ Faulty MissingCommand
    → stage_fault limit (stage_after rest head) ≢ Some MissingCommand
after_other limit rest head other = grind (arith, nat_tests, payload_other)

stage_other : (limit : Limit) (introduced : Introduced)
    → stage_fault limit (stage_by introduced) ≢ Some MissingCommand
stage_other limit introduced = grind (arith, nat_tests, after_other, headed_other)

feed_other : (limit : Limit) (form : Form) (bytes : List ℕ)
    → fault limit form bytes ≢ Some MissingCommand
feed_other limit Nothing bytes = grind (arith, nat_tests)
feed_other limit (OfPayload settings) bytes = grind (arith, nat_tests, payload_other)
feed_other limit OfString bytes = stage_other limit (introduced bytes)

unfinished_other : (test : Bool) → (if test then None else Some Incomplete) ≢ Some MissingCommand
unfinished_other test = grind (arith, nat_tests)

-- nor does the end
pub end_other : (limit : Limit) (form : Form) (bytes : List ℕ)
    → end_fault limit form bytes ≢ Some MissingCommand
end_other limit Nothing bytes = grind (arith, nat_tests)
end_other limit (OfPayload settings) bytes = grind (arith, nat_tests, payload_other)
end_other limit OfString bytes = unfinished_other (can_finish limit bytes)

-- the error is stored
error_stored : (was_refused may : Bool) (now : Option (Option Fault)) (form : Form)
    (found : Option Fault) (error : SixelError)
    → ((may : Bool) (found : Option Fault) → found ≢ Some MissingCommand → Faults error may found
    → IsStored now error) → found ≢ Some MissingCommand
    → MatchBool was_refused (IsFault error (failed form)) (Faults error may found)
    → IsStored now error
error_stored true may now form found error stored other is =
    stored false (Some (failed form)) (grind (arith, nat_tests)) (grind (arith, nat_tests))
error_stored false may now form found error stored other is = stored may found other is

fed_err : (old new : Reception) (failure now : Option Failure) (chunk : List ℕ)
    (told : FailedRead) (result : FailedFeed) → old.failure ≡ None
    → IsFed old new chunk (Err told.error)
    → (is_some failure ≡ true → old.is_refused ≡ true) → IsFirst failure now told result
    → IsFed (record old { failure = option_map receiving.fault_of failure })
    (record new { failure = option_map receiving.fault_of now }) chunk (Err result.error)
    × IsStored (option_map receiving.fault_of now) result.error
fed_err old new None now chunk told result none is rejected first = rw (first.first refl) (
  grind (arith, nat_tests),
  error_stored old.is_refused _ _ old.form _ told.error (λ may found. first.stored may found refl)
      (feed_other old.start.pixel_limit new.form new.bytes) (rw none at is.error),
)
fed_err old new (Some fault) now chunk told result none is rejected first =
    let same = first.again refl in (
      grind (arith, nat_tests, rejected refl),
      rw same.0 same.1,
    )

no_failure : (image : Open) → (reception_of image).failure ≡ None
no_failure opened.Nothing = refl
no_failure (opened.Payload reader) = refl
no_failure (opened.ControlString reader) = refl

-- what a feed of a receiver that fails does
pub fed_failed : (old new : Inside) (chunk : List ℕ) (told : FailedRead) (result : FailedFeed)
    → new.decoder ≡ old.decoder → AreSettingsKept (receiver_of old) (receiver_of new)
    → StoresFailure old
    → IsFed (reception_of old.open) (reception_of new.open) chunk (Err told.error)
    → IsCounted (reception_of old.open) (reception_of new.open) chunk told.fed
    → IsFirst old.failure new.failure told result
    → receivers.IsFed (receiver_of old) (receiver_of new) chunk (Err result)
fed_failed old new chunk told result decoder settings rejected is counted first =
    let fed = fed_err (reception_of old.open) (reception_of new.open) old.failure new.failure chunk
    told result (no_failure old.open) is rejected first in
    record {
      decoder = decoder;
      settings = settings;
      fed = fed.0;
      failure = fed.1;
      counted = rw (first.consumed, first.status) counted;
    }
