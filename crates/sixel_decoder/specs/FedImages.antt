-- What feeding an image in chunks does, by the image before and after. Each field is one fact. What
-- the bytes mean is in Payload and Dcs of sixel_base, which do not mention chunks.
use Rattle.std.specs.Prelude.{ℕ, ◌≡◌, ◌+◌, ◌≤◌, ◌++◌, List, length, Bool, true, false, nat_lt}
use Rattle.std.specs.Prelude.{Option, None, Result, Ok, Err, OnOk, OnErr, IfOk, IfErr, MatchBool}
use Rattle.std.specs.Result.{result_map_both}
use Rattle.sixel_base.specs.declared.error.SixelError.{SixelError}
use Rattle.sixel_base.specs.declared.status.SixelDcsFeedResult.{SixelDcsFeedResult}
use Rattle.sixel_base.specs.declared.status.SixelFeedResult.{SixelFeedResult}
use Rattle.sixel_base.specs.declared.status.SixelFeedStatus.TheVariants.{NeedMoreData, Terminated}
use Rattle.sixel_base.specs.{Bytes.{first_terminator, is_terminated}, Dcs.{dcs_count, dcs_status}}
use Rattle.sixel_base.specs.{Dcs.{dcs_fault, dcs_growths, IsSameString}, Fault.{Fault, Faults}}
use Rattle.sixel_base.specs.{Limits.Limit, Payload.{fed_fault, settled, payload_fault}}
use Rattle.sixel_base.specs.{Payload.payload_wants, Settings.Settings, Status.status_of}
use Rattle.sixel_decoder.specs.{FinishedImages.IsAgain, Reception.{Form, Nothing, OfPayload}}
use Rattle.sixel_decoder.specs.Reception.{OfString, Reception}
use Rattle.sixel_decoder.specs.declared.{received.FailedRead.FailedRead, received.Received.Received}
use Rattle.sixel_decoder.specs.declared.received.Status.{Status}
use Rattle.sixel_base.specs.Bytes as own
use Rattle.sixel_base.specs.Dcs as strings
use Rattle.sixel_base.specs.Payload as payloads
use Rattle.sixel_decoder.specs.declared.received.Status.TheVariants as statuses

abbrev pub is_open : Form → Bool
is_open Nothing = false
is_open form = true

-- how many bytes belong to the image
abbrev pub count : Form → List ℕ → ℕ
count Nothing bytes = 0
count (OfPayload settings) bytes = own.count bytes
count OfString bytes = dcs_count bytes

-- its status
abbrev pub status : Form → List ℕ → Status
status Nothing bytes = statuses.Payload NeedMoreData
status (OfPayload settings) bytes = statuses.Payload (status_of (first_terminator bytes))
status OfString bytes = statuses.Dcs (dcs_status bytes)

-- whether an image of this status has ended
abbrev pub has_ended : Status → Bool
has_ended (statuses.Payload NeedMoreData) = false
has_ended (statuses.Payload (Terminated byte)) = true
has_ended (statuses.Dcs status) = strings.has_ended status

-- whether it has ended
abbrev pub is_over : Form → List ℕ → Bool
is_over Nothing bytes = false
is_over (OfPayload settings) bytes = is_terminated bytes
is_over OfString bytes = strings.has_ended (dcs_status bytes)

-- what is wrong with the bytes so far
abbrev pub fault : Limit → Form → List ℕ → Option Fault
fault limit Nothing bytes = None
fault limit (OfPayload settings) bytes = fed_fault limit bytes
fault limit OfString bytes = dcs_fault limit bytes

-- how many closed sixels and raster attributes there are
abbrev pub growths : Form → List ℕ → ℕ
growths Nothing bytes = 0
growths (OfPayload settings) bytes = payloads.growths (settled bytes)
growths OfString bytes = dcs_growths bytes

-- the result of a feed of either form
abbrev pub of_payload_fed : SixelFeedResult → Received
of_payload_fed fed = record { consumed = fed.consumed; status = statuses.Payload fed.status }

abbrev pub of_sequence_fed : SixelDcsFeedResult → Received
of_sequence_fed fed = record { consumed = fed.consumed; status = statuses.Dcs fed.status }

-- the result of a feed of a session, whose error counts no byte
abbrev pub uncounted : {A : Type 0} → Result A FailedRead → Result A SixelError
uncounted result = result_map_both (λ fed. fed) (λ failed. failed.error) result

-- The image reads the chunk as far as it goes, or is rejected.
pub record IsFed (old new : Reception) (chunk : List ℕ)
    (result : Result Received SixelError) : Type 0 where
  -- a payload stays a payload, and a DCS sequence a DCS sequence
  pub form : new.form ≡ old.form
  -- the decoder that the image began from stays
  pub start : new.start ≡ old.start
  -- a feed releases no row
  pub released : OnOk result (new.released ≡ old.released)
  -- the chunk follows the bytes so far
  pub bytes : is_open old.form ≡ true → new.bytes ≡ old.bytes ++ chunk
  -- a feed succeeds only if no earlier one failed, and leaves the image open
  pub ok : OnOk result ((old.is_refused ≡ false) × (new.is_refused ≡ false))
  -- an error rejects the image
  pub err : OnErr result (new.is_refused ≡ true)
  -- bytes that were accepted have no fault
  pub faultless : OnOk result (fault old.start.pixel_limit new.form new.bytes ≡ None)
  -- the bytes of an image that was not rejected before have no fault either
  pub sound : old.is_refused ≡ false → fault old.start.pixel_limit old.form old.bytes ≡ None
  -- after the end a feed consumes nothing and reports the same status
  pub over : old.is_refused ≡ false → is_over old.form old.bytes ≡ true
      → result ≡ Ok (record { consumed = 0; status = status old.form old.bytes })
  -- no bytes that follow the end change what a DCS sequence means
  pub over_for_good : (more : List ℕ) → IfOk result (λ fed. old.form ≡ OfString
      → is_over OfString new.bytes ≡ true
      → IsSameString old.start.pixel_limit new.bytes (new.bytes ++ more))
  -- the bytes consumed are those of the image
  pub consumed : IfOk result (λ fed.
      count old.form old.bytes + fed.consumed ≡ count new.form new.bytes)
  -- they are at most the chunk
  pub within : IfOk result (λ fed. fed.consumed ≤ length chunk)
  -- the status is that of all bytes so far
  pub status : IfOk result (λ fed. fed.status ≡ status new.form new.bytes)
  -- an error is the first fault of all bytes so far, or an allocation failed; after an error each
  -- feed reports that error again, if it is stored, and else that the stream has failed
  pub error : IfErr result (λ error. MatchBool old.is_refused
      (IsAgain old.failure old.form error)
      (Faults error
      (nat_lt (growths old.form old.bytes) (growths new.form new.bytes))
      (fault old.start.pixel_limit new.form new.bytes)))
  -- decoding the bytes of a payload in one call fails with that error
  pub refused : (settings : Settings) (error : SixelError)
      → old.form ≡ OfPayload settings → result ≡ Err error → old.is_refused ≡ false
      → Faults error
      (payload_wants old.start.pixel_limit new.bytes)
      (payload_fault old.start.pixel_limit new.bytes)
  -- that stays so, whatever bytes follow
  pub refused_for_good : (settings : Settings) (error : SixelError) (more : List ℕ)
      → old.form ≡ OfPayload settings → result ≡ Err error → old.is_refused ≡ false
      → Faults error
      (payload_wants old.start.pixel_limit (new.bytes ++ more))
      (payload_fault old.start.pixel_limit (new.bytes ++ more))
  -- a DCS sequence keeps its fault, whatever bytes follow
  pub string_refused_for_good : (error : SixelError) (more : List ℕ)
      → old.form ≡ OfString → result ≡ Err error → old.is_refused ≡ false
      → Faults error (nat_lt 0 (dcs_growths (new.bytes ++ more)))
      (dcs_fault old.start.pixel_limit (new.bytes ++ more))
