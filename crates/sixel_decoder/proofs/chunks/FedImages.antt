-- What a feed of an image does beside its count and its status, by the form of the image: once the
-- end has come it takes no byte, and its error is that of all bytes.
use Rattle.std.proofs.Common.{◌≡◌, ℕ, ◌+◌, ◌≤◌, true, false, List, ◌++◌, ap, sym, ◌∙◌, arith, refl}
use Rattle.std.proofs.Common.{append-nil, Option, Some, None, Result, Ok, Err, length}
use Rattle.std.{proofs.lemmas.Bool.Decides.nat_tests, specs.Prelude.{nat_lt, is_some, MatchResult}}
use Rattle.sixel_base.{specs.Bytes.first_terminator, specs.Dcs.{dcs_fault, dcs_growths}}
use Rattle.sixel_base.{specs.Fault.Faults, specs.Limits.Limit, specs.Payload.payload_fault}
use Rattle.sixel_base.{specs.Payload.payload_wants, specs.Settings.Settings, specs.Status.status_of}
use Rattle.sixel_base.specs.declared.error.SixelError.{SixelError}
use Rattle.sixel_decoder.proofs.chunks.Joined.{first_terminator-ended}
use Rattle.sixel_decoder.proofs.chunks.PayloadFaults.{payload_refused}
use Rattle.sixel_decoder.proofs.chunks.Sessions.{MatchBool-from_each, dcs_count-most, frame_refused}
use Rattle.sixel_decoder.proofs.chunks.Sessions.{never_refused, same_string, string_refused}
use Rattle.sixel_decoder.{proofs.dcs_sequences.Ends.count-most, proofs.images.Finality.count_ended}
use Rattle.sixel_decoder.proofs.images.Finality.{settled_ended, status_ended, dcs_count_ended}
use Rattle.sixel_decoder.proofs.images.Finality.{dcs_fault_ended, dcs_growths_ended}
use Rattle.sixel_decoder.specs.FedImages.{IsFed, count, fault, growths, is_over, status}
use Rattle.sixel_decoder.{specs.FinishedImages.IsAgain, specs.Reception.{Form, Nothing, OfPayload}}
use Rattle.sixel_decoder.specs.Reception.{OfString, Reception}
use Rattle.sixel_decoder.specs.declared.received.Received.{Received}
use Rattle.sixel_base.specs.Lenient.{fault as reported}
use Rattle.sixel_base.specs.Payload as payloads
use Rattle.sixel_decoder.specs.declared.received.Status.TheVariants as statuses

-- ---- after the end

-- the bytes that follow mean nothing
pub record IsSame (limit : Limit) (form : Form) (bytes all : List ℕ) : Type 0 where
  pub counted : count form all ≡ count form bytes
  pub stands : status form all ≡ status form bytes
  pub faults : fault limit form all ≡ fault limit form bytes
  pub grows : growths form all ≡ growths form bytes

pub terminator_of : (o : Option ℕ) → is_some o ≡ true → (t : ℕ) × (o ≡ Some t)
terminator_of None is = absurd cc
terminator_of (Some t) is = (t, refl)

pub ended : (limit : Limit) (form : Form) (bytes more : List ℕ) → is_over form bytes ≡ true
    → IsSame limit form bytes (bytes ++ more)
ended limit Nothing bytes more over = absurd cc
ended limit (OfPayload settings) bytes more over =
    let t = terminator_of (first_terminator bytes) over in
    let same = settled_ended bytes more t.0 t.1 in
    record {
      counted = count_ended bytes more t.0 t.1;
      stands =
          ap (λ w. statuses.Payload (status_of w))
          (first_terminator-ended bytes more t.0 t.1 ∙ sym t.1);
      faults = ap (reported limit) same;
      grows = ap payloads.growths same;
    }
ended limit OfString bytes more over =
    grind (arith, nat_tests, dcs_count_ended, status_ended, dcs_fault_ended, dcs_growths_ended)

-- a chunk adds at most its bytes
fits : (form : Form) (bytes chunk : List ℕ)
    → count form (bytes ++ chunk) ≤ count form bytes + length chunk
fits Nothing bytes chunk = omega arith
fits (OfPayload settings) bytes chunk = count-most bytes chunk
fits OfString bytes chunk = dcs_count-most bytes chunk

-- ---- a feed

-- The bytes go on to all of these, or are rejected by their fault.
abbrev pub Reads : Limit → Form → List ℕ → List ℕ → Result Received SixelError → Type 0
Reads limit form bytes all result =
    MatchResult result
    (λ fed. (count form bytes + fed.consumed ≡ count form all)
    × (fed.status ≡ status form all)
    × (fault limit form all ≡ None))
    (λ error. Faults error (nat_lt (growths form bytes) (growths form all)) (fault limit form all))

-- after the end it consumes no byte and reports the end again
over_by : (limit : Limit) (form : Form) (bytes chunk : List ℕ) (result : Result Received SixelError)
    → fault limit form bytes ≡ None → Reads limit form bytes (bytes ++ chunk) result
    → is_over form bytes ≡ true
    → result ≡ Ok (record { consumed = 0; status = status form bytes })
over_by limit form bytes chunk (Ok fed) sound is over = grind (arith, nat_tests, ended)
over_by limit form bytes chunk (Err e) sound is over =
    grind (arith, nat_tests, ended, never_refused)

not_err : (fed : Received) (e : SixelError) → Ok fed ≡ Err e → ⊥
not_err fed e is = cc

pub image_fed : (old new : Reception) (chunk : List ℕ) (fed : Received)
    → old.is_refused ≡ false → new.is_refused ≡ false
    → new.form ≡ old.form → new.start ≡ old.start → new.released ≡ old.released
    → new.bytes ≡ old.bytes ++ chunk
    → fault old.start.pixel_limit old.form old.bytes ≡ None
    → Reads old.start.pixel_limit old.form old.bytes (old.bytes ++ chunk) (Ok fed)
    → IsFed old new chunk (Ok fed)
image_fed old new chunk fed was now form start released bytes sound is =
    let limit : Limit = old.start.pixel_limit in
    record {
      form = form;
      start = start;
      released = released;
      bytes = λ _. bytes;
      ok = (was, now);
      err = tt;
      faultless = rw (form, bytes) is.2;
      sound = λ accepted. sound;
      over = λ accepted over. over_by limit old.form old.bytes chunk (Ok fed) sound is over;
      over_for_good = λ more string over. same_string limit new.bytes more over;
      consumed = rw (form, bytes) is.0;
      within = omega (arith, is.0, fits old.form old.bytes chunk);
      status = rw (form, bytes) is.1;
      error = tt;
      refused = λ settings e is one. absurd (not_err fed e one);
      refused_for_good = λ settings e more is one. absurd (not_err fed e one);
      string_refused_for_good = λ e more is one. absurd (not_err fed e one);
    }

same_error : (result : Result Received SixelError) (e told : SixelError) → result ≡ Err e
    → result ≡ Err told → e ≡ told
same_error result e told first second =
    cc

-- the error of a payload is that of decoding all bytes in one call
payload_told : (limit : Limit) (form : Form) (settings : Settings) (e told : SixelError)
    (fed left bytes : List ℕ) (n : ℕ) → form ≡ OfPayload settings
    → e ≡ told → fed ++ left ≡ bytes
    → Faults e (nat_lt n (growths form fed)) (fault limit form fed)
    → Faults told (payload_wants limit bytes) (payload_fault limit bytes)
payload_told limit form settings e told fed left bytes n is same joined refused =
    grind (arith, nat_tests, payload_refused, frame_refused)

-- that of a DCS sequence is that of all bytes
string_told : (limit : Limit) (form : Form) (e told : SixelError) (fed left : List ℕ) (n : ℕ)
    → form ≡ OfString → e ≡ told
    → Faults e (nat_lt n (growths form fed)) (fault limit form fed)
    → Faults told (nat_lt 0 (dcs_growths (fed ++ left))) (dcs_fault limit (fed ++ left))
string_told limit form e told fed left n is same refused = grind (arith, nat_tests, string_refused)

pub image_rejected : (old new : Reception) (chunk : List ℕ) (e : SixelError)
    → new.is_refused ≡ true → new.form ≡ old.form → new.start ≡ old.start
    → new.bytes ≡ old.bytes ++ chunk
    → (old.is_refused ≡ false → fault old.start.pixel_limit old.form old.bytes ≡ None)
    → (old.is_refused ≡ true → IsAgain old.failure old.form e)
    → (old.is_refused ≡ false
    → Reads old.start.pixel_limit old.form old.bytes (old.bytes ++ chunk) (Err e))
    → IsFed old new chunk (Err e)
image_rejected old new chunk e now form start bytes sound again told =
    let limit : Limit = old.start.pixel_limit in
    let all : List ℕ = old.bytes ++ chunk in
    record {
      form = form;
      start = start;
      released = tt;
      bytes = λ _. bytes;
      ok = tt;
      err = now;
      faultless = tt;
      sound = sound;
      over = λ was over.
          over_by limit old.form old.bytes chunk (Err e) (sound was) (told was) over;
      over_for_good = λ more. tt;
      consumed = tt;
      within = tt;
      status = tt;
      error = rw (form, bytes) (MatchBool-from_each old.is_refused _ _ again told);
      refused = λ settings found is one was.
          rw bytes (payload_told limit old.form settings e found all _ all _ is
          (same_error (Err e) e found refl one) (append-nil all) (told was));
      refused_for_good = λ settings found more is one was.
          rw bytes (payload_told limit old.form settings e found all more (all ++ more) _ is
          (same_error (Err e) e found refl one) refl (told was));
      string_refused_for_good = λ found more is one was.
          rw bytes (string_told limit old.form e found all more _ is
          (same_error (Err e) e found refl one) (told was));
    }
