-- What has ended or is rejected stays so, whatever bytes follow.
use Rattle.std.proofs.Common.{◌≡◌, ℕ, ◌≤◌, true, List, ◌++◌, refl, ap, arith, Option, Some, None}
use Rattle.std.{proofs.Common.{length, length-append}, proofs.lemmas.Bool.Decides.nat_tests}
use Rattle.std.{proofs.lemmas.List.Sums.fold-append, specs.Prelude.fold}
use Rattle.sixel_base.{specs.Bytes.{front, carrying, count, first_terminator}, specs.Dcs.Stage}
use Rattle.sixel_base.specs.Dcs.{Heading, Failing, Reading, stage, after_terminator, end_status}
use Rattle.sixel_base.specs.Dcs.{payload_status_by, stage_status, stage_fault, stage_growths}
use Rattle.sixel_base.specs.Dcs.{dcs_status, dcs_count, dcs_fault, dcs_growths, has_ended}
use Rattle.sixel_base.{specs.Fault.Fault, specs.History.{History, read, history_of}}
use Rattle.sixel_base.{specs.Lenient.fault, specs.Limits.Limit, specs.OneShot.{Payload, found}}
use Rattle.sixel_base.specs.OneShot.{found_fault, IsFoundImage, AreFoundRegisters}
use Rattle.sixel_base.specs.Payload.{Image, closed, settled, fed_fault, growths}
use Rattle.sixel_base.{specs.Settings.Settings, specs.declared.state.DecoderState.DecoderState}
use Rattle.sixel_base.specs.declared.status.SixelDcsFeedStatus.TheVariants.{NeedMoreData}
use Rattle.sixel_decoder.proofs.chunks.Joined.{first_terminator-ended, before_terminator-ended}
use Rattle.sixel_decoder.proofs.chunks.Joined.{settled_open, carrying-append}
use Rattle.sixel_decoder.proofs.chunks.Joined.{before_terminator-whole, before_terminator-append}
use Rattle.sixel_decoder.proofs.chunks.Reads.{whole_fault, fold_fault, growths-fold}
use Rattle.sixel_decoder.proofs.dcs_sequences.Payloads.{found_reading}
use Rattle.sixel_decoder.proofs.dcs_sequences.Terminators.{after_terminator-some, end_stays}
use Rattle.sixel_decoder.proofs.dcs_sequences.Terminators.{stage_reading, failing_stays}

-- ---- a payload

pub front_ended : (bytes more : List ℕ) (t : ℕ) → first_terminator bytes ≡ Some t
    → front (bytes ++ more) ≡ front bytes
front_ended bytes more t is = ap carrying (before_terminator-ended bytes more t is)

pub count_ended : (bytes more : List ℕ) (t : ℕ) → first_terminator bytes ≡ Some t
    → count (bytes ++ more) ≡ count bytes
count_ended bytes more t is = ap length (before_terminator-ended bytes more t is)

-- the tokens that no further byte can change, where a terminator has come
pub settled_ended : (bytes more : List ℕ) (t : ℕ) → first_terminator bytes ≡ Some t
    → settled (bytes ++ more) ≡ settled bytes
settled_ended bytes more t is = grind (arith, first_terminator-ended, before_terminator-ended)

-- the tokens of the bytes so far, and how they go on with more
pub history_more : (bytes more : List ℕ) → first_terminator bytes ≡ None
    → history_of (front (bytes ++ more)) ≡ fold read (history_of (front bytes)) (front more)
history_more bytes more none = grind (
  arith,
  nat_tests,
  before_terminator-append,
  carrying-append,
  before_terminator-whole,
  fold-append,
)

-- what holds of the closed tokens and of all holds of those that are settled
pub of_settled : (P : History → Type 0) (bytes : List ℕ) → P (history_of (front bytes))
    → P (closed (history_of (front bytes))) → P (settled bytes)
of_settled h bytes all some = grind (arith, nat_tests)

fault_by : (limit : Limit) (bytes more : List ℕ) (f : Fault) (o : Option ℕ)
    → first_terminator bytes ≡ o
    → fed_fault limit bytes ≡ Some f → fed_fault limit (bytes ++ more) ≡ Some f
fault_by limit bytes more f None none is =
    let goes = history_more bytes more none in
    let h = history_of (front bytes) in
    let on = fold_fault limit h (front more) f (rw (settled_open bytes none) at is) in
    let whole = whole_fault limit (fold read h (front more)) f on in
    of_settled (λ w. fault limit w ≡ Some f) (bytes ++ more) (rw goes whole) (rw goes on)
fault_by limit bytes more f (Some t) some is = rw (settled_ended bytes more t some) is

-- a payload that was rejected stays rejected
pub fed_fault_stays : (limit : Limit) (bytes more : List ℕ) (f : Fault)
    → fed_fault limit bytes ≡ Some f → fed_fault limit (bytes ++ more) ≡ Some f
fed_fault_stays limit bytes more f is = fault_by limit bytes more f (first_terminator bytes) refl is

-- the sixels and raster attributes that are settled stay so
pub growths_stay : (bytes more : List ℕ)
    → growths (settled bytes) ≤ growths (settled (bytes ++ more))
growths_stay bytes more =
    grind (arith, nat_tests, settled_open, history_more, settled_ended, growths-fold, of_settled)

-- ---- a DCS sequence

-- where a string has ended: in a payload
record EndsIn (bytes : List ℕ) : Type 0 where
  settings : Settings
  payload : List ℕ
  terminator : ℕ
  reading : stage bytes ≡ Reading settings payload
  first : first_terminator payload ≡ Some terminator
  over : end_status terminator (after_terminator payload) ≡ NeedMoreData → ⊥

ends_in_at : (bytes : List ℕ) (s : Settings) (payload : List ℕ) (o : Option ℕ)
    → stage bytes ≡ Reading s payload → first_terminator payload ≡ o
    → has_ended (payload_status_by o (after_terminator payload)) ≡ true → EndsIn bytes
ends_in_at bytes s payload None reading first ended = absurd cc
ends_in_at bytes s payload (Some t) reading first ended = grind (arith, nat_tests)

ends_in_by : (bytes : List ℕ) (w : Stage) → stage bytes ≡ w → has_ended (stage_status w) ≡ true
    → EndsIn bytes
ends_in_by bytes Heading is ended = absurd cc
ends_in_by bytes (Failing f) is ended = absurd cc
ends_in_by bytes (Reading s payload) is ended =
    ends_in_at bytes s payload (first_terminator payload) is refl ended

ends_in : (bytes : List ℕ) → has_ended (dcs_status bytes) ≡ true → EndsIn bytes
ends_in bytes ended = ends_in_by bytes (stage bytes) refl ended

reads_on : (bytes more : List ℕ) (e : EndsIn bytes)
    → stage (bytes ++ more) ≡ Reading e.settings (e.payload ++ more)
reads_on bytes more e = stage_reading bytes more e.settings e.payload e.reading

-- its status and its bytes stay what they are
pub status_ended : (bytes more : List ℕ) → has_ended (dcs_status bytes) ≡ true
    → dcs_status (bytes ++ more) ≡ dcs_status bytes
status_ended bytes more ended =
    let e = ends_in bytes ended in
    let now = first_terminator-ended e.payload more _ e.first in
    let after = after_terminator-some e.payload more _ e.first in
    rw (reads_on bytes more e, e.reading, now, e.first, after)
    (end_stays e.terminator (after_terminator e.payload) more e.over).0

pub dcs_count_ended : (bytes more : List ℕ) → has_ended (dcs_status bytes) ≡ true
    → dcs_count (bytes ++ more) ≡ dcs_count bytes
dcs_count_ended bytes more ended =
    let e = ends_in bytes ended in
    let now = first_terminator-ended e.payload more _ e.first in
    let after = after_terminator-some e.payload more _ e.first in
    let counted = count_ended e.payload more _ e.first in
    let stays = (end_stays e.terminator (after_terminator e.payload) more e.over).1 in
    rw (reads_on bytes more e, e.reading, now, e.first, after)
    (omega (arith, length-append bytes more, length-append e.payload more, counted, stays))

-- as does what is wrong with it
pub dcs_fault_ended : (limit : Limit) (bytes more : List ℕ) → has_ended (dcs_status bytes) ≡ true
    → dcs_fault limit (bytes ++ more) ≡ dcs_fault limit bytes
dcs_fault_ended limit bytes more ended =
    let e = ends_in bytes ended in
    let same = settled_ended e.payload more _ e.first in
    rw (reads_on bytes more e, e.reading) (ap (fault limit) same)

pub dcs_growths_ended : (bytes more : List ℕ) → has_ended (dcs_status bytes) ≡ true
    → dcs_growths (bytes ++ more) ≡ dcs_growths bytes
dcs_growths_ended bytes more ended =
    let e = ends_in bytes ended in
    rw (reads_on bytes more e, e.reading) (ap growths (settled_ended e.payload more _ e.first))

-- the payload that is found in it, and in more bytes
found_on : (bytes more : List ℕ) (e : EndsIn bytes) → (found bytes ≡ Payload e.settings e.payload)
    × (found (bytes ++ more) ≡ Payload e.settings (e.payload ++ more))
found_on bytes more e =
    (found_reading bytes _ _ e.reading, found_reading (bytes ++ more) _ _ (reads_on bytes more e))

-- its image, and the registers after it
pub found_image_ended : (start : DecoderState) (bytes more : List ℕ) (image : Image)
    → has_ended (dcs_status bytes) ≡ true
    → IsFoundImage start (found bytes) image → IsFoundImage start (found (bytes ++ more)) image
found_image_ended start bytes more image ended is =
    let e = ends_in bytes ended in
    let on = found_on bytes more e in
    let same = front_ended e.payload more _ e.first in
    rw (on.1, same) (rw on.0 at is)

pub found_registers_ended : (start : DecoderState) (bytes more : List ℕ) (after : List (List ℕ))
    → has_ended (dcs_status bytes) ≡ true → AreFoundRegisters start (found bytes) after
    → AreFoundRegisters start (found (bytes ++ more)) after
found_registers_ended start bytes more after ended is =
    let e = ends_in bytes ended in
    let on = found_on bytes more e in
    let same = front_ended e.payload more _ e.first in
    rw (on.1, same) (rw on.0 at is)

pub found_fault_ended : (limit : Limit) (bytes more : List ℕ) → has_ended (dcs_status bytes) ≡ true
    → found_fault limit (found (bytes ++ more)) ≡ found_fault limit (found bytes)
found_fault_ended limit bytes more ended =
    let e = ends_in bytes ended in
    let on = found_on bytes more e in
    let same = front_ended e.payload more _ e.first in rw (on.1, on.0, same) refl

fault_in : (limit : Limit) (bytes more : List ℕ) (f : Fault) (w : Stage) → stage bytes ≡ w
    → stage_fault limit w ≡ Some f → dcs_fault limit (bytes ++ more) ≡ Some f
fault_in limit bytes more f Heading is some = absurd cc
fault_in limit bytes more f (Failing g) is some = rw (failing_stays bytes more g is) some
fault_in limit bytes more f (Reading s payload) is some =
    rw (stage_reading bytes more s payload is) (fed_fault_stays limit payload more f some)

-- a DCS sequence that was rejected stays rejected
pub dcs_fault_stays : (limit : Limit) (bytes more : List ℕ) (f : Fault)
    → dcs_fault limit bytes ≡ Some f → dcs_fault limit (bytes ++ more) ≡ Some f
dcs_fault_stays limit bytes more f is = fault_in limit bytes more f (stage bytes) refl is

growths_in : (bytes more : List ℕ) (w : Stage) → stage bytes ≡ w
    → stage_growths w ≤ dcs_growths (bytes ++ more)
growths_in bytes more Heading is = omega arith
growths_in bytes more (Failing g) is = omega arith
growths_in bytes more (Reading s payload) is =
    rw (stage_reading bytes more s payload is) (growths_stay payload more)

-- the sixels and raster attributes of its payload that are settled stay so
pub dcs_growths_stay : (bytes more : List ℕ) → dcs_growths bytes ≤ dcs_growths (bytes ++ more)
dcs_growths_stay bytes more = growths_in bytes more (stage bytes) refl
