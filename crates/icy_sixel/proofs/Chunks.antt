-- What is known of the bytes of an image once a beginning of them was fed.
use Rattle.std.proofs.Common.{◌≡◌, ℕ, ◌≤◌, true, List, [], ◌++◌, refl, ap, sym, ⊎_elim, arith}
use Rattle.std.specs.Prelude.{◌&&◌, nat_lt, length, Result, Ok, IfErr}
use Rattle.std.proofs.lemmas.{List.append-nil, List.append_assoc, Bool.Decides.nat_tests}
use Rattle.sixel_base.specs.{declared.error.SixelError.SixelError, Fault.Faults, Bytes.front}
use Rattle.sixel_base.specs.{Bytes.first_terminator, Settings.Settings, Limits.Limit}
use Rattle.sixel_base.specs.Dcs.{can_finish, dcs_in_payload, dcs_status}
use Rattle.sixel_decoder.specs.{FedImages.IsFed, Reception.Reception}
use Rattle.icy_sixel.specs.{ReceiverCalls.IsCounted, inside.Session.IsWhole}
use Rattle.sixel_decoder.specs.declared.received.Received.{Received}
use Rattle.icy_sixel.specs.Receiver.{Form, Nothing, OfPayload, OfString, count, status, fault}
use Rattle.icy_sixel.specs.Receiver.{growths, is_over, end_fault, end_wants, has_ended}
use Rattle.sixel_decoder.proofs.chunks.ParserSteps.{Faults-along}
use Rattle.sixel_decoder.proofs.{chunks.PayloadFaults.or_right, chunks.FedImages.terminator_of}
use Rattle.sixel_decoder.proofs.{images.ImageEnds.accepted_same, dcs_sequences.Ends.count-fits}
use Rattle.sixel_decoder.proofs.images.Finality.{front_ended, status_ended}
use Rattle.sixel_decoder.proofs.chunks.Sessions.{dcs_count-fits, frame_refused, string_refused}
use Rattle.sixel_base.specs.Dcs as strings
use Rattle.sixel_decoder.proofs.chunks.FedImages as fed_images

-- what was fed and what is left make up all bytes, also after one chunk more
pub rejoined : (before chunk after left rest bytes : List ℕ) → after ≡ before ++ chunk
    → chunk ++ left ≡ rest → before ++ rest ≡ bytes → after ++ left ≡ bytes
rejoined before chunk after left rest bytes fed split joined = grind (arith, append_assoc)

-- ---- what a beginning is rejected for is what all bytes are rejected for

refused : (e : SixelError) (limit : Limit) (form : Form) (fed left bytes : List ℕ) (n : ℕ)
    → fed ++ left ≡ bytes → Faults e (nat_lt n (growths form fed)) (fault limit form fed)
    → Faults e (nat_lt 0 (growths form bytes)) (fault limit form bytes)
refused e limit form fed left bytes n joined is =
    grind (arith, nat_tests, Faults-along, frame_refused, string_refused)

pub refusal : (R : Type 0) (result : Result R SixelError) (limit : Limit) (form : Form)
    (fed left bytes : List ℕ) (n : ℕ) → fed ++ left ≡ bytes
    → IfErr result (λ e. Faults e (nat_lt n (growths form fed)) (fault limit form fed))
    → IfErr result (λ e. Faults e (nat_lt 0 (growths form bytes)) (fault limit form bytes))
refusal R result limit form fed left bytes n joined is = grind (arith, nat_tests, refused)

-- ---- what follows the end of an image means nothing

-- these bytes mean the same image
pub record IsSame (limit : Limit) (form : Form) (fed bytes : List ℕ) : Type 0 where
  pub same : fed_images.IsSame limit form fed bytes
  pub ends : end_fault limit form fed ≡ end_fault limit form bytes
  pub wants : end_wants limit form fed ≡ end_wants limit form bytes

-- a sequence that has ended can be finished
pub ended_finishes : (limit : Limit) (bytes : List ℕ)
    → strings.has_ended (dcs_status bytes) ≡ true → can_finish limit bytes ≡ true
ended_finishes limit bytes over = or_right (limit.lenient && dcs_in_payload bytes) _ over

ended : (limit : Limit) (form : Form) (fed left : List ℕ) → is_over form fed ≡ true
    → IsSame limit form fed (fed ++ left)
ended limit Nothing fed left over = absurd cc
ended limit (OfPayload settings) fed left over =
    let t = terminator_of (first_terminator fed) over in
    let carried = front_ended fed left t.0 t.1 in
    record {
      same = fed_images.ended limit (OfPayload settings) fed left over;
      ends = rw carried refl;
      wants = rw carried refl;
    }
ended limit OfString fed left over =
    let now = ended_finishes limit fed over in
    let later = ended_finishes limit (fed ++ left) (rw (status_ended fed left over) over) in
    record {
      same = fed_images.ended limit OfString fed left over;
      ends = rw (now, later) refl;
      wants = rw (now, later) refl;
    }

-- where no byte is left all were fed
all_fed : (fed left bytes : List ℕ) → fed ++ left ≡ bytes → left ≡ [] → fed ≡ bytes
all_fed fed left bytes joined none = grind (arith, append-nil)

pub same : (limit : Limit) (form : Form) (fed bytes : List ℕ) → IsWhole form fed bytes
    → IsSame limit form fed bytes
same limit form fed bytes whole =
    ⊎_elim (λ none.
    let all = all_fed fed whole.left bytes whole.joined none in
    rw all (record {
      same = record { counted = refl; stands = refl; faults = refl; grows = refl };
      ends = refl;
      wants = refl;
    }))
    (λ over. rw whole.joined at (ended limit form fed whole.left over)) whole.over

-- the bytes of a payload that sixels and commands come from
pub front_whole : (settings : Settings) (fed bytes : List ℕ)
    → IsWhole (OfPayload settings) fed bytes → front fed ≡ front bytes
front_whole settings fed bytes whole =
    ⊎_elim (λ none. ap front (all_fed fed whole.left bytes whole.joined none))
    (λ over.
    let t = terminator_of (first_terminator fed) over in
    rw whole.joined at (sym (front_ended fed whole.left t.0 t.1)))
    whole.over

-- ---- statuses and counts

-- an image has ended as its status says
pub has_ended-status : (form : Form) (bytes : List ℕ)
    → has_ended (status form bytes) ≡ is_over form bytes
has_ended-status form bytes = grind (arith, nat_tests)

-- an image has at most all bytes
pub count_fits : (form : Form) (bytes : List ℕ) → count form bytes ≤ length bytes
count_fits form bytes = grind (arith, nat_tests, count-fits, dcs_count-fits)

-- ---- which bytes belong to an image

-- a feed that succeeds consumes them
pub fed_counted : (old new : Reception) (chunk : List ℕ) (fed : Received)
    → IsFed old new chunk (Ok fed) → IsCounted old new chunk fed
fed_counted old new chunk fed is = grind (arith, nat_tests, is, accepted_same)
