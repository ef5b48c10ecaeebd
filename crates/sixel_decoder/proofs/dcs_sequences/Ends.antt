-- Which bytes of a payload's chunk belong to the DCS sequence after its terminator.
use Rattle.std.proofs.Common.{◌≡◌, ℕ, ◌+◌, ◌≤◌, true, List, [], ◌∷◌, ◌++◌, refl, ap, sym, ◌∙◌}
use Rattle.std.proofs.Common.{arith, Option, Some, None, length, drop}
use Rattle.std.{proofs.lemmas.Bool.Decides.nat_tests, specs.Prelude.{◌==◌}}
use Rattle.sixel_base.{specs.Bytes.{count, first_terminator}, specs.Dcs.after_terminator}
use Rattle.sixel_base.specs.Dcs.{end_status, end_count, escape_status, escape_count, payload_status}
use Rattle.sixel_base.{specs.Dcs.{payload_count, ended_with, ended_by}, specs.Status.status_of}
use Rattle.sixel_base.specs.declared.status.SixelDcsFeedStatus.{SixelDcsFeedStatus}
use Rattle.sixel_base.specs.declared.status.SixelDcsFeedStatus.TheVariants.{NeedMoreData, Complete}
use Rattle.sixel_base.specs.declared.status.SixelDcsFeedStatus.TheVariants.{Cancelled, Interrupted}
use Rattle.sixel_decoder.proofs.chunks.Joined.{count-append, first_terminator-append}
use Rattle.sixel_decoder.proofs.chunks.Joined.{first_terminator-ended, before_terminator-ended}
use Rattle.sixel_decoder.proofs.dcs_sequences.Terminators.{after_terminator-none}
use Rattle.sixel_decoder.proofs.dcs_sequences.Terminators.{after_terminator-some, drop-count}
use Rattle.sixel_decoder.proofs.dcs_sequences.Terminators.{escape_waits, end_stays}
use Rattle.sixel_decoder.specs.inside.DcsState.{GoesTo}
use Rattle.sixel_base.specs.declared.status.SixelFeedStatus.TheVariants as fed

-- a payload has at most all bytes
pub count-fits : (bytes : List ℕ) → count bytes ≤ length bytes
count-fits [] = omega arith
count-fits (byte ∷ bytes) = grind (arith, nat_tests, count-fits bytes)

-- a chunk adds at most its bytes
pub count-most : (bytes piece : List ℕ) → count (bytes ++ piece) ≤ count bytes + length piece
count-most [] piece = omega (arith, count-fits piece)
count-most (byte ∷ bytes) piece = grind (arith, nat_tests, count-most bytes piece)

-- ---- how a payload has ended, by its first terminator

pub some_by : (o : Option ℕ) (rest : List ℕ) (status : SixelDcsFeedStatus)
    → ended_by o rest ≡ Some status → (t : ℕ) × (o ≡ Some t) × (end_status t rest ≡ status)
some_by o rest status is = grind (arith, nat_tests)

pub count_open : (payload : List ℕ) → first_terminator payload ≡ None
    → payload_count payload ≡ count payload
count_open payload none = grind (arith, nat_tests)

pub count_at : (payload rest : List ℕ) (t : ℕ) → first_terminator payload ≡ Some t
    → after_terminator payload ≡ rest → payload_count payload ≡ count payload + end_count t rest
count_at payload rest t first after = grind (arith, nat_tests)

pub status_at : (payload rest : List ℕ) (t : ℕ) → first_terminator payload ≡ Some t
    → after_terminator payload ≡ rest → payload_status payload ≡ end_status t rest
status_at payload rest t first after = grind (arith, nat_tests)

pub ended_at : (payload : List ℕ) (t : ℕ) → first_terminator payload ≡ Some t
    → ended_with payload ≡ Some (payload_status payload)
ended_at payload t first = grind (arith, nat_tests)

pub terminated_by : (o : Option ℕ) (t : ℕ) → fed.Terminated t ≡ status_of o → o ≡ Some t
terminated_by o t is = grind (arith, nat_tests)

pub waiting_by : (o : Option ℕ) → fed.NeedMoreData ≡ status_of o → o ≡ None
waiting_by o is = grind (arith, nat_tests)

-- payloads of one status have one terminator
pub terminator_same : (a b : Option ℕ) → status_of a ≡ status_of b → a ≡ b
terminator_same a b same = grind (arith, nat_tests)

-- ---- how it goes on

pub goes_open : (payload piece : List ℕ) (consumed : ℕ) (ended : Option SixelDcsFeedStatus)
    → ended ≡ ended_with payload → first_terminator (payload ++ piece) ≡ None
    → count payload + consumed ≡ count (payload ++ piece)
    → GoesTo payload (payload ++ piece) (record { consumed = consumed; status = NeedMoreData })
    × (ended ≡ ended_with (payload ++ piece))
goes_open payload piece consumed ended is none counted =
    grind (arith, first_terminator-ended, count_open)

-- the terminator comes in the chunk, and the bytes after it are these
pub goes_to_end :
    (payload piece rest : List ℕ) (t start consumed more : ℕ) (status : SixelDcsFeedStatus)
    → None ≡ ended_with payload
    → first_terminator (payload ++ piece) ≡ Some t
    → count payload + consumed ≡ count (payload ++ piece)
    → rest ≡ drop start piece → (consumed + 1 ≤ length piece → start ≡ consumed + 1)
    → more ≡ end_count t rest → status ≡ end_status t rest
    → GoesTo payload (payload ++ piece) (record { consumed = consumed + more; status = status })
goes_to_end payload piece rest t start consumed more status ended first counted is begins counts
    stands = grind (
      arith,
      nat_tests,
      first_terminator-append,
      count-append,
      drop-count,
      after_terminator-none,
      count_open,
      count_at,
      status_at,
    )

escape_ends : (t : ℕ) (rest : List ℕ) → (t == 27) ≡ true
    → (end_count t rest ≡ escape_count rest) × (end_status t rest ≡ escape_status rest)
escape_ends t rest is = grind (arith, nat_tests)

-- ESC was the last byte before the chunk
goes_after_escape : (payload piece : List ℕ) (t consumed more : ℕ) (status : SixelDcsFeedStatus)
    → Some NeedMoreData ≡ ended_with payload
    → first_terminator (payload ++ piece) ≡ Some t
    → count payload + consumed ≡ count (payload ++ piece)
    → more + 1 ≡ escape_count piece → status ≡ escape_status piece
    → GoesTo payload (payload ++ piece) (record { consumed = consumed + more; status = status })
goes_after_escape payload piece t consumed more status ended first counted counts stands = grind (
  arith,
  nat_tests,
  some_by,
  escape_waits,
  first_terminator-ended,
  after_terminator-some,
  escape_ends,
  before_terminator-ended,
  count_at,
  status_at,
)

-- the string had ended before the chunk
goes_ended : (payload piece : List ℕ) (consumed more : ℕ) (before status : SixelDcsFeedStatus)
    → Some before ≡ ended_with payload
    → (before ≡ NeedMoreData → ⊥) → count payload + consumed ≡ count (payload ++ piece)
    → (more ≡ 0) × (status ≡ before)
    → GoesTo payload (payload ++ piece) (record { consumed = consumed + more; status = status })
goes_ended payload piece consumed more before status ended over counted same =
    let was = some_by (first_terminator payload) (after_terminator payload) before (sym ended) in
    let stays =
    end_stays was.0 (after_terminator payload) piece (λ waits. over (sym was.2 ∙ waits)) in
    let now = first_terminator-ended payload piece was.0 was.1 in
    let after = after_terminator-some payload piece was.0 was.1 in (
      omega (
        arith,
        counted,
        same.0,
        ap length (before_terminator-ended payload piece was.0 was.1),
        count_at payload (after_terminator payload) was.0 was.1 refl,
        count_at (payload ++ piece) (after_terminator payload ++ piece) was.0 now after,
        stays.1,
      ),
      same.1
          ∙ (sym was.2
          ∙ (sym stays.0
          ∙ sym
          (status_at (payload ++ piece) (after_terminator payload ++ piece) was.0 now after))),
    )

-- a terminator had come before the chunk
pub goes_later : (payload piece : List ℕ) (t consumed more : ℕ) (was status : SixelDcsFeedStatus)
    → Some was ≡ ended_with payload
    → first_terminator (payload ++ piece) ≡ Some t
    → count payload + consumed ≡ count (payload ++ piece)
    → (was ≡ NeedMoreData → (more + 1 ≡ escape_count piece) × (status ≡ escape_status piece))
    → ((was ≡ NeedMoreData → ⊥) → (more ≡ 0) × (status ≡ was))
    → GoesTo payload (payload ++ piece) (record { consumed = consumed + more; status = status })
goes_later payload piece t consumed more NeedMoreData status ended first counted waiting over =
    goes_after_escape payload piece t consumed more status ended first counted (waiting refl).0
    (waiting refl).1
goes_later payload piece t consumed more Complete status ended first counted waiting over =
    goes_ended payload piece consumed more Complete status ended (λ e. cc) counted (over (λ e. cc))
goes_later payload piece t consumed more (Cancelled b) status ended first counted waiting over =
    goes_ended payload piece consumed more (Cancelled b) status ended (λ e. cc) counted
    (over (λ e. cc))
goes_later payload piece t consumed more (Interrupted b) status ended first counted waiting over =
    goes_ended payload piece consumed more (Interrupted b) status ended (λ e. cc) counted
    (over (λ e. cc))
