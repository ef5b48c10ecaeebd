-- How a payload's end goes on as more bytes come.
use Rattle.std.proofs.Common.{◌≡◌, ℕ, ◌+◌, ◌<◌, ◌≤◌, true, false, List, [], ◌∷◌, ◌++◌, refl, arith}
use Rattle.std.proofs.Common.{Some, None, length, drop, drop-cons, take, get_or, add-one}
use Rattle.std.{proofs.Common.append_assoc, specs.Prelude.{◌==◌, ◌||◌}, proofs.Math.Seq.take-suc}
use Rattle.std.proofs.lemmas.{List.{append-nil, take-append-drop}, Bool.Decides.nat_tests}
use Rattle.sixel_base.{specs.Bytes.{count, first_terminator}, specs.Dcs.{Introduced, Waiting}}
use Rattle.sixel_base.specs.Dcs.{Absent, Entered, introduced, Failing, Reading, stage_after}
use Rattle.sixel_base.specs.Dcs.{stage_by, stage, after_terminator, end_status, end_count}
use Rattle.sixel_base.{specs.Fault.Fault, specs.Header.{headed, headed_by, header_rest}}
use Rattle.sixel_base.{specs.Settings.Settings, specs.declared.error.SixelError.SixelError}
use Rattle.sixel_base.specs.declared.status.SixelDcsFeedStatus.TheVariants.{NeedMoreData}
use Rattle.sixel_decoder.proofs.dcs_sequences.Headers.{introduced-entered, header_rest-ended}
use Rattle.sixel_decoder.proofs.dcs_sequences.Headers.{header_front-ended}
use Rattle.sixel_decoder.specs.inside.DcsState.{IsStageFault}

pub after_terminator-none : (bytes more : List ℕ) → first_terminator bytes ≡ None
    → after_terminator (bytes ++ more) ≡ after_terminator more
after_terminator-none [] more none = refl
after_terminator-none (byte ∷ bytes) more none =
    grind (arith, nat_tests, after_terminator-none bytes more)

pub after_terminator-some : (bytes more : List ℕ) (t : ℕ) → first_terminator bytes ≡ Some t
    → after_terminator (bytes ++ more) ≡ after_terminator bytes ++ more
after_terminator-some [] more t some = absurd cc
after_terminator-some (byte ∷ bytes) more t some =
    grind (arith, nat_tests, after_terminator-some bytes more)

-- the bytes after a terminator stand behind those before it
pub drop-count : (bytes : List ℕ) (t : ℕ) → first_terminator bytes ≡ Some t
    → (drop (count bytes + 1) bytes ≡ after_terminator bytes) × (count bytes + 1 ≤ length bytes)
drop-count [] t some = absurd cc
drop-count (byte ∷ bytes) t some =
    let more : (n : ℕ) → drop (n + 1) (byte ∷ bytes) ≡ drop n bytes = λ n. rw add-one refl in
    grind (arith, nat_tests, more 0, more (count bytes + 1), drop-count bytes t)

-- only ESC without a byte after it leaves a string open
pub escape_waits : (t : ℕ) (rest : List ℕ) → end_status t rest ≡ NeedMoreData
    → ((t == 27) ≡ true) × (rest ≡ []) × ((t == 0x9c) ≡ false) × ((t == 0x18 || t == 0x1a) ≡ false)
escape_waits t rest waits = grind (arith, nat_tests)

-- a string that has ended stays so
pub end_stays : (t : ℕ) (rest more : List ℕ) → (end_status t rest ≡ NeedMoreData → ⊥)
    → (end_status t (rest ++ more) ≡ end_status t rest)
    × (end_count t (rest ++ more) ≡ end_count t rest)
end_stays t rest more ended = grind (arith, nat_tests)

-- ---- a payload goes on

staged_reading : (rest more : List ℕ) (h : List ℕ) (s : Settings) (payload : List ℕ)
    → header_rest rest ≡ h → stage_after rest (headed_by h) ≡ Reading s payload
    → stage_after (rest ++ more) (headed (rest ++ more)) ≡ Reading s (payload ++ more)
staged_reading rest more [] s payload ended is = absurd cc
staged_reading rest more (byte ∷ tail) s payload ended is =
    let same = header_rest-ended rest more tail byte ended in
    let front = header_front-ended rest more tail byte ended in grind (arith, nat_tests)

-- the bytes after a payload's are its own
pub stage_reading : (bytes more : List ℕ) (s : Settings) (payload : List ℕ)
    → stage bytes ≡ Reading s payload → stage (bytes ++ more) ≡ Reading s (payload ++ more)
stage_reading bytes more s payload is = grind (arith, introduced-entered, staged_reading)

-- ---- what is rejected before a payload stays rejected

introduced-absent : (bytes more : List ℕ) → introduced bytes ≡ Absent
    → introduced (bytes ++ more) ≡ Absent
introduced-absent bytes more is = grind (arith, nat_tests)

failing_after : (rest more h : List ℕ) (f : Fault) → header_rest rest ≡ h
    → stage_after rest (headed_by h) ≡ Failing f
    → stage_after (rest ++ more) (headed (rest ++ more)) ≡ Failing f
failing_after rest more [] f is fails = absurd cc
failing_after rest more (byte ∷ tail) f is fails =
    grind (arith, nat_tests, header_rest-ended rest more tail byte is)

failing_by : (bytes more : List ℕ) (i : Introduced) (f : Fault) → introduced bytes ≡ i
    → stage_by i ≡ Failing f → stage (bytes ++ more) ≡ Failing f
failing_by bytes more Waiting f is fails = absurd cc
failing_by bytes more Absent f is fails = rw (introduced-absent bytes more is) fails
failing_by bytes more (Entered rest) f is fails =
    rw (introduced-entered bytes rest more is)
    (failing_after rest more (header_rest rest) f refl fails)

pub failing_stays : (bytes more : List ℕ) (f : Fault) → stage bytes ≡ Failing f
    → stage (bytes ++ more) ≡ Failing f
failing_stays bytes more f is = failing_by bytes more (introduced bytes) f refl is

pub refused_stays : (e : SixelError) (bytes more : List ℕ) → IsStageFault e (stage bytes)
    → IsStageFault e (stage (bytes ++ more))
refused_stays e bytes more refused = grind (arith, nat_tests, failing_stays bytes more)

-- the bytes before a chunk, a beginning of the chunk and the next byte, and the rest of it
pub pieces_join : (before piece : List ℕ) (index : ℕ) → index < length piece
    → ((before ++ take index piece) ++ (get_or piece index 0 ∷ [])) ++ drop (index + 1) piece
    ≡ before ++ piece
pieces_join before piece index within =
    grind (arith, nat_tests, add-one, drop-cons, append_assoc, take-append-drop)

-- the bytes before a chunk, a beginning of the chunk and the next byte
pub pieces_step : (before piece : List ℕ) (index : ℕ) → index < length piece
    → (before ++ take index piece) ++ (get_or piece index 0 ∷ []) ≡ before ++ take (index + 1) piece
pieces_step before piece index within = grind (arith, nat_tests, append_assoc, add-one, take-suc)

-- what reading a chunk byte by byte needs
pub ruleset pieces = (nat_tests, append-nil, pieces_step)
