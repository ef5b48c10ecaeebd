-- How far a parser has come in a chunk.
use Rattle.std.proofs.Common.{◌≡◌, ℕ, zero, suc, ◌+◌, ◌<◌, ◌≤◌, true, false, List, [], ◌∷◌, ◌++◌}
use Rattle.std.proofs.Common.{refl, ap, arith, Some, None, length, take, drop, drop-cons, get_or}
use Rattle.std.proofs.{Common.{get_or-drop, add-one}, lemmas.Bool.Decides.nat_tests}
use Rattle.std.proofs.{lemmas.List.{drop-drop, drop_all}, lemmas.List.Sums.fold-append}
use Rattle.std.specs.Prelude.{nat_lt, fold}
use Rattle.sixel_base.specs.Bytes.{is_terminator, is_ignored, front, count, first_terminator}
use Rattle.sixel_base.specs.{Bytes.is_terminated, Fault.Faults, History.{History, read}}
use Rattle.sixel_base.specs.{Lenient.fault, Limits.Limit, Payload.{closed, growths}}
use Rattle.sixel_base.specs.{Status.status_of, Stroke.Origin, declared.error.SixelError.SixelError}
use Rattle.sixel_base.specs.declared.status.SixelFeedStatus.TheVariants.{NeedMoreData, Terminated}
use Rattle.sixel_canvas.specs.declared.drawing.Canvas.{Ghosts}
use Rattle.sixel_decoder.specs.declared.payload_parser.OpenCommand.TheVariants.{Ground}
use Rattle.sixel_decoder.specs.declared.payload_parser.PayloadParser.{PayloadParser}
use Rattle.sixel_decoder.specs.{inside.Lenient.HasDrawn, inside.PayloadParser.{Reaches, Stands}}
use Rattle.sixel_decoder.specs.inside.PayloadParser.{StandsAfter, after, settled_after}
use Rattle.sixel_decoder.specs.inside.Runs.{IsPrintable}
use Rattle.sixel_decoder.proofs.{chunks.ParserSteps.Faults-along, chunks.Reads.whole_fault}
use Rattle.sixel_decoder.proofs.chunks.Reads.{fold_fault, growths-read, growths-fold}

-- ---- how far a parser has come

-- the byte at an index, and the bytes after it
pub splits_at : (piece : List ℕ) (index : ℕ) → index < length piece
    → drop index piece ≡ get_or piece index 0 ∷ drop (index + 1) piece
splits_at piece index h = rw (add-one, drop-cons piece index 0) refl

count-cons : (byte : ℕ) (rest : List ℕ) → is_terminator byte ≡ false
    → count (byte ∷ rest) ≡ count rest + 1
count-cons byte rest ends = rw ends (omega arith)

pub reaches_ignored : {C : Type 0} {canvas : Ghosts C} (o : Origin)
    (parser : PayloadParser C canvas) (h : History) (index : ℕ) (piece : List ℕ) (byte : ℕ)
    → drop index piece ≡ byte ∷ drop (index + 1) piece → is_terminator byte ≡ false
    → is_ignored byte ≡ true → Reaches o parser h index piece → Reaches o parser h (index + 1) piece
reaches_ignored o parser h index piece byte splits ends is r = grind (arith, nat_tests)

pub reaches_pushed : {C : Type 0} {canvas : Ghosts C} (o : Origin)
    (parser parser' : PayloadParser C canvas) (h : History) (index : ℕ) (piece : List ℕ) (byte : ℕ)
    → drop index piece ≡ byte ∷ drop (index + 1) piece → is_terminator byte ≡ false
    → is_ignored byte ≡ false → (r : Reaches o parser h index piece)
    → Stands o parser' (read r.now byte) → Reaches o parser' h (index + 1) piece
reaches_pushed o parser parser' h index piece byte splits ends is r stands =
    grind (arith, nat_tests, count-cons, growths-read)

-- a printable byte is neither a terminator nor ignored
carried : (byte : ℕ) → IsPrintable byte → (is_terminator byte ≡ false) × (is_ignored byte ≡ false)
carried byte is = (grind (arith, nat_tests, is.0, is.1), grind (arith, nat_tests, is.0, is.1))

-- a byte that a parser reads at once is printable
pub reaches_printable : {C : Type 0} {canvas : Ghosts C} (o : Origin)
    (parser parser' : PayloadParser C canvas) (h : History) (index : ℕ) (piece : List ℕ)
    → index < length piece → IsPrintable (get_or piece index 0)
    → (r : Reaches o parser h index piece) → Stands o parser' (read r.now (get_or piece index 0))
    → Reaches o parser' h (index + 1) piece
reaches_printable o parser parser' h index piece lt is r stands =
    let byte = carried (get_or piece index 0) is in
    let splits = splits_at piece index lt in
    reaches_pushed o parser parser' h index piece _ splits byte.0 byte.1 r stands

-- what printable bytes at the front do to the facts of a chunk
printable_run : (n : ℕ) (bytes : List ℕ) → ((k : ℕ) → k < n → IsPrintable (get_or bytes k 0))
    → n ≤ length bytes → (front bytes ≡ take n bytes ++ front (drop n bytes))
    × (first_terminator bytes ≡ first_terminator (drop n bytes))
    × (count bytes ≡ n + count (drop n bytes))
printable_run zero bytes are le = (refl, refl, omega arith)
printable_run (suc n) [] are le = absurd (omega arith)
printable_run (suc n) (byte ∷ bytes) are le =
    let here = carried byte (are 0 (omega arith)) in
    let rest = printable_run n bytes (λ k lt. are (suc k) (omega arith)) (omega arith) in
    grind (arith, nat_tests, count-cons)

-- the parser once bytes at the front of what is ahead were read
pub reaches_read : {C : Type 0} {canvas : Ghosts C} (o : Origin)
    (parser parser' : PayloadParser C canvas) (h : History) (index n : ℕ) (piece bytes : List ℕ)
    → bytes ≡ drop index piece → ((k : ℕ) → k < n → IsPrintable (get_or bytes k 0))
    → n ≤ length bytes → (r : Reaches o parser h index piece)
    → Stands o parser' (fold read r.now (take n bytes)) → Reaches o parser' h (index + n) piece
reaches_read o parser parser' h index n piece bytes is are le r stands =
    let past : drop n bytes ≡ drop (index + n) piece = rw is (drop-drop n index piece) in
    let run = printable_run n bytes are le in
    record {
      now = fold read r.now (take n bytes);
      stands = stands;
      ahead = rw (← past, ← fold-append, ← run.0, is) r.ahead;
      terminator = rw (← past, ← run.1, is) r.terminator;
      counted = omega (arith, r.counted, run.2, ap count past, ap count is);
      grown = omega (arith, r.grown, growths-fold r.now (take n bytes));
    }

-- the bytes of a chunk that were read up to its end
pub reads_whole : {C : Type 0} {canvas : Ghosts C} (o : Origin) (parser : PayloadParser C canvas)
    (h : History) (index : ℕ) (piece : List ℕ) → length piece ≤ index
    → Reaches o parser h index piece → (index ≡ count piece) × Stands o parser (after h piece)
reads_whole o parser h index piece past r = grind (arith, nat_tests, drop_all)

-- and those that were read up to a terminator
pub reads_before : {C : Type 0} {canvas : Ghosts C} (o : Origin) (parser : PayloadParser C canvas)
    (h : History) (index : ℕ) (piece : List ℕ) (byte : ℕ)
    → drop index piece ≡ byte ∷ drop (index + 1) piece → is_terminator byte ≡ true
    → Reaches o parser h index piece → (index ≡ count piece) × Stands o parser (after h piece)
reads_before o parser h index piece byte splits ends r = grind (arith, nat_tests)

-- a chunk that has no byte after those has no terminator
no_terminator : (piece : List ℕ) → length piece ≤ count piece → first_terminator piece ≡ None
no_terminator [] all = refl
no_terminator (byte ∷ piece) all = grind (arith, nat_tests, no_terminator piece)

-- and otherwise that is the byte after them
terminator_after : (piece : List ℕ) → count piece < length piece
    → first_terminator piece ≡ Some (get_or piece (count piece) 0)
terminator_after [] more = absurd (omega arith)
terminator_after (byte ∷ piece) more = grind (arith, nat_tests, terminator_after piece)

-- a chunk with no terminator
pub feeds_whole : {C : Type 0} {canvas : Ghosts C} (o : Origin) (parser : PayloadParser C canvas)
    (h : History) (read : ℕ) (piece : List ℕ)
    → length piece ≤ read → (read ≡ count piece) × Stands o parser (after h piece)
    → (read ≡ count piece) × (NeedMoreData ≡ status_of (first_terminator piece))
    × StandsAfter (is_terminated piece) o parser (after h piece)
feeds_whole o parser h read piece past is = grind (arith, nat_tests, no_terminator, is.0, is.1)

-- the first terminator of a chunk with bytes after those that were read
ending : (read : ℕ) (piece : List ℕ) → read < length piece → read ≡ count piece
    → first_terminator piece ≡ Some (get_or piece read 0)
ending read piece more is = grind (arith, nat_tests, terminator_after)

-- a chunk that ends at its terminator, which ends the open command
pub feeds_terminated : {C : Type 0} {canvas : Ghosts C}
    (o : Origin) (parser : PayloadParser C canvas) (h : History) (read : ℕ) (piece : List ℕ)
    → read < length piece → read ≡ count piece
    → parser.command ≡ Ground → HasDrawn o parser.painter parser.ignored (after h piece)
    → (read ≡ count piece) × (Terminated (get_or piece read 0) ≡ status_of (first_terminator piece))
    × StandsAfter (is_terminated piece) o parser (after h piece)
feeds_terminated o parser h read piece more is ground shows =
    rw (ending read piece more is) (is, refl, (ground, shows))

-- why the open command is rejected there
pub feeds_refused_end : (e : SixelError) (limit : Limit) (h : History) (read : ℕ) (piece : List ℕ)
    → read < length piece → read ≡ count piece → Faults e false (fault limit (after h piece))
    → Faults e (nat_lt (growths (closed h)) (growths (settled_after h piece)))
    (fault limit (settled_after h piece))
feeds_refused_end e limit h read piece more is refused =
    rw (ending read piece more is)
    (Faults-along e false _ _ _ (λ never. absurd cc) (λ f found. found) refused)

-- An error before the end of a chunk is the error of its tokens there.
refused_settled : (e : SixelError) (limit : Limit) (h now next : History) (rest : List ℕ)
    (piece : List ℕ) → fold read next rest ≡ after h piece
    → growths (closed h) ≤ growths (closed now)
    → Faults e (nat_lt (growths (closed now)) (growths (closed next))) (fault limit (closed next))
    → Faults e (nat_lt (growths (closed h)) (growths (settled_after h piece)))
    (fault limit (settled_after h piece))
refused_settled e limit h now next rest piece whole grown refused =
    let last : History = after h piece in
    let more = rw whole at (growths-fold next rest) in
    Faults-along e _ _ (fault limit (closed next)) (fault limit (settled_after h piece))
    (λ may. grind (arith, nat_tests))
    (λ f is. grind (arith, nat_tests, fold_fault limit next rest f is, whole_fault limit last f))
    refused

-- an error at a byte is the error of the whole chunk
pub feeds_refused : {C : Type 0} {canvas : Ghosts C} (e : SixelError) (o : Origin)
    (parser : PayloadParser C canvas) (h : History) (index : ℕ) (piece : List ℕ) (byte : ℕ)
    → drop index piece ≡ byte ∷ drop (index + 1) piece → is_terminator byte ≡ false
    → is_ignored byte ≡ false → (r : Reaches o parser h index piece)
    → Faults e (nat_lt (growths (closed r.now)) (growths (closed (read r.now byte))))
    (fault o.pixel_limit (closed (read r.now byte)))
    → Faults e (nat_lt (growths (closed h)) (growths (settled_after h piece)))
    (fault o.pixel_limit (settled_after h piece))
feeds_refused e o parser h index piece byte splits ends is r refused =
    grind (arith, nat_tests, refused_settled)

-- and where the byte is printable
pub feeds_refused_printable : {C : Type 0} {canvas : Ghosts C} (e : SixelError) (o : Origin)
    (parser : PayloadParser C canvas) (h : History) (index : ℕ) (piece : List ℕ)
    → index < length piece → IsPrintable (get_or piece index 0)
    → (r : Reaches o parser h index piece)
    → Faults e
    (nat_lt (growths (closed r.now)) (growths (closed (read r.now (get_or piece index 0)))))
    (fault o.pixel_limit (closed (read r.now (get_or piece index 0))))
    → Faults e (nat_lt (growths (closed h)) (growths (settled_after h piece)))
    (fault o.pixel_limit (settled_after h piece))
feeds_refused_printable e o parser h index piece lt is r refused =
    let byte = carried (get_or piece index 0) is in
    feeds_refused e o parser h index piece _ (splits_at piece index lt) byte.0 byte.1 r refused

-- and where bytes are read at once, what their first one is
pub first_ahead : (index : ℕ) (piece bytes : List ℕ) → bytes ≡ drop index piece
    → get_or bytes 0 0 ≡ get_or piece index 0
first_ahead index piece bytes is = grind (arith, nat_tests, get_or-drop)
