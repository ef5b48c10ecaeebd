-- What sixels of one column each that stand inside the picture do to the words of a history: they
-- change pixels and the place alone.
use Rattle.std.proofs.Common.{◌≡◌, ℕ, suc, ◌+◌, ◌*◌, ◌<◌, ◌≤◌, ◌-◌, true, false, List, [], ◌∷◌}
use Rattle.std.proofs.Common.{length, get_or, take, length-take, get_or-take, refl, ap, None, arith}
use Rattle.std.proofs.lemmas.Bool.Decides.{nat_tests}
use Rattle.std.specs.Prelude.{fold, nat_lt}
use Rattle.sixel_base.specs.{Fault.Faults, History.{Sixel, History, goes_on, read}, Lenient.fault}
use Rattle.sixel_base.specs.{Limits.Limit, Payload.{first_fault, closed, growths}, Place.span}
use Rattle.sixel_base.specs.{Place.{across, down, width, height}, Settings.ratio_of, Stroke.Origin}
use Rattle.sixel_base.specs.{Stroke.{registers, color, ratio}, declared.error.SixelError.SixelError}
use Rattle.sixel_canvas.specs.{Drawn.run, declared.drawing.Canvas.Ghosts}
use Rattle.sixel_decoder.specs.Report.{raster_size}
use Rattle.sixel_decoder.specs.declared.payload_parser.OpenCommand.TheVariants.{Ground}
use Rattle.sixel_decoder.specs.declared.payload_parser.PayloadParser.{PayloadParser}
use Rattle.sixel_decoder.specs.{inside.Lenient.HasDrawn, inside.PayloadParser.Stands}
use Rattle.sixel_decoder.specs.inside.Runs.{IsSixelByte, IsRun, bits_of}

-- the history after sixels with these bits
abbrev pub with_sixels : History → List ℕ → History
with_sixels h [] = h
with_sixels h (bits ∷ more) = with_sixels (Sixel bits ∷ h) more

-- a sixel is read as one, whatever came before
pub read_sixel : (h : History) (byte : ℕ) → IsSixelByte byte → read h byte ≡ Sixel (byte - 63) ∷ h
read_sixel h byte is = grind (arith, nat_tests)

pub goes_on_byte : (h : History) (byte : ℕ) → IsSixelByte byte → goes_on h byte ≡ false
goes_on_byte h byte is = grind (arith, nat_tests)

-- reading a run
pub fold_run : (h : History) (run : List ℕ) → IsRun run
    → fold read h run ≡ with_sixels h (bits_of run)
fold_run h [] are = refl
fold_run h (byte ∷ run) are =
    rw (read_sixel h byte (are 0 (omega arith)))
    (fold_run (Sixel (byte - 63) ∷ h) run (λ k lt. are (suc k) (omega arith)))

-- as many bits as bytes
pub length-bits_of : (run : List ℕ) → length (bits_of run) ≡ length run
length-bits_of [] = refl
length-bits_of (byte ∷ run) = ap suc (length-bits_of run)

-- the next `n` sixels are of one column each, and inside the picture and its clip
pub record IsInside (limit : Limit) (n : ℕ) (h : History) : Type 0 where
  pub single : span h ≡ 1
  pub right : across h + n ≤ width h
  pub lower : down h + 6 ≤ height h
  pub columns : across h + n ≤ limit.columns
  pub rows : down h + 6 ≤ limit.rows
  pub wide : width h ≤ 1000000
  pub high : height h ≤ 1000000
  pub area : width h * height h ≤ limit.pixels
  pub faultless : first_fault limit h ≡ None

pub IsInside-sixel : (limit : Limit) (n bits : ℕ) (h : History) → IsInside limit (suc n) h
    → IsInside limit n (Sixel bits ∷ h)
IsInside-sixel limit n bits h inside = grind (arith, nat_tests)

-- what stays, and where the next sixel stands
pub record IsPassed (limit : Limit) (o : Origin) (n : ℕ) (h after : History) : Type 0 where
  pub registers : registers o.registers after ≡ registers o.registers h
  pub color : color o after ≡ color o h
  pub span : span after ≡ 1
  pub across : across after ≡ across h + n
  pub down : down after ≡ down h
  pub width : width after ≡ width h
  pub height : height after ≡ height h
  pub raster : raster_size after ≡ raster_size h
  pub ratio : ratio (ratio_of o.settings) after ≡ ratio (ratio_of o.settings) h
  pub faultless : first_fault limit after ≡ None

pub IsPassed-sixels : (limit : Limit) (o : Origin) (h : History) (sixels : List ℕ)
    → IsInside limit (length sixels) h → IsPassed limit o (length sixels) h (with_sixels h sixels)
IsPassed-sixels limit o h [] inside = grind (arith, nat_tests)
IsPassed-sixels limit o h (bits ∷ more) inside =
    grind (arith, nat_tests, IsInside-sixel, IsPassed-sixels limit o (Sixel bits ∷ h) more)

-- the bytes at the front are a run
pub IsRun-take : (n : ℕ) (bytes : List ℕ) → n ≤ length bytes
    → ((k : ℕ) → k < n → IsSixelByte (get_or bytes k 0)) → IsRun (take n bytes)
IsRun-take n bytes le are k lt = grind (arith, nat_tests, get_or-take, length-take)

pub length-front : (run bytes : List ℕ) (len : ℕ) → run ≡ take len bytes → len ≤ length bytes
    → length run ≡ len
length-front run bytes len is le = omega (arith, ap length is, length-take len bytes, le)

-- after sixels no token is open
ended-sixels : (h : History) (bytes : List ℕ)
    → ((k : ℕ) → k < length bytes → IsSixelByte (get_or bytes k 0))
    → ((byte : ℕ) → goes_on h byte ≡ false) → (byte : ℕ) → goes_on (fold read h bytes) byte ≡ false
ended-sixels h [] are ended = ended
ended-sixels h (byte ∷ bytes) are ended =
    ended-sixels (read h byte) bytes (λ k lt. are (suc k) (omega arith))
    (λ next. rw (read_sixel h byte (are 0 (omega arith))) refl)

ended-run : (h : History) (run : List ℕ) → 0 < length run → IsRun run → (byte : ℕ)
    → goes_on (fold read h run) byte ≡ false
ended-run h [] some are = absurd (omega (arith, some))
ended-run h (byte ∷ run) some are =
    ended-sixels (read h byte) run (λ k lt. are (suc k) (omega arith))
    (λ next. rw (read_sixel h byte (are 0 (omega arith))) refl)

-- a parser whose painter has drawn a run at the front
pub Stands-run : {C : Type 0} {canvas : Ghosts C} (o : Origin) (new : PayloadParser C canvas)
    (h : History) (n : ℕ) (bytes : List ℕ) → new.command ≡ Ground → 0 < n → n ≤ length bytes
    → ((k : ℕ) → k < n → IsSixelByte (get_or bytes k 0))
    → HasDrawn o new.painter new.ignored (fold read h (take n bytes))
    → Stands o new (fold read h (take n bytes))
Stands-run o new h n bytes ground some le are shows =
    let long = length-take n bytes in
    let ended = ended-run h (take n bytes) (omega arith) (IsRun-take n bytes le are) in
    rw ground (record { ended = ended; shows = shows })

-- one sixel at the front
pub fold_one : (h : History) (bytes : List ℕ) → 0 < length bytes → IsSixelByte (get_or bytes 0 0)
    → fold read h (take 1 bytes) ≡ Sixel (get_or bytes 0 0 - 63) ∷ h
fold_one h bytes some is = grind (arith, nat_tests)

-- a parser whose painter has drawn it
pub Stands-one : {C : Type 0} {canvas : Ghosts C} (o : Origin) (new : PayloadParser C canvas)
    (h : History) (bytes : List ℕ)
    → new.command ≡ Ground → 0 < length bytes → IsSixelByte (get_or bytes 0 0)
    → HasDrawn o new.painter new.ignored (Sixel (get_or bytes 0 0 - 63) ∷ h)
    → Stands o new (fold read h (take 1 bytes))
Stands-one o new h bytes ground some sixel shows = grind (arith, nat_tests, fold_one)

-- why a sixel can be rejected
pub refused_sixel : (e : SixelError) (limit : Limit) (h : History) (byte : ℕ) → IsSixelByte byte
    → Faults e true (fault limit (Sixel (byte - 63) ∷ h))
    → Faults e (nat_lt (growths (closed h)) (growths (closed (read h byte))))
    (fault limit (closed (read h byte)))
refused_sixel e limit h byte is refused = grind (arith, nat_tests)
