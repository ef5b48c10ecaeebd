-- What the bytes before a chunk and the chunk are together.
use Rattle.std.proofs.Common.{◌≡◌, ℕ, ◌+◌, Bool, true, false, cond, List, [], ◌∷◌, ◌++◌, refl, ap}
use Rattle.std.proofs.Common.{sym, ◌∙◌, subst, arith, Option, Some, None, Result, Ok, Err, length}
use Rattle.std.{proofs.Common.length-append, proofs.lemmas.Bool.Decides.nat_tests}
use Rattle.std.{proofs.lemmas.List.Sums.fold-append, specs.Prelude.is_some}
use Rattle.sixel_base.{proofs.ToleratedTokens.effective-fault, specs.Bytes.{front, carrying}}
use Rattle.sixel_base.specs.Bytes.{before_terminator, count, first_terminator, is_terminated}
use Rattle.sixel_base.specs.History.{Sixel, Repeat, Raster, Color, Return, Newline, Skip, History}
use Rattle.sixel_base.{specs.History.{goes_on, history_of}, specs.Payload.{closed, settled}}
use Rattle.sixel_base.{specs.Status.status_of, specs.Stroke.Origin}
use Rattle.sixel_base.specs.declared.error.SixelError.{SixelError}
use Rattle.sixel_base.specs.declared.status.SixelFeedResult.{SixelFeedResult}
use Rattle.sixel_canvas.specs.declared.drawing.Canvas.{Ghosts}
use Rattle.sixel_decoder.specs.declared.payload_parser.OpenCommand.{OpenCommand}
use Rattle.sixel_decoder.specs.declared.payload_parser.OpenCommand.TheVariants.{Ground, InRepeat}
use Rattle.sixel_decoder.specs.declared.payload_parser.OpenCommand.TheVariants.{InRaster, InColor}
use Rattle.sixel_decoder.specs.declared.payload_parser.PayloadParser.{PayloadParser}
use Rattle.sixel_decoder.{specs.inside.Lenient.HasDrawn, specs.inside.PayloadParser.StandsIn}
use Rattle.sixel_decoder.specs.inside.PayloadParser.{StandsAfter, Feeds}
use Rattle.sixel_decoder.specs.inside.PayloadReader.{HasRead, GoesOn}

-- ---- where no terminator has come yet

pub before_terminator-append : (bytes piece : List ℕ) → first_terminator bytes ≡ None
    → before_terminator (bytes ++ piece) ≡ bytes ++ before_terminator piece
before_terminator-append [] piece none = refl
before_terminator-append (byte ∷ bytes) piece none =
    grind (arith, nat_tests, before_terminator-append bytes piece)

pub before_terminator-whole : (bytes : List ℕ) → first_terminator bytes ≡ None
    → before_terminator bytes ≡ bytes
before_terminator-whole [] none = refl
before_terminator-whole (byte ∷ bytes) none =
    grind (arith, nat_tests, before_terminator-whole bytes)

pub first_terminator-append : (bytes piece : List ℕ) → first_terminator bytes ≡ None
    → first_terminator (bytes ++ piece) ≡ first_terminator piece
first_terminator-append [] piece none = refl
first_terminator-append (byte ∷ bytes) piece none =
    grind (arith, nat_tests, first_terminator-append bytes piece)

pub carrying-append : (xs ys : List ℕ) → carrying (xs ++ ys) ≡ carrying xs ++ carrying ys
carrying-append [] ys = refl
carrying-append (byte ∷ xs) ys = grind (arith, nat_tests, carrying-append xs ys)

pub count-append : (bytes piece : List ℕ) → first_terminator bytes ≡ None
    → count (bytes ++ piece) ≡ count bytes + count piece
count-append bytes piece none =
    grind (arith, nat_tests, before_terminator-append, length-append, before_terminator-whole)

-- ---- where one has come

pub before_terminator-ended : (bytes piece : List ℕ) (t : ℕ) → first_terminator bytes ≡ Some t
    → before_terminator (bytes ++ piece) ≡ before_terminator bytes
before_terminator-ended [] piece t some = absurd cc
before_terminator-ended (byte ∷ bytes) piece t some =
    grind (arith, nat_tests, before_terminator-ended bytes piece t)

pub first_terminator-ended : (bytes piece : List ℕ) (t : ℕ) → first_terminator bytes ≡ Some t
    → first_terminator (bytes ++ piece) ≡ Some t
first_terminator-ended [] piece t some = absurd cc
first_terminator-ended (byte ∷ bytes) piece t some =
    grind (arith, nat_tests, first_terminator-ended bytes piece t)

-- ---- what a parser has read

-- tokens that no byte goes on are closed
closed-ended : (h : History) → ((byte : ℕ) → goes_on h byte ≡ false) → closed h ≡ h
closed-ended [] ended = refl
closed-ended (Sixel _ ∷ h) ended = refl
closed-ended (Repeat _ ∷ h) ended = absurd (cc (ended 48))
closed-ended (Raster _ ∷ h) ended = absurd (cc (ended 48))
closed-ended (Color _ ∷ h) ended = absurd (cc (ended 48))
closed-ended (Return ∷ h) ended = refl
closed-ended (Newline ∷ h) ended = refl
closed-ended (Skip _ ∷ h) ended = refl

-- what a reader has read whose parser is this one
pub parser_read : {C : Type 0} {canvas : Ghosts C} (found : Option (PayloadParser C canvas))
    (parser : PayloadParser C canvas) (o : Origin) (terminator : Option ℕ) (bytes : List ℕ)
    → found ≡ Some parser → HasRead found o terminator bytes
    → HasRead (Some parser) o terminator bytes
parser_read found parser o terminator bytes is read = rw is at read

-- what was drawn is what is closed
stands_shown : {C : Type 0} {canvas : Ghosts C} (command : OpenCommand) (o : Origin)
    (parser : PayloadParser C canvas) (h : History)
    → StandsIn command o parser h → HasDrawn o parser.painter parser.ignored (closed h)
stands_shown Ground o parser h is = grind (arith, nat_tests, closed-ended)
stands_shown InRepeat o parser h is = grind (arith, nat_tests)
stands_shown InRaster o parser h is = grind (arith, nat_tests)
stands_shown InColor o parser h is = grind (arith, nat_tests)

pub shown_after : {C : Type 0} {canvas : Ghosts C} (ended : Bool) (o : Origin)
    (parser : PayloadParser C canvas) (h : History)
    → StandsAfter ended o parser h → HasDrawn o parser.painter parser.ignored
    (cond ended h (closed h))
shown_after true o parser h is = is.1
shown_after false o parser h is = stands_shown parser.command o parser h is

pub settled_open : (before : List ℕ) → first_terminator before ≡ None
    → settled before ≡ closed (history_of (front before))
settled_open before none = grind (arith, nat_tests)

-- what a parser read of a chunk, it read after the bytes before
pub feeds_goes_on : {C : Type 0} {canvas : Ghosts C} (result : Result SixelFeedResult SixelError)
    (o : Origin)
    (parser : PayloadParser C canvas) (before piece : List ℕ) → first_terminator before ≡ None
    → Feeds result o parser (history_of (front before)) piece → GoesOn result o parser before piece
feeds_goes_on (Ok fed) o parser before piece none fed_to = grind (
  arith,
  first_terminator-append,
  fold-append,
  before_terminator-append,
  carrying-append,
  before_terminator-whole,
  fed_to.2,
  fed_to.0,
  count-append,
  fed_to.1,
  effective-fault,
  shown_after,
)
feeds_goes_on (Err e) o parser before piece none refused = grind (
  arith,
  nat_tests,
  settled_open,
  fold-append,
  before_terminator-append,
  carrying-append,
  before_terminator-whole,
  first_terminator-append,
)

-- once a payload has ended, its bytes stay what they are
pub ended_goes_on : {C : Type 0} {canvas : Ghosts C} (o : Origin)
    (parser : PayloadParser C canvas) (before piece : List ℕ) (t : ℕ)
    → HasRead (Some parser) o (Some t) before
    → GoesOn (Ok (record { consumed = 0; status = status_of (Some t) })) o parser before piece
ended_goes_on o parser before piece t is =
    let bytes : List ℕ = before ++ piece in
    let same = before_terminator-ended before piece t is.0 in
    let first = first_terminator-ended before piece t is.0 in
    let drawn : StandsAfter true o parser (history_of (front bytes)) =
    subst (λ (w : List ℕ). StandsAfter true o parser (history_of (carrying w))) (sym same) is.1 in
    let stands : StandsAfter (is_some (first_terminator bytes)) o parser
    (history_of (front bytes)) =
    subst (λ (w : Option ℕ). StandsAfter (is_some w) o parser (history_of (front bytes)))
    (sym first) drawn in (
      omega (arith, ap length same),
      ap status_of (sym first),
      (refl, stands),
      sym (effective-fault o.pixel_limit (settled bytes))
          ∙ (shown_after (is_terminated bytes) o parser
          (history_of (front bytes)) stands).shows.faultless,
    )

-- what a parser has drawn is what no further byte can change
pub shown_settled : {C : Type 0} {canvas : Ghosts C} (o : Origin)
    (parser : PayloadParser C canvas) (terminator : Option ℕ) (bytes : List ℕ)
    → HasRead (Some parser) o terminator bytes → HasDrawn o parser.painter parser.ignored
    (settled bytes)
shown_settled o parser terminator bytes is =
    let h : History = history_of (front bytes) in
    subst (λ (w : Option ℕ). HasDrawn o parser.painter parser.ignored
    (cond (is_some w) h (closed h))) (sym is.0)
    (shown_after (is_some terminator) o parser h is.1)

-- after a terminator a chunk changes nothing
pub ended_reads : {C : Type 0} {canvas : Ghosts C} (o : Origin) (parser : PayloadParser C canvas)
    (before chunk : List ℕ) (t : ℕ)
    → HasRead (Some parser) o (Some t) before
    → HasRead (Some parser) o (Some t) (before ++ chunk)
ended_reads o parser before chunk t is =
    let goes = ended_goes_on o parser before chunk t is in
    subst (λ (w : Option ℕ). HasRead (Some parser) o w (before ++ chunk))
    (first_terminator-ended before chunk t is.0) goes.2

-- before one the parser reads the chunk
pub open_goes_on : {C : Type 0} {canvas : Ghosts C} (result : Result SixelFeedResult SixelError)
    (o : Origin)
    (old new : PayloadParser C canvas) (terminator : Option ℕ) (before chunk : List ℕ)
    → terminator ≡ None → HasRead (Some old) o terminator before
    → (StandsAfter false o old (history_of (front before))
    → Feeds result o new (history_of (front before)) chunk)
    → GoesOn result o new before chunk
open_goes_on result o old new terminator before chunk none is feeds =
    grind (arith, nat_tests, is.1, feeds_goes_on, is.0)
