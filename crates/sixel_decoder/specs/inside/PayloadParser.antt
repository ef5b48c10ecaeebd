-- What a payload parser has drawn of the history so far: every token but a newest one that can
-- continue. An invariant of this library's own: what a payload means, by DEC's manual, is in
-- Payload of sixel_base.
use Rattle.std.specs.Prelude.{ℕ, ◌≤◌, ◌+◌, ◌*◌, ◌≡◌, None, Bool, true, false, nat_lt, MatchResult}
use Rattle.std.specs.Prelude.{Result, List, ◌∷◌, drop, fold, if◌then◌else◌}
use Rattle.sixel_base.specs.{Status.status_of, declared.status.SixelFeedResult.SixelFeedResult}
use Rattle.sixel_base.specs.Bytes.{front, count, first_terminator, is_terminated}
use Rattle.sixel_base.specs.{Clip.clipped_pixel, declared.error.SixelError.SixelError, Fault.Faults}
use Rattle.sixel_base.specs.{inside.Parameters.Keeps, History.{Token, Repeat, Raster, Color}}
use Rattle.sixel_base.specs.{History.{History, goes_on, read}, Lenient.fault, Stroke.Origin}
use Rattle.sixel_base.specs.Payload.{closed, growths, payload_fault, payload_image}
use Rattle.sixel_base.specs.Payload.{payload_registers, payload_wants, tokens}
use Rattle.sixel_decoder.specs.{PictureView.{picture_report, whole_image}, Report.payload_report}
use Rattle.sixel_decoder.specs.declared.decoded_payload.DecodedPayload.{DecodedPayload}
use Rattle.sixel_decoder.specs.declared.payload_parser.OpenCommand.{OpenCommand}
use Rattle.sixel_decoder.specs.declared.payload_parser.OpenCommand.TheVariants.{Ground, InRepeat}
use Rattle.sixel_decoder.specs.declared.payload_parser.OpenCommand.TheVariants.{InRaster, InColor}
use Rattle.sixel_decoder.specs.declared.payload_parser.PayloadParser.{PayloadParser}
use Rattle.sixel_decoder.specs.inside.Lenient.{HasDrawn}
use Rattle.sixel_canvas.specs.declared.drawing.Canvas.{Ghosts}

-- the newest token is a command that is open, and the parameters are those of its text so far
pub record IsOpen {C : Type 0} {canvas : Ghosts C} (command : List ℕ → Token) (origin : Origin)
    (parser : PayloadParser C canvas) (history : History) : Type 0 where
  pub text : List ℕ
  pub older : History
  pub newest : history ≡ command text ∷ older
  pub keeps : Keeps parser.parameters text
  pub shows : HasDrawn origin parser.painter parser.ignored older

-- no token can continue, and all were drawn
pub record IsDrawn {C : Type 0} {canvas : Ghosts C} (origin : Origin)
    (parser : PayloadParser C canvas) (history : History) : Type 0 where
  pub ended : (byte : ℕ) → goes_on history byte ≡ false
  pub shows : HasDrawn origin parser.painter parser.ignored history

abbrev pub StandsIn : {C : Type 0} {canvas : Ghosts C} → OpenCommand → Origin
    → PayloadParser C canvas → History → Type 0
StandsIn Ground origin parser history = IsDrawn origin parser history
StandsIn InRepeat origin parser history = IsOpen Repeat origin parser history
StandsIn InRaster origin parser history = IsOpen Raster origin parser history
StandsIn InColor origin parser history = IsOpen Color origin parser history

abbrev pub Stands : {C : Type 0} {canvas : Ghosts C} → Origin → PayloadParser C canvas → History
    → Type 0
Stands origin parser history = StandsIn parser.command origin parser history

-- The parser has read the history, which continues an earlier one; or a token that was closed since
-- is rejected.
abbrev pub Reads : {A C : Type 0} {canvas : Ghosts C} → Result A SixelError → Origin
    → PayloadParser C canvas → History → History → Type 0
Reads result origin parser before history =
    MatchResult result (λ _. Stands origin parser history)
    (λ error.
    Faults error (nat_lt (growths (closed before)) (growths (closed history)))
    (fault origin.pixel_limit (closed history)))

-- the history after a chunk
abbrev pub after : History → List ℕ → History
after history piece = fold read history (front piece)

-- the tokens then that no further byte can change
abbrev pub settled_after : History → List ℕ → History
settled_after history piece =
    if is_terminated piece then after history piece else closed (after history piece)

-- The bytes of a chunk before this index were read, and the parser is in the history so far.
pub record Reaches {C : Type 0} {canvas : Ghosts C} (o : Origin) (parser : PayloadParser C canvas)
    (h : History) (index : ℕ) (piece : List ℕ) : Type 0 where
  pub now : History
  pub stands : Stands o parser now
  pub ahead : fold read now (front (drop index piece)) ≡ after h piece
  pub terminator : first_terminator (drop index piece) ≡ first_terminator piece
  pub counted : index + count (drop index piece) ≡ count piece
  pub grown : growths (closed h) ≤ growths (closed now)

-- After a terminator every token was drawn; before one, all but an open command.
abbrev pub StandsAfter : {C : Type 0} {canvas : Ghosts C} → Bool → Origin
    → PayloadParser C canvas → History → Type 0
StandsAfter true origin parser history =
    (parser.command ≡ Ground) × HasDrawn origin parser.painter parser.ignored history
StandsAfter false origin parser history = Stands origin parser history

-- The chunk was read up to its first terminator, or is rejected by the first fault.
abbrev pub Feeds : {C : Type 0} {canvas : Ghosts C} → Result SixelFeedResult SixelError → Origin
    → PayloadParser C canvas → History → List ℕ → Type 0
Feeds result origin parser history piece =
    MatchResult result
    (λ fed. (fed.consumed ≡ count piece) × (fed.status ≡ status_of (first_terminator piece))
    × StandsAfter (is_terminated piece) origin parser (after history piece))
    (λ error. Faults error
    (nat_lt (growths (closed history)) (growths (settled_after history piece)))
    (fault origin.pixel_limit (settled_after history piece)))

-- The bytes are a payload with no fault, and this is its image; or they are rejected by their first
-- fault.
abbrev pub Decodes : Result DecodedPayload SixelError → Origin → List ℕ → Type 0
Decodes result origin bytes =
    MatchResult result
    (λ picture. (payload_fault origin.pixel_limit bytes ≡ None)
    × (whole_image (clipped_pixel origin (tokens origin.pixel_limit bytes)) picture
    ≡ payload_image origin bytes)
    × (picture.registers ≡ payload_registers origin bytes)
    × (picture.width * picture.height ≤ origin.pixel_limit.pixels)
    × (picture_report picture ≡ payload_report origin bytes))
    (λ error.
    Faults error (payload_wants origin.pixel_limit bytes) (payload_fault origin.pixel_limit bytes))
