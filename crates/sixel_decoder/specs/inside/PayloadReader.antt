-- What contracts see of a payload reader, and what its parser has read: the bytes so far, up to
-- their first terminator. An invariant of this library's own: contracts speak of the bytes alone.
use Rattle.std.specs.Prelude.{◌≡◌, ◌+◌, ◌++◌, nat_lt, true, false, List, ℕ, Option, Some, None}
use Rattle.std.specs.Prelude.{Result, MatchResult, is_some, is_none}
use Rattle.sixel_base.specs.{Bytes.{front, count, first_terminator}, Decoder.origin_of}
use Rattle.sixel_base.specs.{Fault.Faults, History.history_of, Payload.{fed_fault, settled}}
use Rattle.sixel_base.specs.{Payload.{settled_tokens, growths}, Status.status_of, Stroke.Origin}
use Rattle.sixel_base.specs.declared.error.SixelError.{SixelError}
use Rattle.sixel_base.specs.declared.status.SixelFeedResult.{SixelFeedResult}
use Rattle.sixel_canvas.specs.{Drawn.{Work, no_work}, declared.drawing.Canvas.Ghosts}
use Rattle.sixel_decoder.specs.{Session.Session, declared.painter.Painter.Painter}
use Rattle.sixel_decoder.specs.declared.payload_parser.PayloadParser.{PayloadParser}
use Rattle.sixel_decoder.specs.declared.payload_reader.PayloadReader.TheInside.{Inside}
use Rattle.sixel_decoder.specs.{inside.Painter.Shows, inside.PayloadParser.StandsAfter}

-- what the canvas has cost; after an error there is no canvas
abbrev pub work_of : {C : Type 0} {canvas : Ghosts C} → Option (PayloadParser C canvas) → Work
work_of None = no_work
work_of {C} {canvas} (Some parser) = canvas.work parser.painter.canvas

-- how many rows from the top it has released
abbrev pub released_of : {C : Type 0} {canvas : Ghosts C} → Option (PayloadParser C canvas) → ℕ
released_of None = 0
released_of {C} {canvas} (Some parser) = canvas.released parser.painter.canvas

abbrev pub session_of : {C : Type 0} {canvas : Ghosts C} → Inside C canvas → Session
session_of reader = record {
  origin = origin_of reader.start.value reader.settings;
  bytes = reader.log;
  is_refused = is_none reader.parser;
  writes = (work_of reader.parser).writes;
  room = (work_of reader.parser).room;
  paints = (work_of reader.parser).paints;
  released = released_of reader.parser;
}

-- A parser without an error has read the bytes up to their first terminator, which is known after
-- an error too.
abbrev pub HasRead : {C : Type 0} {canvas : Ghosts C} → Option (PayloadParser C canvas) → Origin
    → Option ℕ → List ℕ → Type 0
HasRead None origin terminator bytes = first_terminator bytes ≡ terminator
HasRead (Some parser) origin terminator bytes =
    (first_terminator bytes ≡ terminator)
    × StandsAfter (is_some terminator) origin parser (history_of (front bytes))

abbrev pub IsReading : {C : Type 0} {canvas : Ghosts C} → Inside C canvas → Type 0
IsReading reader =
    HasRead reader.parser (session_of reader).origin reader.terminator reader.log

-- The painter of a session that was not rejected shows its closed tokens.
pub record IsPainterOf {C : Type 0} {canvas : Ghosts C} (painter : Painter C canvas)
    (session : Session) : Type 0 where
  pub accepted : session.is_refused ≡ false
  pub shows : Shows session.origin painter
      (settled_tokens session.origin.pixel_limit session.bytes)
  -- what its canvas has cost, and how many rows it has released
  pub writes : (canvas.work painter.canvas).writes ≡ session.writes
  pub room : (canvas.work painter.canvas).room ≡ session.room
  pub paints : (canvas.work painter.canvas).paints ≡ session.paints
  pub released : canvas.released painter.canvas ≡ session.released

-- A session that was rejected has no painter.
pub record IsLost (session : Session) : Type 0 where
  pub refused : session.is_refused ≡ true
  pub writes : session.writes ≡ 0
  pub room : session.room ≡ 0
  pub paints : session.paints ≡ 0
  pub released : session.released ≡ 0

-- The parser has read these bytes and the chunk after them, or all are rejected by their first
-- fault.
abbrev pub GoesOn : {C : Type 0} {canvas : Ghosts C} → Result SixelFeedResult SixelError → Origin
    → PayloadParser C canvas → List ℕ → List ℕ → Type 0
GoesOn result origin parser before piece =
    MatchResult result
    (λ fed. (count before + fed.consumed ≡ count (before ++ piece))
    × (fed.status ≡ status_of (first_terminator (before ++ piece)))
    × HasRead (Some parser) origin (first_terminator (before ++ piece)) (before ++ piece)
    × (fed_fault origin.pixel_limit (before ++ piece) ≡ None))
    (λ error.
    Faults error (nat_lt (growths (settled before)) (growths (settled (before ++ piece))))
    (fed_fault origin.pixel_limit (before ++ piece)))
