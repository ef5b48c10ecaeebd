-- What contracts see of an image that is read in chunks, and what its bytes mean so far: those of a
-- payload, or of a DCS sequence with its payload. Chunks are not mentioned. The words are those of
-- Dcs and Payload of sixel_base, where DEC's manual gives the rules.
use Rattle.std.specs.Prelude.{ℕ, ◌≡◌, Bool, false, List, [], Option, None}
use Rattle.sixel_base.specs.Dcs.{Stage, Heading, Failing, Reading, stage, stage_in_payload}
use Rattle.sixel_base.specs.{Dcs.{stage_painted_area, stage_size}, Decoder.origin_of}
use Rattle.sixel_base.specs.{DrawnHeight.stage_drawn_height, Fault.{Fault, StreamFailed}}
use Rattle.sixel_base.specs.{Limits.Limit, OneShot.{Found, Payload, NoPayload}, Settings.Settings}
use Rattle.sixel_base.specs.declared.state.DecoderState.{DecoderState}
use Rattle.sixel_decoder.specs.{FinalRows.stage_final_rows, Paints.{stage_measure, stage_sixels}}
use Rattle.sixel_decoder.specs.Session.{Session, DcsSession, decoder_of}
use Rattle.sixel_base.specs.OneShot as one_shot
use Rattle.sixel_decoder.specs.Paints as measures

-- what is received: nothing, a payload that is read with these settings, or a DCS sequence
pub data Form : Type 0 where
  Nothing : Form
  OfPayload : Settings → Form
  OfString : Form

-- The image that is open: its form, the decoder that it began from, the bytes fed, whether a feed
-- was rejected, the fault that is stored for later calls, if one is, how many pixels were written
-- to grow its canvas, the capacity of its canvas in pixels, an upper bound of what sixels have
-- painted, and how many rows from the top were released. A failed allocation is stored as no fault.
pub record Reception : Type 0 where
  pub form : Form
  pub start : DecoderState
  pub bytes : List ℕ
  pub is_refused : Bool
  pub failure : Option (Option Fault)
  pub writes : ℕ
  pub room : ℕ
  pub paints : ℕ
  pub released : ℕ

-- an image that was fed nothing
abbrev pub begun : Form → DecoderState → Reception
begun form decoder = record {
  form = form;
  start = decoder;
  bytes = [];
  is_refused = false;
  failure = None;
  writes = 0;
  room = 0;
  paints = 0;
  released = 0;
}

-- the image of a payload session, which stores no error
abbrev pub of_payload : Session → Reception
of_payload session = record {
  form = OfPayload session.origin.settings;
  start = decoder_of session.origin;
  bytes = session.bytes;
  is_refused = session.is_refused;
  failure = None;
  writes = session.writes;
  room = session.room;
  paints = session.paints;
  released = session.released;
}

-- and that of a DCS session
abbrev pub of_sequence : DcsSession → Reception
of_sequence session = record {
  form = OfString;
  start = session.decoder;
  bytes = session.bytes;
  is_refused = session.is_refused;
  failure = None;
  writes = session.writes;
  room = session.room;
  paints = session.paints;
  released = session.released;
}

-- how far its bytes are read
abbrev pub stage_of : Form → List ℕ → Stage
stage_of Nothing bytes = Failing StreamFailed
stage_of (OfPayload settings) bytes = Reading settings bytes
stage_of OfString bytes = stage bytes

-- whether the payload has begun
abbrev pub in_payload : Form → List ℕ → Bool
in_payload form bytes = stage_in_payload (stage_of form bytes)

-- the width and the height that the picture has so far
abbrev pub size : Limit → Form → List ℕ → Option (ℕ × ℕ)
size limit form bytes = stage_size limit (stage_of form bytes)

-- the last row with a set pixel, plus one, or 0 if there is none
abbrev pub drawn_height : Limit → Form → List ℕ → ℕ
drawn_height limit form bytes = stage_drawn_height limit (stage_of form bytes)

-- how many rows from the top are final
abbrev pub final_rows : Limit → Form → List ℕ → ℕ
final_rows limit form bytes = stage_final_rows limit (stage_of form bytes)

-- how many closed sixels it has, what these are counted as at least, on rows and on a band, and the
-- area that they reach
abbrev pub sixels : Form → List ℕ → ℕ
sixels form bytes = stage_sixels (stage_of form bytes)

abbrev pub least_count : Limit → Form → List ℕ → ℕ
least_count limit form bytes =
    stage_measure (measures.least_count limit) limit (stage_of form bytes)

abbrev pub least_band_count : Limit → Form → List ℕ → ℕ
least_band_count limit form bytes =
    stage_measure (measures.least_band_count limit) limit (stage_of form bytes)

abbrev pub least_writes : Limit → ℕ → Form → List ℕ → ℕ
least_writes limit released form bytes =
    stage_measure (measures.least_write_count limit released) limit (stage_of form bytes)

abbrev pub painted_area : Limit → Form → List ℕ → ℕ
painted_area limit form bytes = stage_painted_area limit (stage_of form bytes)

-- the right edges of the bands of its closed sixels, together
abbrev pub band_columns : Limit → Form → List ℕ → ℕ
band_columns limit form bytes =
    stage_measure (measures.band_columns limit) limit (stage_of form bytes)

-- for how many pixels a canvas of one band has capacity at most beside the image
abbrev pub band_room : Limit → Form → List ℕ → ℕ
band_room limit form bytes = stage_measure (measures.band_room limit) limit (stage_of form bytes)

-- the payload that is drawn
abbrev pub found : Form → List ℕ → Found
found Nothing bytes = NoPayload StreamFailed
found (OfPayload settings) bytes = Payload settings bytes
found OfString bytes = one_shot.found bytes

-- The payload of this image has begun, and is read by this session.
pub record IsPayloadOf (payload : Session) (image : Reception) : Type 0 where
  pub reading : stage_of image.form image.bytes ≡ Reading payload.origin.settings payload.bytes
  pub drawn : found image.form image.bytes ≡ Payload payload.origin.settings payload.bytes
  pub start : payload.origin ≡ origin_of image.start payload.origin.settings
  pub refused : payload.is_refused ≡ image.is_refused
  pub writes : payload.writes ≡ image.writes
  pub room : payload.room ≡ image.room
  pub paints : payload.paints ≡ image.paints
  pub released : payload.released ≡ image.released

-- The payload of this image has not begun, or a feed has failed.
pub record HasNoPayload (image : Reception) : Type 0 where
  pub heading : image.is_refused ≡ false → stage_of image.form image.bytes ≡ Heading
  pub writes : image.writes ≡ 0
  pub room : image.room ≡ 0
  pub paints : image.paints ≡ 0
  pub released : image.released ≡ 0
