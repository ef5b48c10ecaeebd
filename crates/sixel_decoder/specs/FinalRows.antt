-- Which rows of a picture are final: no byte that follows changes a pixel of them. By DEC's manual
-- a graphics new line goes down six rows and nothing goes up. So these are the rows above the band
-- of the next sixel. The measure is this library's own.
use Rattle.std.specs.Prelude.{ℕ, min, Bool, if◌then◌else◌, List, []}
use Rattle.sixel_base.specs.{Clip.{clipped_height, clipped_pixel}, Dcs.{Stage, Heading, Failing}}
use Rattle.sixel_base.specs.{Dcs.{Reading, stage}, Decoder.origin_of, History.History, Limits.Limit}
use Rattle.sixel_base.specs.{OneShot.{Found, Payload, NoPayload}, Payload.{settled_tokens, tokens}}
use Rattle.sixel_base.specs.{Place.down, declared.state.DecoderState.DecoderState}

-- how many rows from the top are final: of those above the band of the next sixel, as many as the
-- picture has inside the clip so far
abbrev pub final_rows : Limit → History → ℕ
final_rows limit history = min (down history) (clipped_height limit history)

-- those of a payload, whose further tokens draw below
abbrev pub payload_final_rows : Limit → List ℕ → ℕ
payload_final_rows limit bytes = final_rows limit (settled_tokens limit bytes)

-- the same for a DCS sequence, which has no row before its payload
abbrev pub stage_final_rows : Limit → Stage → ℕ
stage_final_rows limit Heading = 0
stage_final_rows limit (Failing fault) = 0
stage_final_rows limit (Reading settings payload) = payload_final_rows limit payload

abbrev pub dcs_final_rows : Limit → List ℕ → ℕ
dcs_final_rows limit bytes = stage_final_rows limit (stage bytes)

-- how many of these a session has: none after an error
abbrev pub row_count : Bool → ℕ → ℕ
row_count is_refused final = if is_refused then 0 else final

-- the pixel of a payload's picture at a column and a row, which is background outside the clip, and
-- no byte if there is no payload
abbrev pub found_pixel : DecoderState → Found → ℕ → ℕ → List ℕ
found_pixel decoder (Payload settings payload) =
    clipped_pixel (origin_of decoder settings) (tokens decoder.pixel_limit payload)
found_pixel decoder (NoPayload fault) = λ column row. []
