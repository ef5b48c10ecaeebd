-- The header of a DCS sequence, the bytes between its introducer and its `q`. Digits, semicolons
-- and ignored controls are read as up to three parameters: P1, P2 and P3 of DEC's sixel sequence,
-- each at most `header_limit` here.
use Rattle.std.specs.Prelude.{ℕ, ◌==◌, nat_lt, min, Bool, ◌||◌, if◌then◌else◌, List, [], ◌∷◌}
use Rattle.std.specs.Prelude.{length, Option, Some, None}
use Rattle.sixel_base.specs.{Bytes.{is_parameter, is_ignored, is_terminator, carrying}, Fault.Fault}
use Rattle.sixel_base.specs.{Fault.{Malformed, BadHeader}, Fields.{fields, field}}
use Rattle.sixel_base.specs.{Limits.header_limit, Settings.Settings}

-- a byte that a header may have before its `q`
abbrev pub is_header : ℕ → Bool
is_header byte = is_parameter byte || is_ignored byte

-- the bytes of the header
abbrev pub header_front : List ℕ → List ℕ
header_front [] = []
header_front (byte ∷ bytes) = if is_header byte then byte ∷ header_front bytes else []

-- what follows them
abbrev pub header_rest : List ℕ → List ℕ
header_rest [] = []
header_rest (byte ∷ bytes) = if is_header byte then header_rest bytes else byte ∷ bytes

-- a header's text, without the ignored controls
abbrev pub header_text : List ℕ → List ℕ
header_text bytes = carrying (header_front bytes)

-- a parameter, where there is one
abbrev pub header_field : List ℕ → ℕ → Option ℕ
header_field text k =
    if nat_lt k (length (fields text)) then Some (min (field text k) header_limit) else None

abbrev pub settings_of : List ℕ → Settings
settings_of text = record {
  aspect_ratio = header_field text 0;
  zero_color = header_field text 1;
  grid_size = header_field text 2;
}

-- what the byte after a header means: its `q`, or a fault
abbrev pub command_fault : ℕ → Option Fault
command_fault byte =
    if byte == 113 then None else if is_terminator byte then Some Malformed else Some BadHeader

-- the status of a header: it may continue, its `q` was read and these bytes follow, or it has a
-- fault
pub data Headed : Type 0 where
  Open : Headed
  Begun : List ℕ → Headed
  Faulty : Fault → Headed

abbrev pub headed_by : List ℕ → Headed
headed_by [] = Open
headed_by (byte ∷ payload) =
    if byte == 113 then Begun payload else if is_terminator byte then Faulty Malformed
    else Faulty BadHeader

abbrev pub headed : List ℕ → Headed
headed bytes = headed_by (header_rest bytes)
