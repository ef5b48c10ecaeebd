-- The description of each code in English. Those of SIXEL data and of palettes are
-- the texts of their errors.
use Rattle.std.specs.Prelude.{ℕ, ◌==◌, if◌then◌else◌, List, codes}

abbrev pub description : ℕ → List ℕ
description code =
    if code == 0 then codes "success"
    else if code == 1 then codes "the handle is empty"
    else if code == 2 then codes "no image is open"
    else if code == 3 then codes "the image has no size yet"
    else if code == 4 then codes "no image is stored"
    else if code == 5 then codes "the option is unknown"
    else if code == 6 then codes "the buffer is too small"
    else if code == 7 then codes "stride is shorter than a row"
    else if code == 8 then codes "out of memory"
    else if code == 9 then codes "integer overflow"
    else if code == 10 then codes "invalid dimensions"
    else if code == 11 then codes "buffer size mismatch"
    else if code == 12 then codes "no SIXEL data found (missing DCS introducer)"
    else if code == 13 then codes "malformed SIXEL data"
    else if code == 14 then codes "image dimensions too large"
    else if code == 15 then codes "invalid SIXEL DCS header"
    else if code == 16 then codes "missing SIXEL DCS command"
    else if code == 17 then codes "incomplete SIXEL DCS sequence"
    else if code == 20 then codes "number of colors is not 1 to 256"
    else if code == 21 then codes "palette index out of range"
    else if code == 22 then codes "rows are not final"
    else if code == 23 then codes "rows were released"
    else codes "unknown code"
