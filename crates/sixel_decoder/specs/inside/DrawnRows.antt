-- The last row with a set pixel, by what a painter collects of the sixels of a band: their bits
-- together. An invariant of this library's own: the rows are those of DrawnHeight of sixel_base.
use Rattle.std.specs.{Int.{to_le_bytes, w64}, Int.Bits.bit_or, Prelude.ℕ, Simd.Lanes.fold_l}
use Rattle.sixel_base.specs.DrawnHeight.{lowered, set_rows}
use Rattle.sixel_decoder.specs.declared.drawn_rows.DrawnRows.{DrawnRows}

-- the bits of all sixels of the band
abbrev pub together : DrawnRows → ℕ
together drawn = bit_or drawn.bits (fold_l bit_or 0 (to_le_bytes w64 drawn.eights))

-- the last row with a set pixel, plus one, where the band begins at the top
abbrev pub drawn_rows : DrawnRows → ℕ → ℕ
drawn_rows drawn top = lowered drawn.above top (set_rows (together drawn))
