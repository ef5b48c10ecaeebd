-- The table of default colors is the one that the rule of the registers gives.
use Rattle.std.proofs.Common.{◌≡◌, ℕ, List, drop, map, get_or, refl}
use Rattle.std.specs.{Int.{to_be_bytes, w32}, List.range_with_len}
use Rattle.sixel_base.specs.declared.registers.defaults.TheConstants.{DEFAULT_CODES}
use Rattle.sixel_base.specs.Color.{default_registers}

-- the color that the table gives a register
abbrev pub coded_color : ℕ → List ℕ
coded_color k = drop 1 (to_be_bytes w32 (get_or DEFAULT_CODES k 0))

-- the colors of the table are those of the rule
pub map-coded_color : map coded_color (range_with_len 0 256) ≡ default_registers
unfolding default_registers
map-coded_color = refl
