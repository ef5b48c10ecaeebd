use Rattle.std.{proofs.Common.{◌≡◌, ℕ, List, ◌+◌, ◌-◌, ◌<◌, length, get_or}, specs.Int.to_le_bytes}
use Rattle.std.{specs.Int.w32, specs.Prelude.{slice_index, nat_le, nat_lt, ◌&&◌, if◌then◌else◌}}
use Rattle.sixel_base.specs.Picture.{is_set}
use Rattle.sixel_canvas.proofs.pixel_row.mix.Given as goal

abbrev pub invariant-mixed : goal.invariant-mixed
invariant-mixed l =
    (length l.pixels ≡ length l.fn.pixels)
    × ((d : List ℕ) (k : ℕ) → k < 4
    → to_le_bytes w32 (slice_index l.new k)
    ≡ (if is_set (slice_index l.fn.sixels k) l.bit then l.fn.color
    else get_or l.fn.pixels (l.at + k) d))
    × ((d : List ℕ) (i : ℕ)
    → get_or l.pixels i d
    ≡ (if nat_le l.at i && nat_lt i (l.at + l.j) && is_set (get_or l.fn.sixels (i - l.at) 0) l.bit
    then l.fn.color else get_or l.fn.pixels i d))
