use Rattle.sixel_palette.proofs.mapped_images.GraySource.{errors-gray, is-gray, target-gray}
use Rattle.sixel_palette.proofs.mapped_images.GraySource.{distance-gray, entry-gray, gray-color}
use Rattle.sixel_palette.proofs.mapped_images.{GraySource.gray-length, PaletteError.any-near}
use Rattle.std.proofs.Common.{arith, ℕ, [], ◌+◌, ◌-◌, ◌*◌}
use Rattle.std.proofs.lemmas.{Bool.Decides.nat_tests, List.get_or_past, Nat.mul-le}
use Rattle.std.specs.{Int.abs_diff, Prelude.{slice_index, slice_index_or}}
use Rattle.sixel_palette.specs.Dithering.{errors_of, neighbor_of, serpentine, target_of_visit}
use Rattle.sixel_palette.specs.Dithering.{rounded_sixteenths}
use Rattle.sixel_palette.proofs.dithering.gray_diffusion.Goals as goal

pub returns-clause-grays : goal.returns-clause-grays
returns-clause-grays c = grind (arith, nat_tests, gray-color, is-gray, get_or_past, gray-length)

pub returns-clause-gray : goal.returns-clause-gray
returns-clause-gray c = λ m indices n grays. errors-gray m indices n grays

-- the own level is the nearest one
pub returns-clause-near : goal.returns-clause-near
returns-clause-near c = λ m indices n entry grays has light inside.
    let color = target_of_visit m (errors_of m indices n) n in
    let index = slice_index indices (serpentine m.width n) in
    let target = target-gray m (errors_of m indices n) n grays (errors-gray m indices n grays) in
    let far = λ (i : ℕ).
    distance-gray (slice_index_or m.colors i []) color (entry-gray m i grays) target in
    let near =
    any-near m color (neighbor_of m color indices n) index entry (has.opaque light) inside in
    omega (arith, near, far index, far entry)

-- what is passed on is at most that of the gap
pub returns-clause-passed : goal.returns-clause-passed
returns-clause-passed c = λ strength value entry small byte.
    let gap = abs_diff (rounded_sixteenths value) entry in
    let whole = value + 4096 - 16 * entry in
    let low =
    mul-le 4096 strength (whole + 8 * (2 * gap + 1)) strength (omega arith) (omega arith) in
    let high =
    mul-le whole strength (4096 + 8 * (2 * gap + 1)) strength (omega arith) (omega arith) in
    (omega (arith, low), omega (arith, high))
