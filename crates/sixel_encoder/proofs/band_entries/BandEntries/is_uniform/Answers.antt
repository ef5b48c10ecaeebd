use Rattle.std.proofs.{Common.{arith, ◌%◌, ◌≡◌}, lemmas.Bool.Decides.nat_tests}
use Rattle.sixel_encoder.proofs.band_rows.ColumnLanes.{uniform-lanes}
use Rattle.sixel_encoder.proofs.band_entries.BandEntries.is_uniform.Goals as goal

pub returns : goal.returns
returns c = λ all bit lb.
    let all_set : c.lanes_with.result % 64 ≡ 63 = grind (arith, nat_tests) in
    uniform-lanes _ _ _ _ c.requires.entries c.requires.column c.lane-first.ensures
    c.lanes_with.ensures all_set _ lb
