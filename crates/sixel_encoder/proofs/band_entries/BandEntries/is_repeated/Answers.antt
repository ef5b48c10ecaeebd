use Rattle.std.proofs.{Common.{arith, ◌*◌, ◌-◌}, lemmas.Bool.Decides.nat_tests}
use Rattle.sixel_encoder.proofs.band_rows.ColumnLanes.{equal-lanes, repeated-lanes}
use Rattle.sixel_encoder.proofs.band_entries.BandEntries.is_repeated.Goals as goal

pub returns : goal.returns
returns c = λ same bit lb.
    let equal = equal-lanes c.args.self.now.lanes.items (8 * c.args.column)
    (8 * (c.args.column - 1)) in
    repeated-lanes _ _ _ c.requires.entries c.requires.column (omega (arith, c.requires.column))
    (grind (arith, nat_tests)) _ lb
