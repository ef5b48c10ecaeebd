use Rattle.std.proofs.{Common.arith, lemmas.Bool.Decides.nat_tests}
use Rattle.sixel_palette.proofs.nearest_entries.SixteenEntries.{byte_lanes, entry_distance-same}
use Rattle.sixel_palette.proofs.dithering.sixteen_entries.SixteenEntries.is_entry.Goals as goal

pub returns : goal.returns
returns c = λ colors tolerance is are.
    let small = byte_lanes c.args.color c.fits-color.1 in
    entry_distance-same colors c.args.self.now c.args.color tolerance c.args.index are c.requires
    small (grind (arith, nat_tests, small 0, small 1, small 2))
