use Rattle.std.proofs.{Common.{◌≡◌, get_or, add-one, arith}, lemmas.Bool.Decides.nat_tests}
use Rattle.icy_sixel.proofs.Bands.{band_at, band_whole}
use Rattle.icy_sixel.proofs.receiver.rows.band_len.Goals as goal

pub returns-then-chunk-index-eq45-clause-band : goal.returns-then-chunk-index-eq45-clause-band
returns-then-chunk-index-eq45-clause-band c =
    let is : get_or c.args.chunk.now c.bytes.index 0 ≡ 45 =
    grind (arith, nat_tests, c.if-chunk-index-eq45.true) in
    rw add-one (band_at c.args.chunk.now c.bytes.index (omega (arith, c.bytes-test.true))
    c.bytes.invariant is)

pub returns-clause-band : goal.returns-clause-band
returns-clause-band c = grind (arith, nat_tests, band_whole, c.bytes.invariant, c.bytes-test.false)
