use Rattle.std.proofs.{Common.arith, lemmas.Bool.Decides.nat_tests, lemmas.List.Folds.list_any_none}
use Rattle.std.proofs.lemmas.List.FromFn.{get_or-range_with_len, length-range_with_len}
use Rattle.sixel_encoder.proofs.drawings.IndexedText.{list_any-past}
use Rattle.sixel_encoder.proofs.given_palette.validate_indices.Goals as goal

pub returns-then-from-colors : goal.returns-then-from-colors
returns-then-from-colors c =
    let list =
    list_any-past c.args.pixels.now c.args.indices.now c.args.colors c.loop-pixel.pixel in
    grind (arith, nat_tests)

pub returns : goal.returns
returns c = grind (arith, nat_tests, length-range_with_len, get_or-range_with_len, list_any_none)
