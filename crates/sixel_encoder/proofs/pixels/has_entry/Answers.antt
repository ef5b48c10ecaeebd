use Rattle.std.proofs.{Common.arith, lemmas.Bool.Decides.nat_tests, lemmas.List.get_or_past}
use Rattle.std.proofs.lemmas.List.FromFn.{length-map-range_with_len}
use Rattle.sixel_encoder.proofs.drawings.IndexedText.{get_or-entries}
use Rattle.sixel_encoder.proofs.pixels.has_entry.Goals as goal

pub returns-then-pixel-image : goal.returns-then-pixel-image
returns-then-pixel-image c =
    grind (arith, nat_tests, length-map-range_with_len, get_or_past, c.if-pixel-image.true)

pub returns-in-Some : goal.returns-in-Some
returns-in-Some c =
    grind (arith, get_or-entries, c.if-pixel-image.false, c.entry_of.ensures.entry, c.in-Some.is)

pub returns-in-None : goal.returns-in-None
returns-in-None c =
    grind (arith, get_or-entries, c.if-pixel-image.false, c.entry_of.ensures.entry, c.in-None.is)
