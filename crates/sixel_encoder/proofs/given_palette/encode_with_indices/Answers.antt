use Rattle.std.proofs.{Common.{length, arith}, lemmas.Bool.Decides.nat_tests}
use Rattle.sixel_encoder.proofs.drawings.IndexedText.{AreEntries-sound}
use Rattle.sixel_encoder.proofs.given_palette.encode_with_indices.Goals as goal

pub encode_drawing-requires-clause-opaque : goal.encode_drawing-requires-clause-opaque
encode_drawing-requires-clause-opaque c =
    AreEntries-sound c.args.source.now.pixels.now c.args.indices.now (length c.args.colors.now)
    (grind (arith, nat_tests))
