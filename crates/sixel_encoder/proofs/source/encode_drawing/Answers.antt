use Rattle.std.{proofs.Common.{[], subst, arith}, proofs.lemmas.Bool.Decides.nat_tests}
use Rattle.std.{proofs.lemmas.List.get_or_default, specs.Prelude.All}
use Rattle.sixel_encoder.proofs.drawings.IndexedText.{IsTextOf-written, IsWritable-indexed}
use Rattle.sixel_encoder.specs.Trip.{IsColor}
use Rattle.sixel_encoder.proofs.source.encode_drawing.Goals as goal

pub returns-clause-text : goal.returns-clause-text
returns-clause-text c =
    let colors = c.args.colors.now in
    let bytes : All IsColor colors =
    λ k d l.
    subst IsColor (get_or_default colors k [] d l)
    (record { channels = c.told-colors k l; bytes = c.color_bytes.ensures k [] l }) in
    IsTextOf-written _ _ _ (IsWritable-indexed _ _ _ c.requires.sound c.requires.few bytes
    c.requires.count c.requires.opaque) (grind (arith, nat_tests))
