use Rattle.sixel_encoder.proofs.round_trip.ExactText.{ShowsPixels-exact}
use Rattle.sixel_encoder.proofs.laws.exact_text.Goals as goal

pub returns : goal.returns
returns c = ShowsPixels-exact
