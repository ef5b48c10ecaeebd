use Rattle.sixel_encoder.proofs.drawings.RefinedText.{IsRefinedText-other}
use Rattle.sixel_encoder.proofs.laws.refined_text.Goals as goal

pub returns : goal.returns
returns c = IsRefinedText-other
