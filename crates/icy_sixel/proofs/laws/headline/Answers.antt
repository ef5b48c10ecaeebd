use Rattle.icy_sixel.proofs.Headline as proofs
use Rattle.icy_sixel.proofs.laws.headline.Goals as goal

pub returns : goal.returns
returns c = proofs.headline
