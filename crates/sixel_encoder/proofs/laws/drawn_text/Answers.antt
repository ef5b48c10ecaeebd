use Rattle.sixel_encoder.proofs.round_trip.DcsText.{IsOneString-drawn, IsReadAs-drawn}
use Rattle.sixel_encoder.proofs.laws.drawn_text.Goals as goal

pub returns-clause-whole : goal.returns-clause-whole
returns-clause-whole c = IsOneString-drawn

pub returns-clause-read_back : goal.returns-clause-read_back
returns-clause-read_back c = IsReadAs-drawn
