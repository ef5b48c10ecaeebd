use Rattle.sixel_encoder.proofs.compact_form.Text.{IsDrawnText-compact}
use Rattle.sixel_encoder.proofs.round_trip.DcsText.{IsOneString-drawn, IsReadAs-drawn}
use Rattle.sixel_encoder.proofs.laws.compact_text.Goals as goal

pub returns-clause-whole : goal.returns-clause-whole
returns-clause-whole c = λ limit drawing is.
    IsOneString-drawn limit drawing _ is (IsDrawnText-compact drawing is)

pub returns-clause-read_back : goal.returns-clause-read_back
returns-clause-read_back c = λ decoder drawing is.
    IsReadAs-drawn decoder drawing _ is (IsDrawnText-compact drawing is)
