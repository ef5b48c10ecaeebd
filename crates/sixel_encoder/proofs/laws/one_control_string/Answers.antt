use Rattle.sixel_encoder.proofs.plain_text.Text.{IsOneString-text}
use Rattle.sixel_encoder.proofs.laws.one_control_string.Goals as goal

pub returns-clause-whole : goal.returns-clause-whole
returns-clause-whole c = IsOneString-text
