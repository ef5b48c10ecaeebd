-- What laws of the output follow from.
use Rattle.sixel_encoder.proofs.compact_form.Text.{IsDrawnText-compact, length-compact}
use Rattle.sixel_encoder.proofs.drawings.Background.{background-form}
use Rattle.sixel_encoder.proofs.plain_text.Text.{IsDrawnText-plain, found-text, payload-ended}
use Rattle.sixel_encoder.proofs.plain_text.Text.{payload-front, payload-own, plain-sound}
use Rattle.sixel_encoder.proofs.plain_text.Text.{plain-trip, stage-text, text_of-parts}
use Rattle.sixel_encoder.proofs.round_trip.DcsText.{IsReadAs-drawn}
use Rattle.sixel_encoder.proofs.round_trip.Percentages.{percentage-byte_of, rounded-rounded}
use Rattle.sixel_encoder.proofs.round_trip.TripLimits.{CanRead-new, bytes-trip, image_fault-trip}

-- the text of a drawing, and what it is read back as
pub ruleset laws = (
  text_of-parts,
  payload-own,
  payload-front,
  payload-ended,
  plain-sound,
  plain-trip,
  found-text,
  stage-text,
  IsReadAs-drawn,
  IsDrawnText-plain,
  IsDrawnText-compact,
  length-compact,
  background-form,
  percentage-byte_of,
  rounded-rounded,
  CanRead-new,
  image_fault-trip,
  bytes-trip,
)
