use Rattle.sixel_encoder.specs.declared.form.TextForm.TheVariants.{Plain}
use Rattle.sixel_encoder.proofs.drawings.EncodedText.{one_string-form, read_back-form}
use Rattle.sixel_encoder.proofs.round_trip.TripLimits.{IsWritable-drawn}
use Rattle.sixel_encoder.proofs.laws.image_trip.Goals as goal

pub returns-clause-writable : goal.returns-clause-writable
returns-clause-writable c = λ image max_colors drawing sound bytes is.
    IsWritable-drawn image max_colors drawing is sound bytes

pub returns-clause-whole : goal.returns-clause-whole
returns-clause-whole c = one_string-form Plain

pub returns-clause-read_back : goal.returns-clause-read_back
returns-clause-read_back c = read_back-form Plain
