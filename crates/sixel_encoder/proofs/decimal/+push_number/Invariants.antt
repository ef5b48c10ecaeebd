-- A number of more than one digit has a tenth that is less.
use Rattle.sixel_encoder.proofs.decimal.+push_number.Given as goal

abbrev pub decreases-push_number : goal.decreases-push_number
decreases-push_number l = l.number
