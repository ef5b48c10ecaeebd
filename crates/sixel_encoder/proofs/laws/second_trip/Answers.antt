use Rattle.sixel_encoder.proofs.round_trip.SecondTrip.{text-again, trip-again}
use Rattle.sixel_encoder.proofs.laws.second_trip.Goals as goal

pub returns-clause-trip : goal.returns-clause-trip
returns-clause-trip c = trip-again

pub returns-clause-read_back : goal.returns-clause-read_back
returns-clause-read_back c = text-again
