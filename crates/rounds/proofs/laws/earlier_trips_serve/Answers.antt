use Rattle.rounds.proofs.TripsLeftOut.{earlier_serve}
use Rattle.rounds.proofs.laws.earlier_trips_serve.Goals as goal

pub returns : goal.returns
returns c = earlier_serve
