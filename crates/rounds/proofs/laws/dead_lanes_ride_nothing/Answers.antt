use Rattle.rounds.proofs.TripsLeftOut.{dead_ride_nothing}
use Rattle.rounds.proofs.laws.dead_lanes_ride_nothing.Goals as goal

pub returns : goal.returns
returns g c = dead_ride_nothing g.R.LaneLabels.NEVER
