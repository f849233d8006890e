use Rattle.rounds.proofs.PlainForms.{of_departures}
use Rattle.rounds.proofs.laws.durations_are_those_of_departures.Goals as goal

pub returns : goal.returns
returns c = of_departures
