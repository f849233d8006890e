use Rattle.to_here.proofs.FrontsGrow.{full_fronts_are_enough}
use Rattle.to_here.proofs.laws.full_fronts_are_enough.Goals as goal

pub returns : goal.returns
returns c = full_fronts_are_enough
