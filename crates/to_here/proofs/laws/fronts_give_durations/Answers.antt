use Rattle.to_here.proofs.FrontsGrow.{fronts_give_durations}
use Rattle.to_here.proofs.laws.fronts_give_durations.Goals as goal

pub returns : goal.returns
returns c = fronts_give_durations
