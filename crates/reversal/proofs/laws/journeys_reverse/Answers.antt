use Rattle.reversal.proofs.JourneysReversed.{journeys_reverse}
use Rattle.reversal.proofs.laws.journeys_reverse.Goals as goal

pub returns : goal.returns
returns c = journeys_reverse
