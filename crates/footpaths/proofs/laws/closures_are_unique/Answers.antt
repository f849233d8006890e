use Rattle.footpaths.proofs.UniqueClosures.{closures_are_unique}
use Rattle.footpaths.proofs.laws.closures_are_unique.Goals as goal

pub returns : goal.returns
returns c = closures_are_unique
