use Rattle.footpaths.proofs.UniqueClosures.{too_many_have_no_closure}
use Rattle.footpaths.proofs.laws.too_many_have_no_closure.Goals as goal

pub returns : goal.returns
returns c = too_many_have_no_closure
