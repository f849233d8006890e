use Rattle.studies.proofs.OneMeaning.{texts_unique}
use Rattle.studies.proofs.laws.texts_are_unique.Goals as goal

pub returns : goal.returns
returns c = texts_unique c.closures_are_unique.ensures c.matrices_are_unique.ensures
