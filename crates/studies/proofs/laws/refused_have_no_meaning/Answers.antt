use Rattle.studies.proofs.OneMeaning.{refused_meaningless}
use Rattle.studies.proofs.laws.refused_have_no_meaning.Goals as goal

pub returns : goal.returns
returns c = refused_meaningless c.too_many_have_no_closure.ensures
