use Rattle.workers.proofs.Wholes.{whole_given}
use Rattle.workers.proofs.laws.wholes_have_the_rows_of_their_parts.Goals as goal

pub returns : goal.returns
returns c = whole_given
