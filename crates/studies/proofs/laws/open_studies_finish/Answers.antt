use Rattle.studies.proofs.OpenGates.{open_finish}
use Rattle.studies.proofs.laws.open_studies_finish.Goals as goal

pub returns : goal.returns
returns c = open_finish
