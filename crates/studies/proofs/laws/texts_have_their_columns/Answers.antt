use Rattle.studies.proofs.OtherColumns.{texts_columns}
use Rattle.studies.proofs.laws.texts_have_their_columns.Goals as goal

pub returns : goal.returns
returns c = texts_columns c.closures_are_unique.ensures c.rows_have_their_columns.ensures.matrices
