use Rattle.workers.proofs.Columns.{matrices_columns, rows_columns}
use Rattle.workers.proofs.laws.rows_have_their_columns.Goals as goal

pub returns-clause-rows : goal.returns-clause-rows
returns-clause-rows c = rows_columns

pub returns-clause-matrices : goal.returns-clause-matrices
returns-clause-matrices c = matrices_columns
