use Rattle.work_book.proofs.ClosedBoards.{some_run}
use Rattle.work_book.proofs.laws.closed_boards_are_runs.Goals as goal

pub returns : goal.returns
returns c = some_run
