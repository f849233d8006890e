use Rattle.work_book.specs.Board.{IsOf}
use Rattle.board_trials.proofs.workers.work.Given as goal

abbrev pub invariant-loop : goal.invariant-loop
invariant-loop l = IsOf l.board l.seat
