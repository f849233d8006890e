use Rattle.work_book.specs.Board.{IsOf}
use Rattle.growth_trials.proofs.books.keep_all.Given as goal

abbrev pub invariant-loop : goal.invariant-loop
invariant-loop l = IsOf l.board l.seat
