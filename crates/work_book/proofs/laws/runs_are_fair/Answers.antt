use Rattle.work_book.proofs.StepsAreFair.{reached_fair, new_fair}
use Rattle.work_book.proofs.NothingIsLast.{nothing_last}
use Rattle.work_book.specs.Book.{new_book}
use Rattle.work_book.proofs.laws.runs_are_fair.Goals as goal

pub returns-clause-drawn : goal.returns-clause-drawn
returns-clause-drawn c = λ jobs tries seats steps. (reached_fair jobs tries seats steps).drawn

pub returns-clause-kept : goal.returns-clause-kept
returns-clause-kept c = λ jobs tries seats steps. (reached_fair jobs tries seats steps).kept

pub returns-clause-nothing : goal.returns-clause-nothing
returns-clause-nothing c = λ jobs tries seats steps. nothing_last steps (new_book jobs tries seats)
    (new_fair jobs tries seats)
