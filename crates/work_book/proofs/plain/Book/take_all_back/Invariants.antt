use Rattle.std.proofs.Common.{vec_len}
use Rattle.work_book.specs.Book.{BookState}
use Rattle.work_book.specs.TakenBack.{HasRun}
use Rattle.work_book.proofs.plain.Book.take_all_back.Given as goal

abbrev pub invariant-loop-answer : goal.invariant-loop-answer
invariant-loop-answer l = (before : BookState) → HasRun before l.fn.steps l.fn.answers.items l.fn.self →
    HasRun before l.steps l.answers.items l.self

abbrev pub decreases-loop-answer : goal.decreases-loop-answer
decreases-loop-answer l = vec_len l.answers
