-- Steps that are taken back, the last one first, where a list of steps runs out of memory half way.
use Rattle.std.specs.Prelude.{◌≡◌, ◌≤◌, false, List, slice_set, length, take}
use Rattle.work_book.specs.Seat.{without_last_drawn, without_last_kept, as_present}
use Rattle.work_book.specs.Book.{BookState, IsBook, job_of, on_seat}
use Rattle.work_book.specs.Steps.{answer_of, after, answers_of, run_of}
use Rattle.work_book.specs.declared.steps.Step.{Step}
use Rattle.work_book.specs.declared.steps.Step.TheVariants.{Draw, Settle, Loss}
use Rattle.work_book.specs.declared.steps.Answer.{Answer}
use Rattle.work_book.specs.declared.steps.Answer.TheVariants.{Lease, Kept, Lost}

-- the book before a step that got this answer
abbrev pub taken_back : BookState → Step → Answer → BookState
taken_back book (Draw seat) (Lease lease) = record (on_seat book seat without_last_drawn) { next = lease.number }
taken_back book (Settle seat number) Kept =
    record (on_seat book seat without_last_kept) { marks = slice_set book.marks (job_of book number) false }
taken_back book (Loss seat) Lost = on_seat book seat as_present
taken_back book step answer = book

-- one step led from a book to this one, and got this answer
pub record HasStepped (before : BookState) (step : Step) (answer : Answer) (now : BookState) : Type 0 where
  pub book : IsBook before
  pub told : answer ≡ answer_of before step
  pub led : now ≡ after before step

-- the first of these steps led from a book to this one, and got these answers
pub record HasRun (before : BookState) (steps : List Step) (answers : List Answer) (now : BookState) : Type 0 where
  pub book : IsBook before
  pub few : length answers ≤ length steps
  pub told : answers ≡ answers_of before (take (length answers) steps)
  pub led : now ≡ run_of before (take (length answers) steps)
