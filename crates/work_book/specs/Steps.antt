-- What each step answers, and what it changes. A step that isn't allowed is `Refused` and changes nothing.
use Rattle.std.specs.Prelude.{◌+◌, ◌*◌, ◌/◌, ◌&&◌, not, true, ℕ, List, [], ◌∷◌, nat_lt, slice_set, if◌then◌else◌}
use Rattle.work_book.specs.Seat.{with_drawn, with_kept, as_lost}
use Rattle.work_book.specs.Book.{BookState, acts, seat_has, job_among, job_of, is_marked, on_seat}
use Rattle.work_book.specs.declared.lease.Lease.{Lease}
use Rattle.work_book.specs.declared.steps.Step.{Step}
use Rattle.work_book.specs.declared.steps.Step.TheVariants.{Draw, Look, Settle, Loss}
use Rattle.work_book.specs.declared.steps.Answer.{Answer}
use Rattle.work_book.specs.declared.steps.Answer.TheVariants as answer

-- the lease of a number
abbrev pub lease_among : ℕ → ℕ → Lease
lease_among jobs number = record { number = number; job = job_among jobs number; pass = number / jobs }

-- the lease of a number of the book
abbrev pub lease_of : BookState → ℕ → Lease
lease_of book number = lease_among book.jobs number

-- a draw gives the next number while there is one; a look, the job's mark; the first to settle a job keeps it
abbrev pub answer_of : BookState → Step → Answer
answer_of book (Draw seat) =
    if acts book seat
    then (if nat_lt book.next (book.jobs * book.tries) then answer.Lease (lease_of book book.next) else answer.Nothing)
    else answer.Refused
answer_of book (Look seat job) =
    if acts book seat && nat_lt job book.jobs then answer.Mark (is_marked book job) else answer.Refused
answer_of book (Settle seat number) =
    if acts book seat && seat_has book seat number
    then (if is_marked book (job_of book number) then answer.Double else answer.Kept)
    else answer.Refused
answer_of book (Loss seat) = if acts book seat then answer.Lost else answer.Refused

-- a lease is put last in the seat's drawn list; a job that is kept is marked, and put last in its kept list
abbrev pub after : BookState → Step → BookState
after book (Draw seat) =
    if acts book seat && nat_lt book.next (book.jobs * book.tries)
    then record (on_seat book seat (with_drawn book.next)) { next = book.next + 1 }
    else book
after book (Look seat job) = book
after book (Settle seat number) =
    if acts book seat && (seat_has book seat number && not (is_marked book (job_of book number)))
    then record (on_seat book seat (with_kept (job_of book number))) {
      marks =
          slice_set book.marks (job_of book number) true;
    }
    else book
after book (Loss seat) = if acts book seat then on_seat book seat as_lost else book

-- the answers of steps that are taken in order
abbrev pub answers_of : BookState → List Step → List Answer
answers_of book [] = []
answers_of book (step ∷ steps) = answer_of book step ∷ answers_of (after book step) steps

-- the book after steps that are taken in order
abbrev pub run_of : BookState → List Step → BookState
run_of book [] = book
run_of book (step ∷ steps) = run_of (after book step) steps
