-- What holds of every run: any list of steps, by any seats, from a new book.
use Rattle.std.specs.Prelude.{◌≡◌, ◌==◌, ◌*◌, ℕ, List, Some, nat_lt, slice_get, if◌then◌else◌, count_by, take}
use Rattle.std.specs.List.{sum_by}
use Rattle.work_book.specs.Seat.{SeatState}
use Rattle.work_book.specs.Book.{BookState, new_book, is_marked}
use Rattle.work_book.specs.Steps.{run_of, answers_of}
use Rattle.work_book.specs.declared.steps.Step.{Step}
use Rattle.work_book.specs.declared.steps.Answer.TheVariants.{Nothing}

-- how often a number stands in a seat's drawn list
abbrev pub drawn_in : ℕ → SeatState → ℕ
drawn_in number seat = count_by (λ drawn. drawn == number) seat.drawn

-- how often a number stands in the drawn lists of all seats together
abbrev pub drawn_count : ℕ → BookState → ℕ
drawn_count number book = sum_by (drawn_in number) book.seats

-- how often a job stands in a seat's kept list
abbrev pub kept_in : ℕ → SeatState → ℕ
kept_in job seat = count_by (λ kept. kept == job) seat.kept

-- how often a job stands in the kept lists of all seats together: its kept count
abbrev pub kept_count : ℕ → BookState → ℕ
kept_count job book = sum_by (kept_in job) book.seats

-- the numbers below the next one were drawn, each once, and no others
abbrev pub AreDrawnOnce : BookState → Type 0
AreDrawnOnce book = (number : ℕ) → drawn_count number book ≡ (if nat_lt number book.next then 1 else 0)

-- a job's kept count is 1 where the job is settled, else 0
abbrev pub AreKeptOnce : BookState → Type 0
AreKeptOnce book = (job : ℕ) → kept_count job book ≡ (if is_marked book job then 1 else 0)

-- the book before a step that answers `Nothing` has all its numbers drawn
abbrev pub IsNothingLast : BookState → List Step → Type 0
IsNothingLast book steps = (k : ℕ) → slice_get (answers_of book steps) k ≡ Some Nothing →
    (run_of book (take k steps)).next ≡ book.jobs * book.tries

-- the book after a run
abbrev pub reached : ℕ → ℕ → ℕ → List Step → BookState
reached jobs tries seats steps = run_of (new_book jobs tries seats) steps
