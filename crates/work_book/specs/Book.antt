-- The book: the next number, a mark for each job, and the seats.
use Rattle.std.specs.Prelude.{◌≡◌, ◌<◌, ◌≤◌, ◌*◌, ◌%◌, ℕ, Bool, false, not, List, slice_get, slice_set, length}
use Rattle.std.specs.Prelude.{unwrap_or, replicate}
use Rattle.std.specs.List.{All}
use Rattle.std.specs.Option.{option_map_or}
use Rattle.work_book.specs.Seat.{SeatState, new_seat, has_drawn}
use Rattle.work_book.specs.declared.limits.TheConstants.{MOST_JOBS, MOST_TRIES}

-- how many jobs there are and how often each is offered, the next number, whether each job is settled, and the seats
pub record BookState : Type 0 where
  pub jobs : ℕ
  pub tries : ℕ
  pub next : ℕ
  pub marks : List Bool
  pub seats : List SeatState

-- before the first step: no number drawn, no job settled
abbrev pub new_book : ℕ → ℕ → ℕ → BookState
new_book jobs tries seats = record {
  jobs = jobs;
  tries = tries;
  next = 0;
  marks = replicate jobs false;
  seats = replicate seats new_seat;
}

-- the seat is there and not lost
abbrev pub acts : BookState → ℕ → Bool
acts book seat = option_map_or (λ (s : SeatState). not s.lost) (slice_get book.seats seat) false

-- the seat is there and drew the number
abbrev pub seat_has : BookState → ℕ → ℕ → Bool
seat_has book seat number = option_map_or (has_drawn number) (slice_get book.seats seat) false

-- the job that a number is for
abbrev pub job_among : ℕ → ℕ → ℕ
job_among jobs number = number % jobs

-- the job of the book that a number is for
abbrev pub job_of : BookState → ℕ → ℕ
job_of book number = job_among book.jobs number

-- whether a job is settled
abbrev pub is_marked : BookState → ℕ → Bool
is_marked book job = unwrap_or (slice_get book.marks job) false

-- the book with one seat changed
abbrev pub on_seat : BookState → ℕ → (SeatState → SeatState) → BookState
on_seat book seat change = record book {
  seats =
      option_map_or (λ s. slice_set book.seats seat (change s)) (slice_get book.seats seat) book.seats;
}

-- each number that a seat drew is below n
abbrev pub AllDrawnBelow : ℕ → List SeatState → Type 0
AllDrawnBelow n seats = All (λ (s : SeatState). All (λ number. number < n) s.drawn) seats

-- what holds of a book at any time
pub record IsBook (book : BookState) : Type 0 where
  pub marks : length book.marks ≡ book.jobs
  pub few_jobs : book.jobs ≤ MOST_JOBS
  pub few_tries : book.tries ≤ MOST_TRIES
  pub next : book.next ≤ book.jobs * book.tries
  pub drawn : AllDrawnBelow book.next book.seats

-- no step changes how many jobs, tries and seats there are
pub record IsSameSize (old new : BookState) : Type 0 where
  pub jobs : new.jobs ≡ old.jobs
  pub tries : new.tries ≡ old.tries
  pub seats : length new.seats ≡ length old.seats
