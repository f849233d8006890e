-- What the calls of a board promise, of the seats of its threads and of what is left at the end.
use Rattle.std.specs.Prelude.{◌≡◌, ◌+◌, ◌*◌, ◌<◌, ◌∷◌, [], ℕ, true, false, List, map}
use Rattle.std.specs.List.{All}
use Rattle.std.specs.Slots.{slots_items}
use Rattle.work_book.specs.Seat.{has_drawn}
use Rattle.work_book.specs.Book.{BookState, job_among, is_marked}
use Rattle.work_book.specs.Steps.{lease_among}
use Rattle.work_book.specs.Laws.{AreDrawnOnce, AreKeptOnce}
use Rattle.work_book.specs.Views.{seat_of, knows, drew, told_nothing, keeping, knowing}
use Rattle.work_book.specs.Shown.{mark_of, shown}
use Rattle.work_book.specs.declared.lease.Lease.{Lease}
use Rattle.work_book.specs.declared.lease.Settled.{Settled}
use Rattle.work_book.specs.declared.lease.Settled.TheVariants.{Kept, Double}
use Rattle.work_book.specs.declared.shared.Draw.{Draw}
use Rattle.work_book.specs.declared.shared.Draw.TheVariants.{Nothing}
use Rattle.work_book.specs.declared.shared.Board.{Board}
use Rattle.work_book.specs.declared.shared.WorkSeat.{WorkSeat}
use Rattle.work_book.specs.declared.shared.Closed.{Closed}
use Rattle.work_book.specs.declared.rule.View.{View}

-- what a seat knows
abbrev pub seen_by : WorkSeat → View
seen_by seat = seat.seat.me.0

-- the seat is of this board
abbrev pub IsOf : Board → WorkSeat → Type 0
IsOf board seat = (seat.seat.table_id ≡ board.table.shared.table_id) × ((seen_by seat).limit ≡ board.jobs * board.tries)

-- a lease that the board may give
abbrev pub IsLease : Board → Lease → Type 0
IsLease board lease = (lease ≡ lease_among board.jobs lease.number) × (lease.number < board.jobs * board.tries)

-- the seat drew the lease, or took in a seat that did
abbrev pub HasDrawn : View → Lease → Type 0
HasDrawn v lease = has_drawn lease.number (seat_of v) ≡ true

-- a lease goes to a seat that wasn't told yet that all numbers are drawn, and its number is above all that the seat
-- drew
abbrev pub Drawn : Board → View → Draw → View → Type 0
Drawn board v (Draw.Lease lease) w = (w ≡ drew lease.number v) × All (λ drawn. drawn < lease.number) v.drawn
    × IsLease board lease × (v.told ≡ false)
Drawn board v Nothing w = w ≡ told_nothing v

-- the seat has the lease that it was given
abbrev pub HasGiven : View → Draw → Type 0
HasGiven w (Draw.Lease lease) = HasDrawn w lease
HasGiven w Nothing = Unit {0}

-- a job is kept, under the lease's number, only where the seat didn't know it to be settled; either way it knows so
-- from then on
abbrev pub SettledAs : View → Lease → Settled → View → Type 0
SettledAs v lease Kept w = (w ≡ keeping lease.job lease.number v) × (knows v lease.job ≡ false)
SettledAs v lease Double w = w ≡ knowing lease.job v

-- the book that a closed board shows, with these seats
abbrev pub book_of : Closed → List View → BookState
book_of closed views = shown (record {
  jobs = closed.jobs;
  tries = closed.tries;
}) (slots_items closed.words.words) views

-- each settled job was settled under a number that was drawn for it
abbrev pub AreSettledAsDrawn : BookState → Type 0
AreSettledAsDrawn book = (job : ℕ) → is_marked book job ≡ true →
    (number : ℕ) × (number < book.next) × (job_among book.jobs number ≡ job)

-- the mark that a closed board has for a job
abbrev pub mark_in : Closed → ℕ → ℕ
mark_in closed job = mark_of (slots_items closed.words.words) job

-- what a board shows of the seat with which it is closed. A seat with every share is the only one that is left, and
-- then its lists are those of the whole book: each number below the next one once, and each settled job once
pub record Closes (v : View) (closed : Closed) : Type 0 where
  pub drawn : All (λ number. number < (book_of closed (v ∷ [])).next) v.drawn
  pub told : v.told ≡ true → (book_of closed (v ∷ [])).next ≡ closed.jobs * closed.tries
  pub known : All (λ job. is_marked (book_of closed (v ∷ [])) job ≡ true) v.known
  pub numbers : AreSettledAsDrawn (book_of closed (v ∷ []))
  -- each job that the seat kept is that of a number, in the same order, and its mark is that very number, plus 1
  pub jobs_of : v.kept ≡ map (job_among closed.jobs) v.under
  pub marks : All (λ number. mark_in closed (job_among closed.jobs number) ≡ number + 1) v.under
  pub all_drawn : v.share ≡ 65536 → AreDrawnOnce (book_of closed (v ∷ []))
  pub all_kept : v.share ≡ 65536 → AreKeptOnce (book_of closed (v ∷ []))
