-- What holds of every run of a book and a collector: any list of steps, by any seats, from a new book and empty places.
use Rattle.std.specs.Prelude.{◌≡◌, ◌==◌, ◌*◌, ◌+◌, ◌<◌, ◌&&◌, ℕ, Bool, true, false, List, Option, Some, None, length}
use Rattle.std.specs.Prelude.{slice_get, take, All}
use Rattle.std.specs.List.{find}
use Rattle.work_book.specs.Book.{new_book}
use Rattle.work_book.specs.Steps as book
use Rattle.work_book.specs.Laws.{drawn_count}
use Rattle.work_book.specs.declared.steps.Answer.TheVariants.{Nothing}
use Rattle.collector.specs.Row.{RowData}
use Rattle.collector.specs.Places.{PlacesData, MatrixData, empty_places, place_of, row_at}
use Rattle.collector.specs.Offers.{belongs, IsFinished}
use Rattle.collector.specs.Plain.{Core, core, answers_of, run_of, book_steps, book_answers, handed}
use Rattle.collector.specs.declared.plain.CoreStep.{CoreStep}
use Rattle.collector.specs.declared.plain.CoreAnswer.TheVariants as answer

-- what a book and a collector are made with
pub record Setup : Type 0 where
  pub jobs : ℕ
  pub tries : ℕ
  pub seats : ℕ
  pub study : ℕ
  pub scenarios : ℕ
  pub origins : ℕ
  pub width : ℕ
  pub shares : ℕ
  pub limits : ℕ

-- the new book and the empty places
abbrev pub opening : Setup → Core
opening s = core (new_book s.jobs s.tries s.seats)
    (empty_places s.study s.scenarios s.origins s.width s.shares s.limits)

-- the book and the places after a run
abbrev pub reached : Setup → List CoreStep → Core
reached s steps = run_of (opening s) steps

-- the row is no stranger, and its place is this one
abbrev pub is_for : PlacesData → ℕ → RowData → Bool
is_for places k row = belongs places row && place_of places row.scenario row.origin == k

-- the first row handed over for a place, if there is one
abbrev pub first_for : Setup → List CoreStep → ℕ → Option RowData
first_for s steps k = find (is_for (opening s).places k) (handed steps)

-- each place holds the first row handed over for it, or none where there was none
abbrev pub ArePlacedFirst : Setup → List CoreStep → Type 0
ArePlacedFirst s steps = (k : ℕ) → k < s.scenarios * s.origins → row_at (reached s steps).places k ≡ first_for s steps k

-- the rows handed over that are no strangers are the right ones of their places
abbrev pub AreRight : (ℕ → ℕ → RowData) → Setup → List CoreStep → Type 0
AreRight right s steps = All (λ (row : RowData). belongs (opening s).places row ≡ true →
    row ≡ right row.scenario row.origin) (handed steps)

-- the matrix has the right row for each scenario and origin, and no others
pub record IsMatrixOf (right : ℕ → ℕ → RowData) (s : Setup) (matrix : MatrixData) : Type 0 where
  pub scenarios : matrix.scenarios ≡ s.scenarios
  pub origins : matrix.origins ≡ s.origins
  pub width : matrix.width ≡ s.width
  pub shares : matrix.shares ≡ s.shares
  pub limits : matrix.limits ≡ s.limits
  pub count : length matrix.rows ≡ s.scenarios * s.origins
  pub rows : (scenario origin : ℕ) → scenario < s.scenarios → origin < s.origins →
      slice_get matrix.rows (scenario * s.origins + origin) ≡ Some (right scenario origin)

-- where the rows are right, a run that is finished gives their matrix
abbrev pub IsRightWhenFinished : Setup → List CoreStep → Type 0
IsRightWhenFinished s steps = (right : ℕ → ℕ → RowData) (matrix : MatrixData) → AreRight right s steps →
    IsFinished (reached s steps).places matrix → IsMatrixOf right s matrix

-- for a missing place no row was handed over that is no stranger
abbrev pub AreMissingUnhanded : Setup → List CoreStep → Type 0
AreMissingUnhanded s steps = (k : ℕ) → k < s.scenarios * s.origins → row_at (reached s steps).places k ≡ None →
    All (λ (row : RowData). is_for (opening s).places k row ≡ false) (handed steps)

-- where `Nothing` was answered, every job was drawn in every pass, once
abbrev pub AreDrawnAtNothing : Setup → List CoreStep → Type 0
AreDrawnAtNothing s steps = (i : ℕ) → slice_get (answers_of (opening s) steps) i ≡ Some (answer.Book Nothing)
    → (job pass : ℕ) → job < s.jobs → pass < s.tries → drawn_count (pass * s.jobs + job) (reached s steps).book ≡ 1

-- the book and its answers are those of its own steps, made without the rows that are handed over between them
pub record IsRunOfBook (s : Setup) (steps : List CoreStep) : Type 0 where
  pub state : (reached s steps).book ≡ book.run_of (opening s).book (book_steps steps)
  pub answers : book_answers (answers_of (opening s) steps) ≡ book.answers_of (opening s).book (book_steps steps)

-- before a step that the book answers with `Nothing` all its numbers are drawn
abbrev pub IsNothingLast : Setup → List CoreStep → Type 0
IsNothingLast s steps = (k : ℕ) → slice_get (answers_of (opening s) steps) k ≡ Some (answer.Book Nothing) →
    (reached s (take k steps)).book.next ≡ s.jobs * s.tries
