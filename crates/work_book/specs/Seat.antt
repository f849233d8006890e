-- A seat of the book: one worker's own record.
use Rattle.std.specs.Prelude.{◌==◌, ◌≤◌, ◌<◌, ◌-◌, ◌++◌, ◌∷◌, [], ℕ, Bool, false, true, List, length, take, slice_index}
use Rattle.std.specs.List.{list_any}

-- the numbers that the seat drew and the jobs that it kept, each in order, and whether it was lost
pub record SeatState : Type 0 where
  pub drawn : List ℕ
  pub kept : List ℕ
  pub lost : Bool

-- a seat before its first step
abbrev pub new_seat : SeatState
new_seat = record { drawn = []; kept = []; lost = false }

-- whether the seat drew a number
abbrev pub has_drawn : ℕ → SeatState → Bool
has_drawn number seat = list_any (λ drawn. drawn == number) seat.drawn

-- the seat with one more number drawn, the last
abbrev pub with_drawn : ℕ → SeatState → SeatState
with_drawn number seat = record seat { drawn = seat.drawn ++ number ∷ [] }

-- the seat with one more job kept, the last
abbrev pub with_kept : ℕ → SeatState → SeatState
with_kept job seat = record seat { kept = seat.kept ++ job ∷ [] }

-- the seat, lost
abbrev pub as_lost : SeatState → SeatState
as_lost seat = record seat { lost = true }

-- the seat without its last number
abbrev pub without_last_drawn : SeatState → SeatState
without_last_drawn seat = record seat { drawn = take (length seat.drawn - 1) seat.drawn }

-- the seat without its last job
abbrev pub without_last_kept : SeatState → SeatState
without_last_kept seat = record seat { kept = take (length seat.kept - 1) seat.kept }

-- the seat, not lost
abbrev pub as_present : SeatState → SeatState
as_present seat = record seat { lost = false }

-- no later number is lower
abbrev pub IsAscending : List ℕ → Type 0
IsAscending numbers = (i j : ℕ) → i ≤ j → j < length numbers → slice_index numbers i ≤ slice_index numbers j
