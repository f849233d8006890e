-- What a seat of a board knows, and how its calls change that.
use Rattle.std.specs.Prelude.{◌==◌, ◌+◌, ◌-◌, ◌||◌, ◌++◌, [], ◌∷◌, ℕ, Bool, true, false, if◌then◌else◌}
use Rattle.std.specs.List.{list_any}
use Rattle.work_book.specs.Seat.{SeatState}
use Rattle.work_book.specs.declared.rule.View.{View}

-- the lists of a view are those of a seat of the book
abbrev pub seat_of : View → SeatState
seat_of v = record { drawn = v.drawn; kept = v.kept; lost = false }

-- whether the seat knows that a job is settled
abbrev pub knows : View → ℕ → Bool
knows v job = list_any (λ known. known == job) v.known

-- the first seat of a board: it drew nothing, knows of no settled job, and has every share. Numbers stop at
-- the limit
abbrev pub first_view : ℕ → View
first_view limit = record {
  drawn = [];
  kept = [];
  under = [];
  known = [];
  told = false;
  share = 65536;
  limit = limit;
  steps = 0;
}

-- what a join leaves of the seat that is taken in
abbrev pub spent : View
spent = record { drawn = []; kept = []; under = []; known = []; told = false; share = 0; limit = 0; steps = 0 }

-- the seat after one more step, which showed it nothing new
abbrev pub stepped : View → View
stepped v = record v { steps = v.steps + 1 }

-- a split takes one share, by one step
abbrev pub less_one : View → View
less_one v = record v { share = v.share - 1; steps = v.steps + 1 }

-- the seat that a split makes drew and kept nothing, has that share, and knows what the first knows
abbrev pub split_off : View → View
split_off v = record v { drawn = []; kept = []; under = []; share = 1; steps = 0 }

-- a seat that takes another in, by one step, has the lists, the shares and the steps of both, and knows what either
-- knows
abbrev pub merged : View → View → View
merged v w = record {
  drawn = v.drawn ++ w.drawn;
  kept = v.kept ++ w.kept;
  under = v.under ++ w.under;
  known = v.known ++ w.known;
  told = v.told || w.told;
  share = v.share + w.share;
  limit = v.limit;
  steps = v.steps + w.steps + 1;
}

-- the seat with one more number drawn, the last, by one step
abbrev pub drew : ℕ → View → View
drew number v = record v { drawn = v.drawn ++ number ∷ []; steps = v.steps + 1 }

-- the seat, told that all numbers are drawn: by one step, or by none where it was told so before
abbrev pub told_nothing : View → View
told_nothing v = record v { told = true; steps = if v.told then v.steps else v.steps + 1 }

-- the seat, which knows now, by one step, that the job is settled
abbrev pub knowing : ℕ → View → View
knowing job v = record v { known = v.known ++ job ∷ []; steps = v.steps + 1 }

-- the seat with one more job kept, the last, under a number, by one step; it knows that the job is settled
abbrev pub keeping : ℕ → ℕ → View → View
keeping job number v = record v {
  kept = v.kept ++ job ∷ [];
  under = v.under ++ number ∷ [];
  known = v.known ++ job ∷ [];
  steps = v.steps + 1;
}

-- whether the seat settled a job under the number, and kept it
abbrev pub settled_under : View → ℕ → Bool
settled_under v number = list_any (λ under. under == number) v.under

-- the share of a seat, which is 0 where another took it in
abbrev pub share_of : View → ℕ
share_of v = v.share

-- the shares of seats that may still be told that all numbers are drawn
abbrev pub untold : View → ℕ
untold v = if v.told then 0 else v.share
