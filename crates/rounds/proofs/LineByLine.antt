-- The lines of a network, one after another, in one lane.
use Rattle.std.proofs.Common.{◌≡◌, ℕ, ◌+◌, ◌<◌, ◌≤◌, inl, inr, List, length, slice_index, slice_get, Some, sym, ◌∙◌}
use Rattle.std.proofs.Common.{arith, subst}
use Rattle.std.proofs.lemmas.Bool.{cases_lt}
use Rattle.std.proofs.lemmas.Option.{same_Some}
use Rattle.timetable.specs.declared.trips.Trip.{Trip}
use Rattle.timetable.specs.RoundSteps.{Lowers, CarriesAny}
use Rattle.timetable.proofs.LowersCompose.{lowers_alike, lowers_both}
use Rattle.trip_lanes.specs.Scan.{NothingLower}
use Rattle.rounds.specs.Scan.{CarriesLine}

-- one of the first x lines has a ride
pub record CarriesBelow (ready : List ℕ) (trips : List Trip) (lines : List (List ℕ)) (x p end : ℕ) : Type 0 where
  pub i : ℕ
  pub line : List ℕ
  pub at : slice_get lines i ≡ Some line
  pub below : i < x
  pub carries : CarriesLine ready trips line p end

pub one_line : (ready : List ℕ) (trips : List Trip) (lines : List (List ℕ)) (x : ℕ) (line : List ℕ)
    {old mid new : List ℕ} → slice_get lines x ≡ Some line → Lowers (CarriesBelow ready trips lines x) old mid →
    Lowers (CarriesLine ready trips line) mid new → Lowers (CarriesBelow ready trips lines (x + 1)) old new
one_line ready trips lines x line at_x h k =
    lowers_alike
    (λ p y. λ o. elim o [
      | inl c ↦ record { i = c.i; line = c.line; at = c.at; below = omega (arith, c.below); carries = c.carries }
      | inr c ↦ record { i = x; line = line; at = at_x; below = omega arith; carries = c }
    ])
    (λ p y. λ c. elim (cases_lt c.i x) [
      | inl l ↦ inl (record { i = c.i; line = c.line; at = c.at; below = l; carries = c.carries })
      | inr g ↦
          let e : c.i ≡ x = omega (arith, c.below) in
          let at = rw e at c.at in
          inr (subst (λ (v : List ℕ). CarriesLine ready trips v p y) (same_Some c.line line (sym at ∙ at_x)) c.carries)
    ])
    (lowers_both h k)

-- the trips of a line are trips
pub any_of_line : {ready : List ℕ} {trips : List Trip} {line : List ℕ} {p end : ℕ} →
    CarriesLine ready trips line p end → CarriesAny ready trips p end
any_of_line c = record { trip = c.rank.trip; t = c.t; runs = c.rank.runs; carries = c.carries }

-- what all trips had nothing lower to offer to, a line has not
pub line_settled : (before : List ℕ) (trips : List Trip) (line old now : List ℕ) → length now ≡ length old →
    ((p : ℕ) → slice_index now p ≤ slice_index old p) → NothingLower (CarriesAny before trips) old →
    NothingLower (CarriesLine before trips line) now
line_settled before trips line old now same falls settled p x l c =
    let low = settled p x (omega (arith, same)) (any_of_line c) in
    let f = falls p in
    omega arith
