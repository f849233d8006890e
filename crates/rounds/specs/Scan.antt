-- What the trips of a line, and of lines, offer in a round.
use Rattle.std.specs.Prelude.{◌≡◌, ℕ, ◌<◌, ◌≤◌, List, length, slice_get, slice_index, Some}
use Rattle.timetable.specs.FlatLists.{IsIn}
use Rattle.timetable.specs.LineViews.{rows_of_line}
use Rattle.timetable.specs.declared.trips.Trip.{Trip}
use Rattle.timetable.specs.RoundSteps.{Carries, CarriesAny}
use Rattle.trip_lanes.specs.declared.falls.Fall.{Fall}
use Rattle.trip_lanes.specs.Falls.{AreFalls}
use Rattle.trip_lanes.specs.Rows.{NoneCaughtBefore}
use Rattle.trip_lanes.specs.Scan.{NothingLower}
use Rattle.trip_lanes.specs.declared.line_scan.ReadyLabels.{ReadyLabels}
use Rattle.rounds.specs.Rank.{IsOfRank}

-- one of the trips of a line has a ride that ends at stop p at this time
pub record CarriesLine (ready : List ℕ) (trips : List Trip) (line : List ℕ) (p end : ℕ) : Type 0 where
  pub r : ℕ
  pub t : Trip
  pub rank : IsOfRank trips line r t
  pub carries : Carries ready t p end

-- there are labels for each stop
pub record AreSized {R : Type 0} (stops : ℕ) (labels : ReadyLabels R) : Type 0 where
  pub falls : length labels.falls.now ≡ stops
  pub ready : length labels.ready.now ≡ stops

-- each line that can be boarded at a stop where a label fell is due from its position there on, or from an earlier one
abbrev pub AreDue : List (List (ℕ × ℕ)) → List Fall → List ℕ → Type 0
AreDue boarded falls due = (p line position : ℕ) (f : Fall) → IsIn boarded p (line, position) →
    slice_get falls p ≡ Some f → f.low < f.top → slice_index due line ≤ position

-- who was ready before, by labels that fell so far since then, rides to no lower label
pub record AreCarried (trips : List Trip) (ready : List ℕ) (falls : List Fall) (ride : List ℕ) : Type 0 where
  pub before : List ℕ
  pub fell : AreFalls before ready falls
  pub settled : NothingLower (CarriesAny before trips) ride

-- so along a line, of which nobody newly catches a trip before this position
pub record AreCarriedOn (trips : List Trip) (line ready : List ℕ) (falls : List Fall) (from : ℕ) (ride : List ℕ) :
    Type 0 where
  pub before : List ℕ
  pub fell : AreFalls before ready falls
  pub first : NoneCaughtBefore before ready (rows_of_line trips line) from
  pub settled : NothingLower (CarriesLine before trips line) ride
