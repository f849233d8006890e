-- The trips of a line, earliest first: each is a row of events. What their rides offer, and who catches them.
-- (The RAPTOR paper has lines as routes: Delling, Pajor, Werneck, ALENEX 2012.)
use Rattle.std.specs.Prelude.{◌≡◌, ℕ, ◌<◌, ◌≤◌, List, slice_index, IsTrue}
use Rattle.timetable.specs.declared.trips.Event.{Event}
use Rattle.timetable.specs.declared.views.Call.{Call}
use Rattle.timetable.specs.declared.views.CallTimes.{CallTimes}
use Rattle.timetable.specs.LineViews.{IsAt, IsToldView}
use Rattle.trip_lanes.specs.Cut.{cut}

-- no trip overtakes another: a later one arrives and departs no earlier at any position
pub record NoneOvertakes (rows : List (List Event)) : Type 0 where
  pub arrive : (r s j : ℕ) (e f : Event) → r ≤ s → IsAt rows r j e → IsAt rows s j f → e.arrive ≤ f.arrive
  pub depart : (r s j : ℕ) (e f : Event) → r ≤ s → IsAt rows r j e → IsAt rows s j f → e.depart ≤ f.depart

-- calls and times show these trips, each time as labels tell it
abbrev pub IsCutViewOf : ℕ → ℕ → List (List Event) → List Call → List CallTimes → Type 0
IsCutViewOf base cap rows calls times = IsToldView (cut base cap) rows calls times

-- a trip of the line has a ride that ends at stop p at this time, for who is ready where it begins by its departure
pub record CarriesRow (ready : List ℕ) (rows : List (List Event)) (p end : ℕ) : Type 0 where
  pub r : ℕ
  pub j : ℕ
  pub i : ℕ
  pub on : Event
  pub off : Event
  pub from : IsAt rows r j on
  pub to : IsAt rows r i off
  pub later : j < i
  pub may_board : IsTrue on.board
  pub may_alight : IsTrue off.alight
  pub in_time : slice_index ready on.stop.0 ≤ on.depart
  pub stop : off.stop.0 ≡ p
  pub time : off.arrive ≡ end

-- at position j of trip r somebody who is ready by the departure, and was not before it, may board
pub record IsCaught (before ready : List ℕ) (rows : List (List Event)) (r j : ℕ) : Type 0 where
  pub on : Event
  pub from : IsAt rows r j on
  pub may_board : IsTrue on.board
  pub in_time : slice_index ready on.stop.0 ≤ on.depart
  pub fresh : on.depart < slice_index before on.stop.0

-- trip r arrives no earlier than the label at each position after j where travellers may alight
pub record IsPast (rows : List (List Event)) (ride : List ℕ) (r j : ℕ) : Type 0 where
  pub label : (i : ℕ) (e : Event) → j < i → IsAt rows r i e → IsTrue e.alight → slice_index ride e.stop.0 ≤ e.arrive

-- nobody newly catches a trip of the line before this position
abbrev pub NoneCaughtBefore : List ℕ → List ℕ → List (List Event) → ℕ → Type 0
NoneCaughtBefore before ready rows from = (r j : ℕ) → IsCaught before ready rows r j → from ≤ j
