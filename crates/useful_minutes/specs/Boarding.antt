-- Which trips a departure can board first, and when a later one misses none of their rides.
use Rattle.std.specs.Prelude.{◌≡◌, ℕ, ◌+◌, ◌<◌, ◌≤◌, ◌⊎◌, length, slice_get, Some, IsTrue}
use Rattle.timetable.specs.declared.trips.Event.{Event}
use Rattle.timetable.specs.declared.trips.Trip.{Trip}
use Rattle.timetable.specs.Footpaths.{IsFoot}
use Rattle.timetable.specs.Networks.{Net}

-- on foot alone a traveller gets from the origin to stop p in this many seconds: by a footpath, or by staying there
abbrev pub IsNear : Net → ℕ → ℕ → ℕ → Type 0
IsNear n origin p seconds = ((p ≡ origin) × (seconds ≡ 0)) ⊎ IsFoot n.feet.walks origin p seconds

-- who departs at this time can board the trip first at event j, at the origin or after a walk, and it goes on
pub record Catches (n : Net) (origin time trip j : ℕ) : Type 0 where
  pub t : Trip
  pub on : Event
  pub seconds : ℕ
  pub runs : slice_get n.trips trip ≡ Some t
  pub here : slice_get t.events j ≡ Some on
  pub rides_on : j + 1 < length t.events
  pub may_board : IsTrue on.board
  pub near : IsNear n origin on.stop.0 seconds
  pub in_time : time + seconds ≤ on.depart

-- who departs at this time can board the trip first at an event before event i
abbrev pub CatchesBefore : Net → ℕ → ℕ → ℕ → ℕ → Type 0
CatchesBefore n origin time trip i = (j : ℕ) × (j < i) × Catches n origin time trip j

-- who departs at this time can ride first from event j of the trip to event i
pub record FirstRide (n : Net) (origin time trip j i : ℕ) : Type 0 where
  pub on : Catches n origin time trip j
  pub off : Event
  pub later : j < i
  pub to : slice_get on.t.events i ≡ Some off
  pub may_alight : IsTrue off.alight

-- by a walk alone who departs at this time is at stop p by a second time, and at each stop that one walks to from p by
-- when who sets out from p at the second time is there
pub record IsAsSoonOnFoot (n : Net) (origin time p at : ℕ) : Type 0 where
  pub seconds : ℕ
  pub near : IsNear n origin p seconds
  pub in_time : time + seconds ≤ at
  pub onward : (q walk : ℕ) → IsFoot n.feet.walks p q walk → (s : ℕ) × IsNear n origin q s × (time + s ≤ at + walk)

-- of each ride that the sooner departure can make first, the later one can board the trip before the ride ends; or
-- where it ends one is as soon by a walk alone
abbrev pub MissesNothing : Net → ℕ → ℕ → ℕ → Type 0
MissesNothing n origin sooner later =
    (trip j i : ℕ) (r : FirstRide n origin sooner trip j i) →
    CatchesBefore n origin later trip i ⊎ IsAsSoonOnFoot n origin sooner r.off.stop.0 r.off.arrive
