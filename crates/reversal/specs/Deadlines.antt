-- The deadlines of a destination: the times by which it suffices to ask whether a traveller can be there.
--
-- Every journey with a ride ends with that ride or a walk after it. A deadline is such an end, unless the traveller
-- would be there as early by staying aboard.
-- Letters: n network, t trip, i position of one of its events, p destination, a and b stops.
use Rattle.std.specs.Prelude.{◌≡◌, ℕ, ◌+◌, ◌<◌, ◌⊎◌, List, length, slice_get, slice_index, Some, IsTrue}
use Rattle.timetable.specs.declared.trips.Event.{Event}
use Rattle.timetable.specs.declared.trips.Trip.{Trip}
use Rattle.timetable.specs.Footpaths.{FootLists, IsFoot}
use Rattle.timetable.specs.Least.{IsLeastOrNever}
use Rattle.timetable.specs.Networks.{Net}

-- a walk alone leads from a to b in these seconds, or a and b are the same stop
abbrev pub IsWalkAlone : FootLists → ℕ → ℕ → ℕ → Type 0
IsWalkAlone walks a b seconds = ((a ≡ b) × (seconds ≡ 0)) ⊎ IsFoot walks a b seconds

-- for each stop the seconds of a walk alone to p, or NEVER if none leads there
pub record AreWalksTo (walks : FootLists) (p : ℕ) (seconds : List ℕ) : Type 0 where
  pub count : length seconds ≡ length walks
  pub each : (a : ℕ) → a < length walks → IsLeastOrNever (IsWalkAlone walks a p) (slice_index seconds a)

-- a traveller who alights at the event is at p at this time, perhaps after a walk
pub record ArrivesAt (walks : FootLists) (off : Event) (p time : ℕ) : Type 0 where
  pub may_alight : IsTrue off.alight
  pub seconds : ℕ
  pub walk : IsWalkAlone walks off.stop.0 p seconds
  pub at : time ≡ off.arrive + seconds

-- a traveller who alights from the trip at position i is at p at this time
pub record ArrivesFrom (walks : FootLists) (t : Trip) (i p time : ℕ) : Type 0 where
  pub off : Event
  pub event : slice_get t.events i ≡ Some off
  pub arrives : ArrivesAt walks off p time

-- and from every later position of the trip, travellers are there later
pub record IsBestAlighting (walks : FootLists) (t : Trip) (i p time : ℕ) : Type 0 where
  pub arrives : ArrivesFrom walks t i p time
  pub later : (x late : ℕ) → i < x → ArrivesFrom walks t x p late → time < late

-- the trip takes travellers to p at this time, and not as early if they stay aboard longer
pub record IsTripDeadline (walks : FootLists) (t : Trip) (p time : ℕ) : Type 0 where
  pub i : ℕ
  pub ridden : 0 < i
  pub best : IsBestAlighting walks t i p time

-- some trip of the network does
pub record IsDeadline (n : Net) (p time : ℕ) : Type 0 where
  pub trip : ℕ
  pub t : Trip
  pub runs : slice_get n.trips trip ≡ Some t
  pub deadline : IsTripDeadline n.feet.walks t p time
