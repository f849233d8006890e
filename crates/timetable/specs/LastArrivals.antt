-- The last time at which somebody comes to a stop by a trip, or by a walk that follows one.
use Rattle.std.specs.Prelude.{◌≡◌, ℕ, ◌+◌, ◌≤◌, ◌⊎◌, List, length, slice_index, slice_get, Some, IsTrue}
use Rattle.timetable.specs.declared.limits.TheConstants.{END_OF_AXIS, MOST_FOOT_SECONDS}
use Rattle.timetable.specs.declared.trips.Event.{Event}
use Rattle.timetable.specs.declared.trips.Trip.{Trip}
use Rattle.timetable.specs.Footpaths.{FeetData, FootLists, IsFoot}

-- some trip arrives at stop p at this time, and travellers may alight there
pub record Arrives (trips : List Trip) (p time : ℕ) : Type 0 where
  pub trip : ℕ
  pub t : Trip
  pub k : ℕ
  pub off : Event
  pub runs : slice_get trips trip ≡ Some t
  pub at : slice_get t.events k ≡ Some off
  pub may_alight : IsTrue off.alight
  pub stop : off.stop.0 ≡ p
  pub time_is : off.arrive ≡ time

-- somebody comes to stop p at this time: by a trip, or is there as times begin
abbrev pub Comes : List Trip → ℕ → ℕ → Type 0
Comes trips p time = (time ≡ 0) ⊎ Arrives trips p time

-- somebody comes to a stop, and walks from there to stop p, by this time
pub record WalksOn (trips : List Trip) (feet : FootLists) (p time : ℕ) : Type 0 where
  pub from : ℕ
  pub arrival : ℕ
  pub seconds : ℕ
  pub comes : Comes trips from arrival
  pub foot : IsFoot feet from p seconds
  pub time_is : arrival + seconds ≡ time

-- the number of each stop is the last time at which somebody comes there, at once or by a walk from another stop
pub record AreLastArrivals (trips : List Trip) (feet : FeetData) (last : List ℕ) : Type 0 where
  pub size : length last ≡ length feet.walks
  pub comes : (p time : ℕ) → Comes trips p time → time ≤ slice_index last p
  pub walks : (p time : ℕ) → WalksOn trips feet.walks p time → time ≤ slice_index last p
  pub some : (p : ℕ) → Comes trips p (slice_index last p) ⊎ WalksOn trips feet.walks p (slice_index last p)
  pub early : (p : ℕ) → slice_index last p ≤ END_OF_AXIS + MOST_FOOT_SECONDS
