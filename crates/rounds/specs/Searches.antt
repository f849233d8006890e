-- What the parts of a search require and return.
use Rattle.std.specs.Prelude.{◌≡◌, ℕ, ◌+◌, ◌*◌, ◌≤◌, List, length, slice_index, All}
use Rattle.timetable.specs.declared.limits.TheConstants.{END_OF_AXIS, MOST_FOOT_SECONDS}
use Rattle.trip_lanes.specs.Lane.{lane, labels_in}
use Rattle.rounds.specs.declared.query.Query.{Query}
use Rattle.rounds.specs.declared.workspace.Workspace.{Workspace}
use Rattle.rounds.specs.Batches.{ArePackedDurations, AreUnusedFrom, departure_at}
use Rattle.rounds.specs.Last.{AreLastFrom}
use Rattle.rounds.specs.Query.{IsValidQuery}
use Rattle.rounds.specs.State.{arrival}
use Rattle.rounds.specs.Table.{batches_of}

-- the last arrival at each stop: no journey of the query ends there later; at most the greatest time that any journey
-- can end at
pub record AreLast (q : Query) (last : List ℕ) : Type 0 where
  pub none_later : AreLastFrom q.network.now q.origin.0 (departure_at q 0) q.rides last
  pub few : (p : ℕ) → slice_index last p ≤ END_OF_AXIS + MOST_FOOT_SECONDS

-- a query whose lines are short enough that labels can number their trips; and its last arrivals
pub record IsSearch (never : ℕ) (q : Query) (last : List ℕ) : Type 0 where
  pub query : IsValidQuery q
  pub ranks : All (λ row. length row ≤ never) q.lines.now.lines
  pub last_arrivals : AreLast q last

-- rows with space for `minutes` numbers, stop by stop; the numbers past the departures hold NEVER
pub record HaveRoom (q : Query) (minutes : ℕ) (labels : List (List ℕ)) : Type 0 where
  pub size : length labels ≡ q.network.now.stops * batches_of minutes
  pub unused : AreUnusedFrom q.network.now.stops (length q.times.now) minutes labels

-- the least durations of the query's departures, in each stop's rows one after another
abbrev pub HasPackedDurations : Query → ℕ → List (List ℕ) → Type 0
HasPackedDurations q minutes durations =
    ArePackedDurations q.network.now q.origin.0 q.rides q.times.now minutes durations

-- when stop p is reached in lane l, by a ride or a walk
abbrev pub arrival_in : {R : Type 0} → (R → List ℕ) → Workspace R → ℕ → ℕ → ℕ
arrival_in labels w l p = arrival (lane l (labels_in labels w.ride.items))
    (lane l (labels_in labels w.ready.labels.items)) p
