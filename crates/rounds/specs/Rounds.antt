-- The labels of a batch, and the times that are saved of them, after some number of rides: what holds before and after
-- each round.
use Rattle.std.specs.Prelude.{◌≡◌, ℕ, ◌+◌, ◌<◌, ◌≤◌, List, Bool, length, slice_index, slice_get, Some, IsTrue}
use Rattle.timetable.specs.declared.trips.Trip.{Trip}
use Rattle.timetable.specs.Networks.{Net}
use Rattle.timetable.specs.Journeys.{Whereabouts}
use Rattle.timetable.specs.RoundSteps.{Lowers, Carries}
use Rattle.trip_lanes.specs.Cut.{cut}
use Rattle.trip_lanes.specs.Falls.{AreNoted}
use Rattle.trip_lanes.specs.Lane.{lane, labels_in}
use Rattle.trip_lanes.specs.Scan.{NothingLower}
use Rattle.rounds.specs.declared.bounded.Batch.{Batch}
use Rattle.rounds.specs.declared.bounded.RoundTimes.{RoundTimes}
use Rattle.rounds.specs.declared.query.Query.{Query}
use Rattle.rounds.specs.declared.workspace.Workspace.{Workspace}
use Rattle.rounds.specs.Batches.{AreTimesFrom, start_at, as_labels}
use Rattle.rounds.specs.CappedLabels.{LaneStateTo}
use Rattle.rounds.specs.Cut.{cut_net}
use Rattle.rounds.specs.State.{Bounds}

-- the times after at most k rides from this start: read as labels, they are exact on the network with its times cut to
-- the labels' range
abbrev pub AreRoundTimes : ℕ → ℕ → Net → Whereabouts → ℕ → RoundTimes → Type 0
AreRoundTimes never base n start k x =
    LaneStateTo never (cut_net base never n) start k (as_labels base never x.ride.items)
    (as_labels base never x.ready.items)

-- after k rounds: the first k + 1 entries have the times of the batch's first departure, if the batch saves them; the
-- entries after them still have the times that bound it
pub record AreTimesAfter {R : Type 0} (never : ℕ) (labels : R → List ℕ) (q : Query) (b : Batch R) (k : ℕ)
    (rounds : List RoundTimes) : Type 0 where
  pub count : length rounds ≡ q.rides + 1
  pub own : IsTrue b.saves_bounds →
      AreTimesFrom never b.base q.network.now (start_at q (slice_index (labels b.departures) 0)) k rounds
  pub bounds : (j : ℕ) (x : RoundTimes) → k < j → j ≤ q.rides → slice_get rounds j ≡ Some x →
      AreRoundTimes never b.base q.network.now (start_at q (cut b.base never b.bounded_by)) j x

-- once ride labels are lowered to the bounds of the next round, no trip lowers them further from ready labels as they
-- were before they fell
pub record IsSettled (never : ℕ) (n : Net) (later : Whereabouts) (k : ℕ) (ride ready before : List ℕ)
    (fallen : List Bool) : Type 0 where
  pub was : List ℕ
  pub noted : AreNoted was ready before fallen
  pub settled : (bound bound_ready lowered : List ℕ) (trip : ℕ) (t : Trip) →
      LaneStateTo never n later (k + 1) bound bound_ready → Lowers (Bounds bound) ride lowered →
      slice_get n.trips trip ≡ Some t → NothingLower (Carries was t) lowered

-- in each lane the labels after at most k rides, exact and settled
pub record AreAfter {R : Type 0} (lanes never : ℕ) (labels : R → List ℕ) (q : Query) (b : Batch R) (k : ℕ)
    (w : Workspace R) : Type 0 where
  pub states : (l : ℕ) → l < lanes → LaneStateTo never (cut_net b.base never q.network.now)
      (start_at q (slice_index (labels b.departures) l)) k (lane l (labels_in labels w.ride.items))
      (lane l (labels_in labels w.ready.labels.items))
  pub settled : (l : ℕ) → l < lanes → IsSettled never (cut_net b.base never q.network.now)
      (start_at q (cut b.base never b.bounded_by)) k (lane l (labels_in labels w.ride.items))
      (lane l (labels_in labels w.ready.labels.items)) (lane l (labels_in labels w.ready.before.items))
      w.ready.fallen.items
