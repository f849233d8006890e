-- How searches over the mirrored network, one for each deadline of a destination, give the durations to it.
-- Letters: h horizon, n network, k rides at most, p destination, j index of a searched deadline.
use Rattle.std.specs.Prelude.{◌≡◌, ℕ, ◌+◌, ◌-◌, ◌<◌, ◌≤◌, ◌⊎◌, List, [], ◌∷◌, length, slice_index, All, Contains}
use Rattle.std.specs.Prelude.{if◌then◌else◌, nat_le}
use Rattle.std.specs.List.Sorted.{IsNonDecreasing}
use Rattle.timetable.specs.declared.least.TheConstants.{NEVER}
use Rattle.timetable.specs.Networks.{Net}
use Rattle.timetable.specs.Journeys.{IsDuration}
use Rattle.reversal.specs.Deadlines.{IsDeadline}

-- the least number of a kind, known only up to a limit: a greater number says no more than that none is within it
pub record IsLeastUpTo (P : ℕ → Type 0) (most label : ℕ) : Type 0 where
  pub holds : label ≤ most → P label
  pub least : (d : ℕ) → P d → d ≤ most → label ≤ d

-- the label of a deadline: the least duration in the mirrored network from p, at the mirrored deadline, to the origin;
-- known up to the seconds between the first start and the deadline, since no traveller starts earlier
abbrev pub IsDeadlineLabel : ℕ → Net → ℕ → ℕ → ℕ → ℕ → ℕ → ℕ → Type 0
IsDeadlineLabel h mirrored first p k origin time label =
    IsLeastUpTo (IsDuration mirrored p (h - time) k origin) (time - first) label

-- the searched deadlines with their labels; they include every deadline from the first start on, up to `through`
pub record AreSearched (h : ℕ) (n mirrored : Net) (first through p k origin : ℕ) (times labels : List ℕ) :
    Type 0 where
  pub count : length labels ≡ length times
  pub ascending : IsNonDecreasing times
  pub range : All (λ time. (time ≤ through) × (time ≤ h)) times
  pub each : (time : ℕ) → IsDeadline n p time → first ≤ time → time ≤ through → Contains times time
  pub label : (j : ℕ) → j < length times →
      IsDeadlineLabel h mirrored first p k origin (slice_index times j) (slice_index labels j)

-- a traveller who starts at this time is at p by the j-th searched deadline
abbrev pub IsServedBy : List ℕ → List ℕ → ℕ → ℕ → Type 0
IsServedBy times labels j start = (j < length times) × (start + slice_index labels j ≤ slice_index times j)

-- no deadline serves a traveller who starts at this time: not even `end` does, which no deadline is later than
pub record IsNeverServed (h : ℕ) (n mirrored : Net) (first p k origin start : ℕ) : Type 0 where
  pub end : ℕ
  pub label : ℕ
  pub range : end ≤ h
  pub last : (time : ℕ) → IsDeadline n p time → time ≤ end
  pub labelled : IsDeadlineLabel h mirrored first p k origin end label
  pub unserved : end < start + label

-- the search may stop for this start: no deadline is left, a searched one serves, or none ever will
abbrev pub IsEnough : ℕ → Net → Net → ℕ → ℕ → ℕ → ℕ → ℕ → ℕ → List ℕ → List ℕ → Type 0
IsEnough h n mirrored first through p k origin start times labels =
    ((time : ℕ) → IsDeadline n p time → time ≤ through)
    ⊎ (((j : ℕ) × IsServedBy times labels j start) ⊎ IsNeverServed h n mirrored first p k origin start)

-- the seconds until the first searched deadline that serves a traveller who starts at this time, or NEVER
abbrev pub until_served : List ℕ → List ℕ → ℕ → ℕ
until_served [] labels start = NEVER
until_served (time ∷ times) [] start = NEVER
until_served (time ∷ times) (label ∷ labels) start =
    if nat_le (start + label) time then time - start else until_served times labels start
