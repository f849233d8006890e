-- What a departure finds where a later one misses nothing of it.
use Rattle.std.specs.Prelude.{◌≡◌, ◌≢◌, ℕ, ◌+◌, ◌-◌, ◌<◌, ◌≤◌, ◌⊎◌, ◌↔◌, List, min}
use Rattle.timetable.specs.declared.limits.TheConstants.{END_OF_AXIS}
use Rattle.timetable.specs.declared.least.TheConstants.{NEVER}
use Rattle.timetable.specs.Networks.{Net, IsNet}
use Rattle.timetable.specs.Least.{IsLeastOrNever}
use Rattle.timetable.specs.Journeys.{Whereabouts, Leg, Journey, rides, IsReached, IsDuration}
use Rattle.useful_minutes.specs.Boarding.{IsNear, MissesNothing}

-- some journey of at most k rides, and at least one, from the origin ends at stop p at this time
pub record IsReachedByRide (n : Net) (origin : Whereabouts) (k p time : ℕ) : Type 0 where
  pub legs : List Leg
  pub journey : Journey n origin legs (record { stop = p; time = time })
  pub few : rides legs ≤ k
  pub some : 0 < rides legs

-- at stop p by this time: by some journey of at most k rides
abbrev pub IsReachedBy : Net → Whereabouts → ℕ → ℕ → ℕ → Type 0
IsReachedBy n origin k p time = (end : ℕ) × (end ≤ time) × IsReached n origin k p end

-- by one with a ride
abbrev pub IsRiddenBy : Net → Whereabouts → ℕ → ℕ → ℕ → Type 0
IsRiddenBy n origin k p time = (end : ℕ) × (end ≤ time) × IsReachedByRide n origin k p end

-- by a walk alone
abbrev pub IsWalkedBy : Net → Whereabouts → ℕ → ℕ → Type 0
IsWalkedBy n origin p time = (seconds : ℕ) × IsNear n origin.stop p seconds × (origin.time + seconds ≤ time)

-- a law: where the later departure misses nothing, who sets out at the sooner one is at a stop by some time if and only
-- if a walk alone leads there by then, or a journey with a ride from the later one
abbrev pub SkippedDeparturesEndAlike : Type 0
SkippedDeparturesEndAlike =
    (n : Net) (origin sooner later k p time : ℕ) → sooner ≤ later → MissesNothing n origin sooner later →
    IsReachedBy n (record { stop = origin; time = sooner }) k p time
    ↔ (IsWalkedBy n (record { stop = origin; time = sooner }) p time
    ⊎ IsRiddenBy n (record { stop = origin; time = later }) k p time)

-- the new label is the old one and these seconds, or NEVER where the old one is
pub record IsLaterBy (seconds old new : ℕ) : Type 0 where
  pub never_so : old ≡ NEVER → new ≡ NEVER
  pub later : old ≢ NEVER → new ≡ old + seconds

-- a law: so its least duration is that of the later departure and the time between them, or of a walk alone
abbrev pub SkippedDurationsFollow : Type 0
SkippedDurationsFollow =
    (n : Net) (origin sooner later k p next waited alone : ℕ) → IsNet n → origin < n.stops → later < END_OF_AXIS →
    sooner ≤ later → MissesNothing n origin sooner later → IsLeastOrNever (IsDuration n origin later k p) next →
    IsLaterBy (later - sooner) next waited → IsLeastOrNever (IsNear n origin p) alone →
    IsLeastOrNever (IsDuration n origin sooner k p) (min alone waited)
