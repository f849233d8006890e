-- What labels tell, and the labels that bound others.
use Rattle.std.specs.Prelude.{◌≡◌, ◌≢◌, ℕ, ◌<◌, ◌≤◌, List, length, min, slice_index}
use Rattle.timetable.specs.declared.least.TheConstants.{NEVER}

-- by the time of each label, its stop is reached
pub record AreMet (Reached : ℕ → ℕ → Type 0) (labels : List ℕ) : Type 0 where
  pub met : (p : ℕ) → p < length labels → slice_index labels p ≢ NEVER →
      (time : ℕ) × Reached p time × (time ≤ slice_index labels p)

-- no stop is reached before its label
abbrev pub NoneEarlier : (ℕ → ℕ → Type 0) → List ℕ → Type 0
NoneEarlier Reached labels = (p time : ℕ) → p < length labels → Reached p time → slice_index labels p ≤ time

-- the label that bounds that of a stop
abbrev pub Bounds : List ℕ → ℕ → ℕ → Type 0
Bounds bound p x = x ≡ slice_index bound p

-- no stop has a bound below never
abbrev pub IsUnbounded : ℕ → List ℕ → Type 0
IsUnbounded never bound = (p : ℕ) → p < length bound → slice_index bound p ≡ never

-- by when a stop is reached: by its ride label, or earlier where somebody who walked there is ready to board
abbrev pub arrival : List ℕ → List ℕ → ℕ → ℕ
arrival ride ready p = min (slice_index ride p) (slice_index ready p)
