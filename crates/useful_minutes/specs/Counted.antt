-- The durations of all minutes, counted from the narrow labels of those that were searched.
use Rattle.std.specs.Prelude.{◌≡◌, ◌≢◌, ℕ, ◌+◌, ◌*◌, ◌<◌, ◌≤◌, List, length, slice_index}
use Rattle.timetable.specs.declared.least.TheConstants.{NEVER}
use Rattle.useful_minutes.specs.Waits.{label_at}

-- the label of stop p at a position, where each stop has so many labels side by side
abbrev pub narrow_at : ℕ → List ℕ → ℕ → ℕ → ℕ
narrow_at width found p j = slice_index found (p * width + j)

-- a duration, from a departure to the time of a narrow label, which counts from a base; NEVER where that is never
pub record IsCounted (base depart label duration : ℕ) : Type 0 where
  pub never_so : label ≡ 65535 → duration ≡ NEVER
  pub counted : label ≢ 65535 → duration + depart ≡ base + label

-- the duration of each stop and minute, by the label at the minute's position and its base; NEVER in lanes past the
-- window
pub record AreCounted (width : ℕ) (found bases positions : List ℕ) (first minutes stops : ℕ)
    (labels : List (List ℕ)) : Type 0 where
  pub size : (chunks : ℕ) → length positions ≡ 16 * chunks → length labels ≡ stops * chunks
  pub counted : (chunks p m : ℕ) → length positions ≡ 16 * chunks → p < stops → m < minutes →
      IsCounted (slice_index bases (slice_index positions m)) (first + 60 * m)
      (narrow_at width found p (slice_index positions m)) (label_at chunks labels p m)
  pub past : (chunks p m : ℕ) → length positions ≡ 16 * chunks → p < stops → minutes ≤ m → m < length positions →
      label_at chunks labels p m ≡ NEVER
