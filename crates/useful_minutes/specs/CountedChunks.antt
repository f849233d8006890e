-- What durations are counted from, and how those of sixteen minutes are counted at once.
use Rattle.std.specs.Prelude.{◌≡◌, ◌≢◌, ℕ, ◌+◌, ◌-◌, ◌*◌, ◌/◌, ◌%◌, ◌^◌, ◌<◌, ◌≤◌, List, [], length, slice_index}
use Rattle.std.specs.Prelude.{slice_index_or, All}
use Rattle.timetable.specs.declared.least.TheConstants.{NEVER}
use Rattle.timetable.specs.declared.limits.TheConstants.{END_OF_AXIS}
use Rattle.useful_minutes.specs.declared.counted.Counting.{Counting}
use Rattle.useful_minutes.specs.declared.counted.Chunk.{Chunk}
use Rattle.useful_minutes.specs.declared.counted.Source.{Source}
use Rattle.useful_minutes.specs.Counted.{IsCounted, narrow_at}
use Rattle.useful_minutes.specs.Eights.{IsEightOrder}
use Rattle.useful_minutes.specs.Orders.{AreSteps}
use Rattle.useful_minutes.specs.Waits.{label_at}

-- the base of minute m
abbrev pub base_at : Counting → ℕ → ℕ
base_at c m = slice_index c.found.bases.now (slice_index c.positions.now m)

-- the label that minute m has at stop p
abbrev pub found_at : Counting → ℕ → ℕ → ℕ
found_at c p m = narrow_at c.found.width c.found.labels.now p (slice_index c.positions.now m)

-- the minutes of a window, in chunks of sixteen, with a base for each minute
pub record IsCounting (c : Counting) : Type 0 where
  pub chunks : (n : ℕ) × (length c.positions.now ≡ 16 * n)
  pub minutes : c.minutes ≤ length c.positions.now
  pub few : c.minutes ≤ 1440
  pub first : c.first < END_OF_AXIS
  pub steps : AreSteps c.positions.now
  pub within : (m : ℕ) → m < c.minutes → slice_index c.positions.now m < length c.found.bases.now
  pub positions : All (λ position. position ≤ c.found.width) c.positions.now
  pub bases : All (λ base. base < END_OF_AXIS) c.found.bases.now

-- a stop has labels, after which eight more may be read, and none is of a time before the departure
pub record HasLabels (c : Counting) (p : ℕ) : Type 0 where
  pub room : p * c.found.width + c.found.width + 8 ≤ length c.found.labels.now
  pub since : (m : ℕ) → m < c.minutes → found_at c p m ≢ 65535 → c.first + 60 * m ≤ base_at c m + found_at c p m

-- eight minutes take their labels in an order, from the first minute's position on
pub record IsSourceOf (c : Counting) (group : ℕ) (source : Source) : Type 0 where
  pub at : source.at ≡ slice_index c.positions.now (8 * group)
  pub order : IsEightOrder c.positions.now c.minutes group source.order

-- how much more than its label the duration of minute m is, where sums wrap; past the window, where the label is 0, NEVER
pub record IsMore (c : Counting) (m more : ℕ) : Type 0 where
  pub live : m < c.minutes → more ≡ (base_at c m + (2 ^ 32 - (c.first + 60 * m))) % 2 ^ 32
  pub past : c.minutes ≤ m → more ≡ NEVER

-- so for sixteen minutes
pub record IsChunk (c : Counting) (n : ℕ) (chunk : Chunk) : Type 0 where
  pub early : IsSourceOf c (2 * n) chunk.early
  pub late : IsSourceOf c (2 * n + 1) chunk.late
  pub more : (l : ℕ) → l < 16 → IsMore c (16 * n + l) (slice_index chunk.more l)

-- and for all
pub record AreChunks (c : Counting) (chunks : List Chunk) : Type 0 where
  pub count : length chunks ≡ length c.positions.now / 16
  pub each : (n : ℕ) (none : Chunk) → n < length chunks → IsChunk c n (slice_index_or chunks n none)

-- the duration of minute m to stop p; NEVER past the window
pub record IsDurationAt (c : Counting) (p m duration : ℕ) : Type 0 where
  pub live : m < c.minutes → IsCounted (base_at c m) (c.first + 60 * m) (found_at c p m) duration
  pub past : c.minutes ≤ m → duration ≡ NEVER

-- the durations of all minutes to stop p come after those that were there
pub record AddsStop (c : Counting) (p : ℕ) (old new : List (List ℕ)) : Type 0 where
  pub size : length new ≡ length old + length c.positions.now / 16
  pub kept : (i : ℕ) → i < length old → slice_index_or new i [] ≡ slice_index_or old i []
  pub added : (n l : ℕ) → n < length c.positions.now / 16 → l < 16 →
      IsDurationAt c p (16 * n + l) (slice_index (slice_index_or new (length old + n) []) l)

-- the durations to so many stops
pub record AreDurationsTo (c : Counting) (stops : ℕ) (durations : List (List ℕ)) : Type 0 where
  pub size : length durations ≡ stops * (length c.positions.now / 16)
  pub each : (p m : ℕ) → p < stops → m < length c.positions.now →
      IsDurationAt c p m (label_at (length c.positions.now / 16) durations p m)
