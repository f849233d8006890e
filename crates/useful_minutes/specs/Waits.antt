-- The labels of all minutes, from those of the minutes that were searched, and from walks alone.
use Rattle.std.specs.Prelude.{◌≡◌, ℕ, ◌+◌, ◌*◌, ◌/◌, ◌%◌, ◌<◌, ◌≤◌, ◌⊎◌, List, [], min, length, slice_index}
use Rattle.std.specs.Prelude.{slice_index_or, All}
use Rattle.timetable.specs.declared.least.TheConstants.{NEVER}
use Rattle.timetable.specs.Networks.{Net}
use Rattle.useful_minutes.specs.Boarding.{IsNear}

-- the label of stop p at position m, where each stop has so many chunks of sixteen
abbrev pub label_at : ℕ → List (List ℕ) → ℕ → ℕ → ℕ
label_at chunks labels p m = slice_index (slice_index_or labels (p * chunks + m / 16) []) (m % 16)

-- the label at a position among chunks of sixteen from one of them on
abbrev pub label_from : ℕ → List (List ℕ) → ℕ → ℕ
label_from from labels m = slice_index (slice_index_or labels (from + m / 16) []) (m % 16)

-- a label and a wait, up to NEVER
abbrev pub waited : ℕ → ℕ → ℕ
waited label wait = min (label + wait) NEVER

-- there is room for so many chunks, which each of these positions lies in, and for one chunk more
pub record HasRoom (positions : List ℕ) (room : ℕ) : Type 0 where
  pub chunks : ℕ
  pub size : room ≡ 16 * chunks + 16
  pub few : 16 * chunks ≤ length positions
  pub within : All (λ position. position < 16 * chunks) positions

-- the new label of each stop and minute is the old one at the minute's position, and the minute's wait
pub record AreFilled (positions waits : List ℕ) (stops : ℕ) (old new : List (List ℕ)) : Type 0 where
  pub same : length new ≡ length old
  pub filled : (chunks p m : ℕ) → length positions ≡ 16 * chunks → p < stops → m < length positions →
      label_at chunks new p m ≡ waited (label_at chunks old p (slice_index positions m)) (slice_index waits m)

-- the new label is no more than the old one and each walk from the origin, and one of these
pub record IsWalked (n : Net) (origin p old new : ℕ) : Type 0 where
  pub falls : new ≤ old
  pub walks : (seconds : ℕ) → IsNear n origin p seconds → new ≤ seconds
  pub some : (new ≡ old) ⊎ IsNear n origin p new
