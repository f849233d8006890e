-- The order in which minutes take the labels of those that stand in for them, four minutes at a time.
use Rattle.std.specs.Prelude.{◌≡◌, ℕ, ◌+◌, ◌-◌, ◌*◌, ◌/◌, ◌<◌, ◌≤◌, List, [], length, slice_index, slice_index_or}

-- from one minute to the next the position stays, or goes on by one
pub record AreSteps (positions : List ℕ) : Type 0 where
  pub rise : (m : ℕ) → m + 1 < length positions → slice_index positions m ≤ slice_index positions (m + 1)
  pub by_one : (m : ℕ) → m + 1 < length positions → slice_index positions (m + 1) ≤ slice_index positions m + 1

-- label l takes the four bytes of label k
abbrev pub Takes : List ℕ → ℕ → ℕ → Type 0
Takes order l k = (b : ℕ) → b < 4 → slice_index order (4 * l + b) ≡ 4 * k + b

-- of four minutes each takes the label at its position, among the four labels that begin with the first minute's
pub record IsOrder (positions : List ℕ) (group : ℕ) (order : List ℕ) : Type 0 where
  pub low : (i : ℕ) → i < 16 → slice_index order i < 16
  pub takes : (l : ℕ) → l < 4 →
      Takes order l (slice_index positions (4 * group + l) - slice_index positions (4 * group))

-- so do all minutes, four by four
pub record AreOrders (positions : List ℕ) (orders : List (List ℕ)) : Type 0 where
  pub count : length orders ≡ length positions / 4
  pub each : (group : ℕ) → group < length orders → IsOrder positions group (slice_index_or orders group [])
