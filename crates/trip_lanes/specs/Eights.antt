-- Labels of lanes in parts of eight, of which registers hold one each.
use Rattle.std.specs.Prelude.{◌≡◌, ℕ, ◌+◌, ◌*◌, ◌<◌, ◌≤◌, List, slice_index}

-- of the parts from one to before another: each lane of eight bounds their labels in that lane, and is one
pub record AreBounds (R : ℕ → ℕ → Type 0) (from end : ℕ) (labels eight : List ℕ) : Type 0 where
  pub bounds : (j k : ℕ) → from ≤ j → j < end → k < 8 → R (slice_index eight k) (slice_index labels (8 * j + k))
  pub some : (k : ℕ) → k < 8 →
      (j : ℕ) × (from ≤ j) × (j < end) × (slice_index labels (8 * j + k) ≡ slice_index eight k)

-- the least in each lane
abbrev pub AreLeast : ℕ → ℕ → List ℕ → List ℕ → Type 0
AreLeast from end labels eight = AreBounds (λ a b. a ≤ b) from end labels eight

-- the greatest
abbrev pub AreGreatest : ℕ → ℕ → List ℕ → List ℕ → Type 0
AreGreatest from end labels eight = AreBounds (λ a b. b ≤ a) from end labels eight
