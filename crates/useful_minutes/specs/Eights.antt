-- The order in which minutes take the narrow labels of those that stand in for them, eight minutes at a time.
use Rattle.std.specs.Prelude.{◌≡◌, ℕ, ◌+◌, ◌-◌, ◌*◌, ◌<◌, ◌≤◌, ◌⊎◌, List, slice_index}

-- label l takes both bytes of label k
abbrev pub TakesBoth : List ℕ → ℕ → ℕ → Type 0
TakesBoth order l k = (b : ℕ) → b < 2 → slice_index order (2 * l + b) ≡ 2 * k + b

-- label l takes no byte
abbrev pub TakesNone : List ℕ → ℕ → Type 0
TakesNone order l = (b : ℕ) → b < 2 → slice_index order (2 * l + b) ≡ 128

-- each is the position of one of sixteen bytes, or of none
abbrev pub AreBytes : List ℕ → Type 0
AreBytes order = (i : ℕ) → i < 16 → (slice_index order i < 16) ⊎ (slice_index order i ≡ 128)

-- of eight minutes each takes the label at its position, among the eight labels that begin with the first minute's; past
-- the window none does
pub record IsEightOrder (positions : List ℕ) (minutes group : ℕ) (order : List ℕ) : Type 0 where
  pub bytes : AreBytes order
  pub takes : (l : ℕ) → l < 8 → 8 * group + l < minutes →
      TakesBoth order l (slice_index positions (8 * group + l) - slice_index positions (8 * group))
  pub none : (l : ℕ) → l < 8 → minutes ≤ 8 * group + l → TakesNone order l
