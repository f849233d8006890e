-- Labels that only fall, and only to what is offered.
use Rattle.std.specs.Prelude.{◌≡◌, ℕ, ◌<◌, ◌≤◌, ◌⊎◌, List, length, slice_index}

-- no offer is lower than the label that is there
abbrev pub NothingLower : (ℕ → ℕ → Type 0) → List ℕ → Type 0
NothingLower Offers labels = (p x : ℕ) → p < length labels → Offers p x → slice_index labels p ≤ x

-- no label rises, and each that falls is one of those that are offered for its stop
pub record FallsTo (Offers : ℕ → ℕ → Type 0) (old new : List ℕ) : Type 0 where
  pub same_length : length new ≡ length old
  pub falls : (p : ℕ) → slice_index new p ≤ slice_index old p
  pub offered : (p : ℕ) → p < length old → (slice_index new p ≡ slice_index old p) ⊎ Offers p (slice_index new p)
