-- Stops by numbers of their own, from 0 on, and the stop of each number.
use Rattle.std.specs.Prelude.{◌≡◌, ◌≢◌, ℕ, ◌+◌, ◌<◌, ◌==◌, List, length, slice_index, sum_by, if◌then◌else◌}

-- each stop has a number of its own, and each number is a stop's
pub record AreNumbers (stops : ℕ) (numbers order : List ℕ) : Type 0 where
  pub size : length numbers ≡ stops
  pub count : length order ≡ stops
  pub number : (p : ℕ) → p < stops → (slice_index numbers p < stops) × (slice_index order (slice_index numbers p) ≡ p)
  pub stop : (n : ℕ) → n < stops → (slice_index order n < stops) × (slice_index numbers (slice_index order n) ≡ n)

-- the number of a stop
abbrev pub number_in : List ℕ → ℕ → ℕ
number_in numbers p = slice_index numbers p

-- how many stops have no number yet: they hold the count of stops in its place
abbrev pub without_number : ℕ → List ℕ → ℕ
without_number stops numbers = sum_by (λ n. if n == stops then 1 else 0) numbers

-- some stops have a number of their own, and each number so far is a stop's
pub record AreBegun (stops : ℕ) (numbers order : List ℕ) : Type 0 where
  pub size : length numbers ≡ stops
  pub count : length order + without_number stops numbers ≡ stops
  pub number : (p : ℕ) → p < stops → slice_index numbers p ≢ stops →
      (slice_index numbers p < length order) × (slice_index order (slice_index numbers p) ≡ p)
  pub stop : (n : ℕ) → n < length order →
      (slice_index order n < stops) × (slice_index numbers (slice_index order n) ≡ n)
