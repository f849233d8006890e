-- The sum of the first n values of a function.
use Rattle.std.specs.Prelude.{ℕ, ◌+◌, zero, suc}

abbrev pub sum_to : (ℕ → ℕ) → ℕ → ℕ
sum_to f zero = 0
sum_to f (suc n) = sum_to f n + f n
