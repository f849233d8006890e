-- Times between a first and a last one, all moved by the same seconds.
use Rattle.std.proofs.Common.{◌≡◌, ◌≤◌, ℕ, ℤ, true, arith}
use Rattle.std.proofs.lemmas.Int.{ints}
use Rattle.scenarios.specs.ShiftedTimes.{begins_in_range, ends_in_range}

pub begins_later : (z : ℤ) (s t : ℕ) → s ≤ t → begins_in_range z s ≡ true → begins_in_range z t ≡ true
begins_later z s t le h = grind (arith, ints)

pub ends_earlier : (z : ℤ) (s t : ℕ) → s ≤ t → ends_in_range z t ≡ true → ends_in_range z s ≡ true
ends_earlier z s t le h = grind (arith, ints)
