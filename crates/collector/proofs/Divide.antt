-- The scenario and the origin of a place.
use Rattle.std.proofs.Common.{◌≡◌, ◌<◌, ◌+◌, ◌*◌, ◌/◌, ◌%◌, ℕ, zero, suc, arith}
use Rattle.std.proofs.Math.Nat.{div-lt_iff_lt-mul, mod-lt, div-add-mod, mul_comm}

pub some_right : (a b k : ℕ) → k < a * b → 0 < b
some_right a zero k h = omega arith
some_right a (suc b) k h = omega arith

pub scenario_below : (a b k : ℕ) → k < a * b → k / b < a
scenario_below a b k h = (div-lt_iff_lt-mul (some_right a b k h)).1 h

pub origin_below : (a b k : ℕ) → k < a * b → k % b < b
origin_below a b k h = mod-lt k (some_right a b k h)

pub joined : (b k : ℕ) → (k / b) * b + k % b ≡ k
joined b k = let e = div-add-mod k b in let f = mul_comm (k / b) b in omega arith

-- all of this
pub divided : (a b k : ℕ) → k < a * b → (0 < b) × (k / b < a) × (k % b < b) × ((k / b) * b + k % b ≡ k)
divided a b k h = (some_right a b k h, scenario_below a b k h, origin_below a b k h, joined b k)
