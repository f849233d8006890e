-- Sums over the first places.
use Rattle.std.proofs.Common.{◌≡◌, ◌≤◌, ◌<◌, ◌+◌, ℕ, zero, suc, ap, arith, refl, inl, inr}
use Rattle.std.proofs.lemmas.Bool.{cases_lt}
use Rattle.label_cells.specs.Sums.{sum_to}

pub sum_same : (f g : ℕ → ℕ) (n : ℕ) → ((i : ℕ) → i < n → f i ≡ g i) → sum_to f n ≡ sum_to g n
sum_same f g zero same = refl
sum_same f g (suc n) same =
    let rest = sum_same f g n (λ i l. same i (omega (arith, l))) in
    let here = same n (omega arith) in
    omega (arith, rest, here)

pub sum_adds : (f g : ℕ → ℕ) (n : ℕ) → sum_to (λ i. f i + g i) n ≡ sum_to f n + sum_to g n
sum_adds f g zero = refl
sum_adds f g (suc n) = let rest = sum_adds f g n in omega (arith, rest)

-- the sum of fewer places is no greater
pub sum_part : (f : ℕ → ℕ) (m n : ℕ) → m ≤ n → sum_to f m ≤ sum_to f n
sum_part f m zero le = let e : m ≡ 0 = omega (arith, le) in let s = ap (λ (k : ℕ). sum_to f k) e in omega (arith, s)
sum_part f m (suc n) le = elim (cases_lt m (suc n)) [
  | inl l ↦ let rest = sum_part f m n (omega (arith, l)) in omega (arith, rest)
  | inr g ↦ let e : m ≡ suc n = omega (arith, le, g) in let s = ap (λ (k : ℕ). sum_to f k) e in omega (arith, s)
]

pub sum_next : (f : ℕ → ℕ) (n : ℕ) → sum_to f (n + 1) ≡ sum_to f n + f n
sum_next f n = ap (λ (k : ℕ). sum_to f k) (let e : n + 1 ≡ suc n = omega arith in e)
