-- Sums over all views when one view changes.
use Rattle.std.proofs.Common.{◌≡◌, ℕ, zero, suc, ◌+◌, ◌≤◌, List, [], ◌∷◌, set, refl, sym, ap, arith}
use Rattle.std.specs.List.{sum_by}
use Rattle.std.proofs.lemmas.List.Sums.{sum_by-cons}
use mathlib.Core.Option.{some, some-ne-none, some-injective}
use lib.ListN.{get_elem?}

module _ {A : Type 0} (f : A → ℕ) where
  pub sum_set : (vs : List A) (i : ℕ) (v w : A) → get_elem? vs i ≡ some v →
      sum_by f (set vs i w) + f v ≡ sum_by f vs + f w
  sum_set [] i v w e = absurd (some-ne-none v (sym e))
  sum_set (x ∷ xs) zero v w e = let p = ap f (some-injective x v e) in let a = sum_by-cons f w xs in
      let b = sum_by-cons f x xs in omega arith
  sum_set (x ∷ xs) (suc i) v w e = let p = sum_set xs i v w e in let a = sum_by-cons f x (set xs i w) in
      let b = sum_by-cons f x xs in omega arith

  pub sum_at : (vs : List A) (i : ℕ) (v : A) → get_elem? vs i ≡ some v → f v ≤ sum_by f vs
  sum_at [] i v e = absurd (some-ne-none v (sym e))
  sum_at (x ∷ xs) zero v e = let p = ap f (some-injective x v e) in let b = sum_by-cons f x xs in omega arith
  sum_at (x ∷ xs) (suc i) v e = let p = sum_at xs i v e in let b = sum_by-cons f x xs in omega arith

  pub sum_le : (g : A → ℕ) → ((v : A) → f v ≤ g v) → (vs : List A) → sum_by f vs ≤ sum_by g vs
  sum_le g le [] = omega arith
  sum_le g le (x ∷ xs) = let p = sum_le g le xs in let q = le x in let a = sum_by-cons f x xs in
      let b = sum_by-cons g x xs in omega arith

  pub sum_none : (g : A → ℕ) (vs : List A) → sum_by g vs ≡ 0 →
      ((j : ℕ) (w : A) → get_elem? vs j ≡ some w → g w ≡ 0 → f w ≡ 0) → sum_by f vs ≡ 0
  sum_none g [] none h = refl
  sum_none g (x ∷ xs) none h =
      let b = sum_by-cons g x xs in
      let p = sum_none g xs (omega arith) (λ j w. h (suc j) w) in
      let q : f x ≡ 0 = h zero x refl (omega arith) in
      let a = sum_by-cons f x xs in
      omega arith

-- where all of g is in one view, so is all of f
pub sum_one : {A : Type 0} (f g : A → ℕ) (vs : List A) (i : ℕ) (v : A) → get_elem? vs i ≡ some v → sum_by g vs ≡ g v →
    ((j : ℕ) (w : A) → get_elem? vs j ≡ some w → g w ≡ 0 → f w ≡ 0) → sum_by f vs ≡ f v
sum_one f g [] i v e whole h = absurd (some-ne-none v (sym e))
sum_one f g (x ∷ xs) zero v e whole h =
    let same = some-injective x v e in
    let p = ap g same in
    let q = ap f same in
    let a = sum_by-cons f x xs in
    let b = sum_by-cons g x xs in
    let r = sum_none f g xs (omega arith) (λ j w. h (suc j) w) in
    omega arith
sum_one f g (x ∷ xs) (suc i) v e whole h =
    let b = sum_by-cons g x xs in
    let a = sum_by-cons f x xs in
    let p = sum_at g xs i v e in
    let q : f x ≡ 0 = h zero x refl (omega arith) in
    let r = sum_one f g xs i v e (omega arith) (λ j w. h (suc j) w) in
    omega arith
