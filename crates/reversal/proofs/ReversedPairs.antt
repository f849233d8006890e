-- The mirrored network has no more footpaths than the network.
use Rattle.std.proofs.Common.{◌≡◌, inl, inr, ℕ, zero, suc, ◌+◌, ◌<◌, ◌≤◌, List, [], ◌∷◌, length, map}
use Rattle.std.proofs.Common.{cond, eqb, sum_by, refl, ap, arith}
use Rattle.std.specs.List.{range_with_len}
use Rattle.std.proofs.lemmas.Bool.{cases_eq, eq-eqb, ne_eqb}
use Rattle.std.proofs.lemmas.List.{length-append}
use Rattle.std.proofs.lemmas.List.Sums.{sum_by-cons, sum_by-le-sum_by}
use Rattle.timetable.specs.declared.trips.StopNo.{StopNo}
use Rattle.timetable.specs.Footpaths.{FootLists}
use Rattle.reversal.specs.Mirror.{reversed_between, reversed_to}
use Rattle.reversal.proofs.ReversedFootpaths.{between_other, between_same}

sum_none : (xs : List ℕ) → sum_by (λ x. 0) xs ≡ 0
sum_none [] = refl
sum_none (x ∷ xs) =
    let rest = sum_none xs in
    omega (arith, sum_by-cons (λ y. 0) x xs, rest)

sum_both : (f g : ℕ → ℕ) (xs : List ℕ) → sum_by (λ x. f x + g x) xs ≡ sum_by f xs + sum_by g xs
sum_both f g [] = refl
sum_both f g (x ∷ xs) =
    let rest = sum_both f g xs in
    omega (arith, sum_by-cons (λ y. f y + g y) x xs, sum_by-cons f x xs, sum_by-cons g x xs, rest)

pub sum_mapped : {X Y : Type 0} (g : X → ℕ) (f : Y → X) (xs : List Y) → sum_by g (map f xs) ≡ sum_by (λ x. g (f x)) xs
sum_mapped g f [] = refl
sum_mapped g f (x ∷ xs) =
    let rest = sum_mapped g f xs in
    omega (arith, sum_by-cons g (f x) (map f xs), sum_by-cons (λ y. g (f y)) x xs, rest)

-- 1 if the numbers are equal, otherwise 0
abbrev hit : ℕ → ℕ → ℕ
hit x b = cond (eqb x b) 1 0

hit_other : (x b : ℕ) → (x ≡ b → ⊥) → hit x b ≡ 0
hit_other x b e = ap (λ t. cond t 1 0) (ne_eqb x b e)

hit_low : (x b : ℕ) → hit x b ≤ 1
hit_low x b = elim (cases_eq x b) [
  | inl e ↦ let one : hit x b ≡ 1 = ap (λ t. cond t 1 0) (eq-eqb x b e) in omega (arith, one)
  | inr e ↦ omega (arith, hit_other x b e)
]

hits_past : (x a n : ℕ) → x < a → sum_by (hit x) (range_with_len a n) ≡ 0
hits_past x a zero l = refl
hits_past x a (suc n) l =
    let rest = hits_past x (a + 1) n (omega (arith, l)) in
    let here = hit_other x a (λ e. omega (arith, l, e)) in
    omega (arith, sum_by-cons (hit x) a (range_with_len (a + 1) n), rest, here)

-- a number occurs at most once in a range
hits_once : (x a n : ℕ) → sum_by (hit x) (range_with_len a n) ≤ 1
hits_once x a zero = omega arith
hits_once x a (suc n) = elim (cases_eq x a) [
  | inl e ↦
      let rest = hits_past x (a + 1) n (omega (arith, e)) in
      omega (arith, sum_by-cons (hit x) a (range_with_len (a + 1) n), rest, hit_low x a)
  | inr e ↦
      let rest = hits_once x (a + 1) n in
      omega (arith, sum_by-cons (hit x) a (range_with_len (a + 1) n), rest, hit_other x a e)
]

module _ (stops : ℕ) where
  -- a list with one footpath more
  between_more : (a b : ℕ) (x : StopNo × ℕ) (row : List (StopNo × ℕ)) →
      length (reversed_between a b (x ∷ row)) ≤ hit x.0.0 b + length (reversed_between a b row)
  between_more a b x row = elim (cases_eq x.0.0 b) [
    | inl e ↦
        let one : hit x.0.0 b ≡ 1 = ap (λ t. cond t 1 0) (eq-eqb x.0.0 b e) in
        omega (arith, ap length (between_same a b x row e), one)
    | inr e ↦ omega (arith, ap length (between_other a b x row e))
  ]

  row_reversed : (a : ℕ) (row : List (StopNo × ℕ)) →
      sum_by (λ b. length (reversed_between a b row)) (range_with_len 0 stops) ≤ length row
  row_reversed a [] = omega (arith, sum_none (range_with_len 0 stops))
  row_reversed a (x ∷ row) =
      let numbers = range_with_len 0 stops in
      let each =
      sum_by-le-sum_by (λ b. length (reversed_between a b (x ∷ row)))
      (λ b. hit x.0.0 b + length (reversed_between a b row))
      numbers (λ b. between_more a b x row) in
      let both = sum_both (hit x.0.0) (λ b. length (reversed_between a b row)) numbers in
      omega (arith, each, both, hits_once x.0.0 0 stops, row_reversed a row)

  pub walks_reversed : (a : ℕ) (walks : FootLists) →
      sum_by (λ b. length (reversed_to b a walks)) (range_with_len 0 stops) ≤ sum_by length walks
  walks_reversed a [] = omega (arith, sum_none (range_with_len 0 stops))
  walks_reversed a (row ∷ walks) =
      let numbers = range_with_len 0 stops in
      let each = sum_by-le-sum_by (λ b. length (reversed_to b a (row ∷ walks)))
      (λ b. length (reversed_between a b row) + length (reversed_to b (suc a) walks)) numbers
      (λ b. omega (arith, length-append (reversed_between a b row) (reversed_to b (suc a) walks))) in
      let both =
      sum_both (λ b. length (reversed_between a b row)) (λ b. length (reversed_to b (suc a) walks)) numbers in
      omega (arith, each, both, row_reversed a row, walks_reversed (suc a) walks, sum_by-cons length row walks)
