-- The ascending order of records is one.
use Rattle.std.proofs.Common.{◌≡◌, ◌<◌, ◌≤◌, ◌+◌, ℕ, zero, suc, Bool, true, false, List, [], ◌∷◌, ◌++◌, length, get_or}
use Rattle.std.proofs.Common.{inl, inr, arith, refl, sym, ap, subst}
use Rattle.std.specs.Prelude.{◌⊎◌, nat_lt, if◌then◌else◌}
use Rattle.std.specs.List.{Contains}
use Rattle.std.specs.List.Sorted.{IsPermutation}
use Rattle.std.proofs.lemmas.List.{append-nil}
use Rattle.std.proofs.lemmas.List.Sorted.{Contains-permutation, IsPermutation-append, IsPermutation-cons}
use Rattle.std.proofs.lemmas.List.Sorted.{IsPermutation-middle, IsPermutation-refl, IsPermutation-sym}
use Rattle.std.proofs.lemmas.List.Sorted.{IsPermutation-trans}
use Rattle.trip_events.specs.TripTimes.{IsAscending, in_order, insert_all, insert_in_order}
use Rattle.trip_events.specs.declared.trip_times.StopTime.{StopTime}

-- a record is among some
abbrev In : StopTime → List StopTime → Type 0
In s [] = suc zero ≡ zero
In s (x ∷ xs) = (s ≡ x) ⊎ In s xs

from_contains : (s : StopTime) (xs : List StopTime) (k : ℕ) → k < length xs → get_or xs k s ≡ s → In s xs
from_contains s [] k lt e = absurd (omega (arith, lt))
from_contains s (x ∷ xs) zero lt e = inl (sym e)
from_contains s (x ∷ xs) (suc k) lt e = inr (from_contains s xs k (omega (arith, lt)) e)

to_contains : (s : StopTime) (xs : List StopTime) → In s xs → Contains xs s
to_contains s [] i = cc i
to_contains s (x ∷ xs) i = elim i [
  | inl e ↦ (zero, omega arith, sym e)
  | inr j ↦ let (k, lt, e) = to_contains s xs j in (suc k, omega (arith, lt), e)
]

among : (xs ys : List StopTime) → IsPermutation xs ys → (s : StopTime) → In s xs → In s ys
among xs ys p s i = let (k, lt, e) = Contains-permutation xs ys s p (to_contains s xs i) in from_contains s ys k lt e

beyond : (low : ℕ) (xs : List StopTime) (s : StopTime) → IsAscending low xs → In s xs → low ≤ s.sequence
beyond low [] s up i = cc i
beyond low (x ∷ xs) s up i = let le = up.0 in elim i [
  | inl e ↦ let same = ap (λ (t : StopTime). t.sequence) e in omega (arith, le, same)
  | inr j ↦ let more = beyond (x.sequence + 1) xs s up.1 j in omega (arith, le, more)
]

first_least : (x y : StopTime) (ys : List StopTime) → IsAscending (y.sequence + 1) ys → In x (y ∷ ys) →
    y.sequence ≤ x.sequence
first_least x y ys up i = elim i [
  | inl e ↦ let same = ap (λ (t : StopTime). t.sequence) e in omega (arith, same)
  | inr j ↦ let more = beyond (y.sequence + 1) ys x up j in omega (arith, more)
]

-- a record of the rest is none of the first
left_over : (x y : StopTime) (xs ys : List StopTime) → x.sequence ≡ y.sequence → IsAscending (x.sequence + 1) xs →
    (s : StopTime) → In s xs → In s (y ∷ ys) → In s ys
left_over x y xs ys same up s i j = elim j [
  | inl e ↦ let more = beyond (x.sequence + 1) xs s up i in let number = ap (λ (t : StopTime). t.sequence) e in
      absurd (omega (arith, more, number, same))
  | inr k ↦ k
]

unique : (low : ℕ) (xs ys : List StopTime) → IsAscending low xs → IsAscending low ys →
    ((s : StopTime) → In s xs → In s ys) → ((s : StopTime) → In s ys → In s xs) → xs ≡ ys
unique low [] [] a b f g = refl
unique low [] (y ∷ ys) a b f g = cc (g y (inl refl))
unique low (x ∷ xs) [] a b f g = cc (f x (inl refl))
unique low (x ∷ xs) (y ∷ ys) a b f g =
    let below = first_least x y ys b.1 (f x (inl refl)) in
    let above = first_least y x xs a.1 (g y (inl refl)) in
    let same : x.sequence ≡ y.sequence = omega (arith, below, above) in
    let back : y.sequence ≡ x.sequence = sym same in
    let first : x ≡ y = elim (f x (inl refl)) [
      | inl e ↦ e
      | inr j ↦ let more = beyond (y.sequence + 1) ys x b.1 j in absurd (omega (arith, more, same))
    ] in
    let rest = unique (x.sequence + 1) xs ys a.1 (subst (λ (n : ℕ). IsAscending (n + 1) ys) back b.1)
    (λ s i. left_over x y xs ys same a.1 s i (f s (inr i)))
    (λ s i. left_over y x ys xs back b.1 s i (g s (inr i))) in
    λ k. first k ∷ rest k

pub one_order : (xs ys : List StopTime) → IsPermutation xs ys → IsAscending 0 xs → IsAscending 0 ys → xs ≡ ys
one_order xs ys p a b = unique 0 xs ys a b (among xs ys p) (among ys xs (IsPermutation-sym xs ys p))

put : (s : StopTime) (xs : List StopTime) → IsPermutation (s ∷ xs) (insert_in_order s xs)
put s [] = IsPermutation-refl (s ∷ [])
put s (t ∷ rest) = by (nat_lt s.sequence t.sequence)
    (IsPermutation-trans (s ∷ t ∷ rest) (t ∷ s ∷ rest) (t ∷ insert_in_order s rest)
    (IsPermutation-middle (s ∷ []) t rest) (IsPermutation-cons t (s ∷ rest) (insert_in_order s rest)
    (put s rest)))
  where
    by : (b : Bool) → IsPermutation (s ∷ t ∷ rest) (t ∷ insert_in_order s rest) →
        IsPermutation (s ∷ t ∷ rest) (if b then s ∷ t ∷ rest else t ∷ insert_in_order s rest)
    by true e = IsPermutation-refl (s ∷ t ∷ rest)
    by false e = e

put_all : (sorted trip_times : List StopTime) → IsPermutation (trip_times ++ sorted) (insert_all sorted trip_times)
put_all sorted [] = IsPermutation-refl sorted
put_all sorted (s ∷ trip_times) =
    IsPermutation-trans (s ∷ (trip_times ++ sorted)) (trip_times ++ s ∷ sorted)
    (insert_all (insert_in_order s sorted) trip_times)
    (IsPermutation-sym (trip_times ++ s ∷ sorted) (s ∷ (trip_times ++ sorted))
    (IsPermutation-middle trip_times s sorted))
    (IsPermutation-trans (trip_times ++ s ∷ sorted) (trip_times ++ insert_in_order s sorted)
    (insert_all (insert_in_order s sorted) trip_times)
    (IsPermutation-append trip_times trip_times (s ∷ sorted) (insert_in_order s sorted) (IsPermutation-refl trip_times)
    (put s sorted))
    (put_all (insert_in_order s sorted) trip_times))

pub keeps_all : (trip_times : List StopTime) → IsPermutation trip_times (in_order trip_times)
keeps_all trip_times = subst (λ (l : List StopTime). IsPermutation l (in_order trip_times)) (append-nil trip_times)
    (put_all [] trip_times)
