-- A field at a position, and the first column that passes a test.
use Rattle.std.proofs.Common.{◌≡◌, ◌<◌, ◌≤◌, ℕ, zero, suc, Bool, true, false, List, [], ◌∷◌, length, get_or, position}
use Rattle.std.proofs.Common.{slice_get, nat_lt, Some, None, refl, arith}
use Rattle.std.specs.List.{position_or_len}
use Rattle.std.proofs.lemmas.List.Sums.{position_or_len_is}
use Rattle.std.proofs.lemmas.Bool.Decides.{nat_tests}
use Rattle.csv.specs.Records.{field_at}

pub field_at-slice_get : (xs : List (List ℕ)) (i : ℕ) → field_at xs i ≡ slice_get xs i
unfolding field_at
field_at-slice_get [] i = refl
field_at-slice_get (x ∷ xs) zero = refl
field_at-slice_get (x ∷ xs) (suc i) = field_at-slice_get xs i

pub field_there : (xs : List (List ℕ)) (i : ℕ) (f : List ℕ) → field_at xs i ≡ Some f →
    (i < length xs) × (get_or xs i [] ≡ f)
unfolding field_at
field_there [] i f e = cc e
field_there (x ∷ xs) zero f e = (omega arith, cc e)
field_there (x ∷ xs) (suc i) f e = let (lt, is) = field_there xs i f e in (omega arith, is)

pub field_missing : (xs : List (List ℕ)) (i : ℕ) → field_at xs i ≡ None → length xs ≤ i
unfolding field_at
field_missing [] i e = omega arith
field_missing (x ∷ xs) zero e = cc e
field_missing (x ∷ xs) (suc i) e = let le = field_missing xs i e in omega (arith, le)

module _ {X : Type 0} (p : X → Bool) (xs : List X) (d : X) where
  pub first_at : (i : ℕ) → i < length xs → ((k : ℕ) → k < i → p (get_or xs k d) ≡ false) → p (get_or xs i d) ≡ true →
      position p xs ≡ Some i
  first_at i lt below here =
      let is : position_or_len p xs ≡ i = position_or_len_is p xs i d (omega arith) below (λ _. here) in
      let within : nat_lt i (length xs) ≡ true = grind (arith, nat_tests) in
      rw (is, within) refl

  pub none_at : (i : ℕ) → length xs ≤ i → ((k : ℕ) → k < i → p (get_or xs k d) ≡ false) → position p xs ≡ None
  none_at i le below =
      let is : position_or_len p xs ≡ length xs =
      position_or_len_is p xs (length xs) d (omega arith) (λ k lt. below k (omega arith))
      (λ lt. absurd (omega arith)) in
      let outside : nat_lt (length xs) (length xs) ≡ false = grind (arith, nat_tests) in
      rw (is, outside) refl
