-- A list that grew by one element.
use Rattle.std.proofs.Common.{◌≡◌, ◌<◌, ◌+◌, ◌++◌, ◌∷◌, [], ℕ, List, length, get_or, inl, inr, subst, sym, ◌∙◌, arith}
use Rattle.std.proofs.lemmas.Bool.{cases_lt}
use Rattle.std.proofs.lemmas.List.{get_or_append_left, get_or_at, length-append}

-- a property of each old element and of the new one is a property of each element
pub pushed : (A : Type 0) (P : ℕ → A → Type 0) (xs : List A) (x d : A) (n : ℕ) → length xs ≡ n →
    ((i : ℕ) → i < n → P i (get_or xs i d)) → P n x → (i : ℕ) → i < n + 1 → P i (get_or (xs ++ x ∷ []) i d)
pushed A P xs x d n long before here i less = elim (cases_lt i n) [
  | inl lt ↦ subst (λ (y : A). P i y) (sym (get_or_append_left xs (x ∷ []) d i (omega (arith, lt, long)))) (before i lt)
  | inr ge ↦
      let e : n ≡ i = omega (arith, less, ge) in
      subst (λ (y : A). P i y) (sym (get_or_at xs x [] d i (long ∙ e))) (subst (λ (j : ℕ). P j x) e here)
]

pub longer_by_one : (A : Type 0) (xs : List A) (x : A) (n : ℕ) → length xs ≡ n → length (xs ++ x ∷ []) ≡ n + 1
longer_by_one A xs x n long = let app = length-append xs (x ∷ []) in omega (arith, app, long)
