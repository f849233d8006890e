-- Groups that are marked one after another.
use Rattle.std.proofs.Common.{◌≡◌, ◌<◌, ◌+◌, ◌/◌, ℕ, Bool, true, false, List, length, slice_index_or, inl, inr}
use Rattle.std.proofs.Common.{subst, ◌∙◌, arith}
use Rattle.std.proofs.Math.ListN.{set}
use Rattle.std.proofs.lemmas.Bool.{cases_eq, cases_lt}
use Rattle.std.proofs.lemmas.List.{get_or-set_same, get_or-set_other}
use Rattle.label_cells.specs.Groups.{is_used}

pub marked : (used : List Bool) (q : ℕ) → q / 16 < length used → is_used (set used (q / 16) true) q
marked used q less = get_or-set_same used (q / 16) true false less

pub still_used : (used : List Bool) (g q : ℕ) → g < length used → is_used used q → is_used (set used g true) q
still_used used g q less was = elim (cases_eq (q / 16) g) [
  | inl e ↦ subst (λ (i : ℕ). slice_index_or (set used i true) (q / 16) false ≡ true) e
      (get_or-set_same used (q / 16) true false (omega (arith, e, less)))
  | inr ne ↦ get_or-set_other used g (q / 16) true false ne ∙ was
]

-- after the stops before the k-th, the k-th
pub mark_one : (used : List Bool) (q : ℕ → ℕ) (k : ℕ) → q k / 16 < length used →
    ((j : ℕ) → j < k → is_used used (q j)) → (j : ℕ) → j < k + 1 → is_used (set used (q k / 16) true) (q j)
mark_one used q k there before j l = elim (cases_lt j k) [
  | inl lt ↦ still_used used (q k / 16) (q j) there (before j lt)
  | inr ge ↦
      let e : k ≡ j = omega (arith, ge, l) in
      subst (λ (i : ℕ). is_used (set used (q k / 16) true) (q i)) e (marked used (q k) there)
]
