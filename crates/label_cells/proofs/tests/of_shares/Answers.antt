use Rattle.std.proofs.Common.{◌≡◌, ◌≢◌, ◌≤◌, ◌<◌, ◌+◌, ◌*◌, ◌∷◌, [], ℕ, zero, suc, List, length, slice_index, inr}
use Rattle.std.proofs.Common.{refl, arith}
use Rattle.std.proofs.lemmas.Bool.{cases_eq}
use Rattle.rounds.specs.Labels.{AreSince}
use Rattle.label_cells.proofs.tests.of_shares.Goals as goal

-- by cases on a number below two or three
both : (P : ℕ → Type 0) → P 0 → P 1 → (j : ℕ) → j < 2 → P j
both P a b zero l = a
both P a b (suc zero) l = b
both P a b (suc (suc j)) l = absurd (omega (arith, l))

each : (P : ℕ → Type 0) → P 0 → P 1 → P 2 → (j : ℕ) → j < 3 → P j
each P a b c zero l = a
each P a b c (suc zero) l = b
each P a b c (suc (suc zero)) l = c
each P a b c (suc (suc (suc j))) l = absurd (omega (arith, l))

one : (P : ℕ → Type 0) → P 0 → (j : ℕ) → j < 1 → P j
one P a zero l = a
one P a (suc j) l = absurd (omega (arith, l))

abbrev bases : List ℕ
bases = 0 ∷ 0 ∷ 0 ∷ []

abbrev searched : List ℕ
searched = 1 ∷ 2 ∷ 4 ∷ []

-- no label is earlier than its departure
since : (a b c : ℕ) → (a ≢ 65535 → 60 ≤ a) → (b ≢ 65535 → 120 ≤ b) → (c ≢ 65535 → 240 ≤ c) →
    AreSince (a ∷ b ∷ c ∷ []) bases searched 0
since a b c x y z = record {
  since = each (λ j. slice_index (a ∷ b ∷ c ∷ []) j ≢ 65535 →
      0 + 60 * slice_index searched j ≤ slice_index bases j + slice_index (a ∷ b ∷ c ∷ []) j)
      (λ ne. let h = x ne in omega (arith, h)) (λ ne. let h = y ne in omega (arith, h))
      (λ ne. let h = z ne in omega (arith, h));
}

pub cells_and_access-requires-clause-window : goal.cells_and_access-requires-clause-window
cells_and_access-requires-clause-window c = record {
  positions = record {
    plan = record {
      ascends = λ j l. both (λ i. slice_index searched i < slice_index searched (i + 1)) (omega arith) (omega arith) j
          (omega (arith, l));
      near = λ j l. inr (omega arith);
      within = each (λ j. slice_index searched j < 5) (omega arith) (omega arith) (omega arith);
      some = omega arith;
      last = refl;
    };
    few = omega arith;
    axis = omega arith;
    too = refl;
    before = each (λ j. slice_index bases j ≤ 0 + 60 * slice_index searched j) (omega arith) (omega arith)
        (omega arith);
    near = each (λ j. 0 + 60 * slice_index searched j ≤ slice_index bases j + 65535) (omega arith) (omega arith)
        (omega arith);
  };
  width = omega arith;
  space = omega arith;
  few = omega arith;
  numbers = both (λ p. slice_index (1 ∷ 0 ∷ []) p < 2) (omega arith) (omega arith);
  walks = one (λ i. _) (omega arith);
  seconds = one (λ i. _) (omega arith);
  since = both (λ p. _) (since 65535 65535 65535 (λ ne. absurd (ne refl)) (λ ne. absurd (ne refl))
      (λ ne. absurd (ne refl))) (since 130 65535 320 (λ ne. omega arith) (λ ne. absurd (ne refl)) (λ ne. omega arith));
}
