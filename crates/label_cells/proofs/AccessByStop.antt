-- Access is a sum over the stops, to which a stop without opportunities adds nothing.
use Rattle.std.proofs.Common.{◌≡◌, ◌≢◌, ◌≤◌, ◌+◌, ℕ, zero, suc, Bool, List, [], ◌∷◌, Option}
use Rattle.std.proofs.Common.{None, Some, length}
use Rattle.std.proofs.Common.{slice_index, slice_index_or, min, if◌then◌else◌, ap, refl, inl, inr, sym, ◌∙◌, arith}
use Rattle.std.specs.Prelude.{nat_le}
use Rattle.std.proofs.lemmas.Bool.{cases_eq, ne_eqb}
use Rattle.std.proofs.lemmas.Bool.Decides.{nat_tests}
use Rattle.rounds.specs.Table.{known_of}
use Rattle.shares.specs.Opportunities.{access_of, counted}
use Rattle.label_cells.specs.Sums.{sum_to}

sum_first : (f : ℕ → ℕ) (n : ℕ) → sum_to f (suc n) ≡ f 0 + sum_to (λ i. f (suc i)) n
sum_first f zero = omega arith
sum_first f (suc n) = let rest = sum_first f n in omega (arith, rest)

pub access_is_sum : (cs : List (Option ℕ)) (ns : List ℕ) (w : ℕ) → length cs ≡ length ns →
    access_of cs ns w ≡ sum_to (λ i. counted (slice_index_or cs i None) (slice_index ns i) w) (length cs)
access_is_sum [] ns w e = refl
access_is_sum (c ∷ cs) [] w e = absurd (omega (arith, e))
access_is_sum (c ∷ cs) (n ∷ ns) w e =
    let rest = access_is_sum cs ns w (omega (arith, e)) in
    let first = sum_first (λ i. counted (slice_index_or (c ∷ cs) i None) (slice_index (n ∷ ns) i) w) (length cs) in
    omega (arith, rest, first)

-- no opportunities count for nothing
none_counted : (c : Option ℕ) (n w : ℕ) → n ≡ 0 → counted c n w ≡ 0
none_counted None n w e = refl
none_counted (Some d) n w e = grind (arith, nat_tests, e)

pub counted_same : (c d : Option ℕ) (n w : ℕ) → (n ≢ 0 → c ≡ d) → counted c n w ≡ counted d n w
counted_same c d n w same = elim (cases_eq n 0) [
  | inl e ↦ none_counted c n w e ∙ sym (none_counted d n w e)
  | inr ne ↦ ap (λ (x : Option ℕ). counted x n w) (same ne)
]

-- a label is within a limit below NEVER just if its cell is within the limit
pub counted_known : (cell n limit : ℕ) → limit ≤ 4294967295 →
    (if nat_le cell (min limit 4294967294) then n else 0) ≡ counted (known_of cell) n limit
counted_known cell n limit few = elim (cases_eq cell 4294967295) [
  | inl never ↦ grind (arith, nat_tests, never)
  | inr some ↦
      let known : counted (known_of cell) n limit ≡ counted (Some cell) n limit =
      ap (λ (b : Bool). counted (if b then None else Some cell) n limit) (ne_eqb cell 4294967295 some) in
      let same : (if nat_le cell (min limit 4294967294) then n else 0) ≡ (if nat_le cell limit then n else 0) =
      grind (arith, nat_tests, some, few) in
      same ∙ sym known
]
