-- The cells of two stops, or of two ranks, are two places.
use Rattle.std.proofs.Common.{◌≡◌, ◌≢◌, ◌<◌, ◌+◌, ◌*◌, ◌/◌, ◌%◌, ◌⊎◌, ℕ, inl, inr, arith}
use Rattle.std.proofs.lemmas.Bool.{cases_eq}
use Rattle.useful_minutes.proofs.FilledLabels.{one_stop}

pub cells_apart : (ranks p q j k : ℕ) → j < ranks → k < ranks → (p ≢ q) ⊎ (j ≢ k) →
    (p / 16 * ranks + j ≢ q / 16 * ranks + k) ⊎ (p % 16 ≢ q % 16)
cells_apart ranks p q j k l r apart = elim (cases_eq (p % 16) (q % 16)) [
  | inr ne ↦ inr ne
  | inl lane ↦ inl (λ e.
      let group = one_stop ranks (p / 16) (q / 16) j k l r e in
      elim apart [
        | inl other ↦ other (omega (arith, group, lane))
        | inr rank ↦
            let same : p / 16 * ranks + j ≡ p / 16 * ranks + k = rw (← group) at e in
            rank (omega (arith, same))
      ])
]
