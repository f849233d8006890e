-- Eight labels that are halved three times, as the lower or the higher of two, until one is left.
use Rattle.std.proofs.Common.{◌≡◌, ◌+◌, ◌-◌, ◌<◌, ◌≤◌, ◌⊎◌, inl, inr, ℕ, zero, suc, List, slice_index, min, max}
use Rattle.std.proofs.Common.{arith, refl, subst, sym, ◌∙◌}
use Rattle.std.proofs.lemmas.Bool.{cases_lt}

-- what holds of the first lanes

pub below_one : (P : ℕ → Type 0) → P 0 → (k : ℕ) → k < 1 → P k
below_one P a zero h = a
below_one P a (suc k) h = absurd (omega (arith, h))

pub below_two : (P : ℕ → Type 0) → P 0 → P 1 → (k : ℕ) → k < 2 → P k
below_two P a b zero h = a
below_two P a b (suc k) h = below_one (λ k. P (suc k)) b k (omega (arith, h))

pub below_four : (P : ℕ → Type 0) → P 0 → P 1 → P 2 → P 3 → (k : ℕ) → k < 4 → P k
below_four P a b c d zero h = a
below_four P a b c d (suc zero) h = b
below_four P a b c d (suc (suc k)) h = below_two (λ k. P (suc (suc k))) c d k (omega (arith, h))

-- each of n lanes bounds a lane and the one n lanes on, and is one of them
pub record AreHalved (R : ℕ → ℕ → Type 0) (n : ℕ) (whole half : List ℕ) : Type 0 where
  pub one : (k : ℕ) → k < n → R (slice_index half k) (slice_index whole k)
  pub other : (k : ℕ) → k < n → R (slice_index half k) (slice_index whole (n + k))
  pub either : (k : ℕ) → k < n →
      (slice_index half k ≡ slice_index whole k) ⊎ (slice_index half k ≡ slice_index whole (n + k))

pub lower_half : (n : ℕ) (whole turned half : List ℕ) → n ≤ 8 →
    ((k : ℕ) → k < n → slice_index turned k ≡ slice_index whole (n + k)) →
    ((k : ℕ) → k < 8 → slice_index half k ≡ min (slice_index whole k) (slice_index turned k)) →
    AreHalved (λ a b. a ≤ b) n whole half
lower_half n whole turned half few there lower =
    record {
      one = λ k h. let e = lower k (omega (arith, few, h)) in omega (arith, e);
      other = λ k h. let e = lower k (omega (arith, few, h)) in let t = there k h in omega (arith, e, t);
      either = λ k h. let e = lower k (omega (arith, few, h)) in let t = there k h in grind (arith, e, t);
    }

pub higher_half : (n : ℕ) (whole turned half : List ℕ) → n ≤ 8 →
    ((k : ℕ) → k < n → slice_index turned k ≡ slice_index whole (n + k)) →
    ((k : ℕ) → k < 8 → slice_index half k ≡ max (slice_index whole k) (slice_index turned k)) →
    AreHalved (λ a b. b ≤ a) n whole half
higher_half n whole turned half few there higher =
    record {
      one = λ k h. let e = higher k (omega (arith, few, h)) in omega (arith, e);
      other = λ k h. let e = higher k (omega (arith, few, h)) in let t = there k h in omega (arith, e, t);
      either = λ k h. let e = higher k (omega (arith, few, h)) in let t = there k h in grind (arith, e, t);
    }

module _ (R : ℕ → ℕ → Type 0) where
  -- what bounds each lane of the half bounds each of the whole
  bounds_whole : ((a b c : ℕ) → R a b → R b c → R a c) → (n : ℕ) (whole half : List ℕ) (x : ℕ) →
      AreHalved R n whole half → ((k : ℕ) → k < n → R x (slice_index half k)) →
      (k : ℕ) → k < n + n → R x (slice_index whole k)
  bounds_whole trans n whole half x halved each k h =
      elim (cases_lt k n) [
        | inl low ↦ trans _ _ _ (each k low) (halved.one k low)
        | inr high ↦
            let place : n + (k - n) ≡ k = omega (arith, high) in
            let lane : k - n < n = omega (arith, high, h) in
            subst (λ (i : ℕ). R x (slice_index whole i)) place
            (trans _ _ _ (each (k - n) lane) (halved.other (k - n) lane))
      ]

  -- and what is one of its lanes is one of the whole
  is_of_whole : (n : ℕ) (whole half : List ℕ) (x : ℕ) → AreHalved R n whole half →
      (k : ℕ) × (k < n) × (slice_index half k ≡ x) → (k : ℕ) × (k < n + n) × (slice_index whole k ≡ x)
  is_of_whole n whole half x halved found =
      elim (halved.either found.0 found.1) [
        | inl e ↦ (found.0, omega (arith, found.1), sym e ∙ found.2)
        | inr e ↦ (n + found.0, omega (arith, found.1), sym e ∙ found.2)
      ]

  -- the one that is left bounds all eight
  pub left_bounds : ((a : ℕ) → R a a) → ((a b c : ℕ) → R a b → R b c → R a c) → (row four two one : List ℕ) →
      AreHalved R 4 row four → AreHalved R 2 four two → AreHalved R 1 two one →
      (k : ℕ) → k < 8 → R (slice_index one 0) (slice_index row k)
  left_bounds self trans row four two one fours twos ones =
      bounds_whole trans 4 row four _ fours (bounds_whole trans 2 four two _ twos
      (bounds_whole trans 1 two one _ ones (below_one (λ k. R (slice_index one 0) (slice_index one k))
      (self (slice_index one 0)))))

  -- and is one of them
  pub left_is_one : (row four two one : List ℕ) → AreHalved R 4 row four → AreHalved R 2 four two →
      AreHalved R 1 two one → (k : ℕ) × (k < 8) × (slice_index row k ≡ slice_index one 0)
  left_is_one row four two one fours twos ones =
      is_of_whole 4 row four _ fours (is_of_whole 2 four two _ twos (is_of_whole 1 two one _ ones
      (0, omega arith, refl)))
