-- Law 1: a walk that does not change with the minute comes last.
use Rattle.std.proofs.Common.{◌≡◌, ◌≤◌, ◌<◌, ℕ, zero, suc, Option, Some, None, ap, arith}
use Rattle.std.proofs.Common.{refl, inl, inr, if◌then◌else◌, min}
use Rattle.std.proofs.lemmas.Bool.{cases_lt}
use Rattle.std.proofs.lemmas.Bool.Decides.{nat_tests}
use Rattle.shares.specs.Percentiles.{is_within, minutes_within}
use Rattle.rounds.specs.Labels.{lesser}
use Rattle.label_cells.specs.Durations.{IsCellOf}

abbrev adds : ℕ → Option ℕ → ℕ
adds d x = if is_within d x then 1 else 0

same_without : (x : Option ℕ) (d : ℕ) → adds d (lesser x None) ≡ adds d x
same_without None d = refl
same_without (Some x) d = refl

same_below : (x : Option ℕ) (walk d : ℕ) → d < walk → adds d (lesser x (Some walk)) ≡ adds d x
same_below None walk d l = grind (arith, nat_tests)
same_below (Some x) walk d l = grind (arith, nat_tests)

all_above : (x : Option ℕ) (walk d : ℕ) → walk ≤ d → adds d (lesser x (Some walk)) ≡ 1
all_above None walk d l = grind (arith, nat_tests)
all_above (Some x) walk d l = grind (arith, nat_tests)

module _ (ds : ℕ → Option ℕ) where
  count_without : (d n : ℕ) → minutes_within (λ m. lesser (ds m) None) d n ≡ minutes_within ds d n
  count_without d zero = refl
  count_without d (suc n) = let rest = count_without d n in let here = same_without (ds n) d in omega (
    arith,
    rest,
    here,
  )

  count_below : (walk d n : ℕ) → d < walk → minutes_within (λ m. lesser (ds m) (Some walk)) d n ≡ minutes_within ds d n
  count_below walk d zero l = refl
  count_below walk d (suc n) l = let rest = count_below walk d n l in let here = same_below (ds n) walk d l in
      omega (arith, rest, here)

  count_above : (walk d n : ℕ) → walk ≤ d → minutes_within (λ m. lesser (ds m) (Some walk)) d n ≡ n
  count_above walk d zero l = refl
  count_above walk d (suc n) l = let rest = count_above walk d n l in let here = all_above (ds n) walk d l in
      omega (arith, rest, here)

  pub cell_walked : (n rank : ℕ) (cell walk : Option ℕ) → rank ≤ n → IsCellOf ds n rank cell →
      IsCellOf (λ m. lesser (ds m) walk) n rank (lesser cell walk)
  cell_walked n rank None None few is = λ d a. is d (let e = count_without d n in omega (arith, e, a))
  cell_walked n rank (Some c) None few is = record {
    holds = (let e = count_without c n in let h = is.holds in omega (arith, e, h));
    least = λ d a. is.least d (let e = count_without d n in omega (arith, e, a));
  }
  cell_walked n rank None (Some walk) few is = record {
    holds = (let e = count_above walk walk n (omega arith) in omega (arith, e, few));
    least = λ d a. elim (cases_lt d walk) [
      | inr g ↦ g
      | inl l ↦ absurd (is d (let e = count_below walk d n l in omega (arith, e, a)))
    ];
  }
  cell_walked n rank (Some c) (Some walk) few is = record {
    holds = elim (cases_lt c walk) [
      | inl l ↦
          let e = count_below walk (min c walk) n (omega (arith, l)) in
          let same = ap (λ (k : ℕ). minutes_within ds k n) (let e : min c walk ≡ c = omega (arith, l) in e) in
          let h = is.holds in
          omega (arith, e, same, h)
      | inr g ↦ let e = count_above walk (min c walk) n (omega (arith, g)) in omega (arith, e, few)
    ];
    least = λ d a. elim (cases_lt d walk) [
      | inr g ↦ omega (arith, g)
      | inl l ↦ let low = is.least d (let e = count_below walk d n l in omega (arith, e, a)) in omega (arith, low)
    ];
  }
