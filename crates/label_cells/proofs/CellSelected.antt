-- Law 4: two counts that a rank lies between say which duration is the cell; and law 5: how halving keeps them.
use Rattle.std.proofs.Common.{◌≡◌, ◌≢◌, ◌≤◌, ◌<◌, ◌+◌, ◌*◌, ◌-◌, ℕ, zero, suc, Option, Some, None, ap, arith, refl}
use Rattle.std.proofs.Common.{inl, inr}
use Rattle.std.proofs.Common.{subst, ◌∙◌, ◌^◌, if◌then◌else◌}
use Rattle.std.proofs.lemmas.Grind.{pow_more}
use Rattle.std.proofs.lemmas.Bool.{cases_lt, cases_eq}
use Rattle.std.proofs.lemmas.Bool.Decides.{nat_tests}
use Rattle.shares.specs.Percentiles.{is_within, minutes_within}
use Rattle.label_cells.specs.Sums.{sum_to}
use Rattle.label_cells.specs.Runs.{IsRun, AreRuns, IsSplitRun, Brackets, below, covered, under, cover}
use Rattle.label_cells.specs.Durations.{IsCellOf}
use Rattle.label_cells.proofs.SumsOfPlaces.{sum_same, sum_adds}
use Rattle.shares.proofs.MinutesCounted.{count_split}
use Rattle.shares.proofs.MinutesWithinLimits.{count_more}
use Rattle.label_cells.proofs.RunsCounted.{runs_counted, none_counted}

within_one : (x : Option ℕ) (d : ℕ) → (if is_within d x then 1 else 0) ≤ 1
within_one None d = omega arith
within_one (Some x) d = grind (arith, nat_tests)

count_few : (ds : ℕ → Option ℕ) (d n : ℕ) → minutes_within ds d n ≤ n
count_few ds d zero = omega arith
count_few ds d (suc n) = let rest = count_few ds d n in let here = within_one (ds n) d in omega (arith, rest, here)

run_few : (ds : ℕ → Option ℕ) (from d low shortest span whole rest reached : ℕ) → IsRun ds from shortest span →
    IsSplitRun low shortest span whole rest reached → minutes_within (λ l. ds (from + l)) d span ≤ reached
run_few ds from d low shortest span whole rest reached run part = elim (cases_eq shortest 65535) [
  | inl never ↦ let none = none_counted (λ l. ds (from + l)) d span (run.never never) in omega (arith, none)
  | inr some ↦
      let same = part.spans some in
      let few = count_few (λ l. ds (from + l)) d span in
      omega (arith, same, few)
]

next_part : (to whole rest reached : ℕ) → rest < 60 →
    below (to + 1) whole reached ≡ below to whole reached + covered to 60 whole rest reached
next_part to whole rest reached less = grind (arith, nat_tests)

no_seconds : (to whole rest reached : ℕ) → covered to 0 whole rest reached ≡ 0
no_seconds to whole rest reached = grind (arith, nat_tests)

all_seconds : (to seconds whole rest reached : ℕ) → rest < 60 → 60 ≤ seconds →
    covered to seconds whole rest reached ≡ covered to 60 whole rest reached
all_seconds to seconds whole rest reached less most = grind (arith, nat_tests)

-- of the parts alone
module _ (runs : ℕ) (whole rest reached : ℕ → ℕ) (less : (i : ℕ) → i < runs → rest i < 60) where
  pub under_none : (n : ℕ) → under whole reached n 0 ≡ 0
  under_none zero = refl
  under_none (suc n) = let before = under_none n in omega (arith, before)

  pub under_all : (to : ℕ) → ((i : ℕ) → i < runs → reached i ≢ 0 → whole i + reached i ≤ to) →
      under whole reached runs to ≡ sum_to reached runs
  under_all to top = sum_same (λ i. below to (whole i) (reached i)) reached runs (λ i l. elim (cases_eq (reached i) 0) [
    | inl e ↦ omega (arith, e)
    | inr ne ↦ let h = top i l ne in omega (arith, h)
  ])

  pub under_next : (to : ℕ) → under whole reached runs (to + 1) ≡ under whole reached runs to + cover whole rest
      reached runs to 60
  under_next to = sum_same (λ i. below (to + 1) (whole i) (reached i))
      (λ i. below to (whole i) (reached i) + covered to 60 (whole i) (rest i) (reached i)) runs
      (λ i l. next_part to (whole i) (rest i) (reached i) (less i l))
      ∙ sum_adds (λ i. below to (whole i) (reached i)) (λ i. covered to 60 (whole i) (rest i) (reached i)) runs

  pub cover_none : (to n : ℕ) → cover whole rest reached n to 0 ≡ 0
  cover_none to zero = refl
  cover_none to (suc n) =
      let before = cover_none to n in
      let here = no_seconds to (whole n) (rest n) (reached n) in
      omega (arith, before, here)

  pub cover_all : (to seconds : ℕ) → 60 ≤ seconds →
      cover whole rest reached runs to seconds ≡ cover whole rest reached runs to 60
  cover_all to seconds most = sum_same (λ i. covered to seconds (whole i) (rest i) (reached i))
      (λ i. covered to 60 (whole i) (rest i) (reached i)) runs
      (λ i l. all_seconds to seconds (whole i) (rest i) (reached i) (less i l) most)

  -- before the seconds are halved
  pub seconds_first : (to rank : ℕ) → under whole reached runs to < rank → rank ≤ under whole reached runs (to + 1) →
      Brackets (cover whole rest reached runs to) (rank - under whole reached runs to) 0 64
  seconds_first to rank low high = record {
    low = (let none = cover_none to runs in omega (arith, none, low));
    high = (
        let next = under_next to in
        let all = cover_all to 64 (omega arith) in
        omega (arith, next, all, high));
  }

  -- and after
  pub seconds_few : (to left seconds : ℕ) → Brackets (cover whole rest reached runs to) left seconds 1 → seconds < 60
  seconds_few to left seconds is = elim (cases_lt seconds 60) [
    | inl l ↦ l
    | inr g ↦
        let here = cover_all to seconds g in
        let next = cover_all to (seconds + 1) (omega (arith, g)) in
        absurd (omega (arith, here, next, is.low, is.high))
  ]

-- law 5
pub halved_up : (count : ℕ → ℕ) (rank value step half : ℕ) → step ≡ half + half → Brackets count rank value step →
    count (value + half) < rank → Brackets count rank (value + half) half
halved_up count rank value step half e is up = record {
  low = up;
  high = (let same = ap count (let e : value + step ≡ value + half + half = omega (arith, e) in e) in
      omega (arith, same, is.high));
}

pub halved_down : (count : ℕ → ℕ) (rank value step half : ℕ) → Brackets count rank value step →
    rank ≤ count (value + half) → Brackets count rank value half
halved_down count rank value step half is down = record { low = is.low; high = down }

-- from bit to bit
module _ (n k half : ℕ) (l : k < n) (is : half ≡ 2 ^ (n - 1 - k)) where
  half_next : half ≡ 2 ^ (n - (k + 1))
  half_next = is ∙ ap (λ (b : ℕ). 2 ^ b) (let e : n - 1 - k ≡ n - (k + 1) = omega arith in e)

  pub half_both : 2 ^ (n - k) ≡ half + half
  half_both =
      let e = ap (λ (b : ℕ). 2 ^ b) (let e : n - k ≡ n - (k + 1) + 1 = omega (arith, l) in e) in
      let more = pow_more 2 (n - (k + 1)) in
      let h = half_next in
      omega (arith, e, more, h)

  pub bit_up : (count : ℕ → ℕ) (rank value : ℕ) → Brackets count rank value (2 ^ (n - k)) → count (value + half) <
      rank →
      Brackets count rank (value + half) (2 ^ (n - (k + 1)))
  bit_up count rank value old up = subst (λ (h : ℕ). Brackets count rank (value + half) h) half_next
      (halved_up count rank value (2 ^ (n - k)) half half_both old up)

  pub bit_down : (count : ℕ → ℕ) (rank value : ℕ) → Brackets count rank value (2 ^ (n - k)) → rank ≤ count (value +
      half) →
      Brackets count rank value (2 ^ (n - (k + 1)))
  bit_down count rank value old down = subst (λ (h : ℕ). Brackets count rank value h) half_next
      (halved_down count rank value (2 ^ (n - k)) half old down)

  -- the value stays as low
  pub few_up : (value most : ℕ) → value + 2 ^ (n - k) ≤ most → value + half + 2 ^ (n - (k + 1)) ≤ most
  few_up value most few = let both = half_both in let h = half_next in omega (arith, few, both, h)

  pub few_down : (value most : ℕ) → value + 2 ^ (n - k) ≤ most → value + 2 ^ (n - (k + 1)) ≤ most
  few_down value most few = let both = half_both in let h = half_next in omega (arith, few, both, h)

module _ (ds : ℕ → Option ℕ) (minutes low runs : ℕ) (shortest span whole rest reached : ℕ → ℕ)
    (are : AreRuns ds minutes shortest span runs)
    (parts : (i : ℕ) → i < runs → IsSplitRun low (shortest i) (span i) (whole i) (rest i) (reached i)) where
  first_few : (d n : ℕ) → n ≤ runs → minutes_within ds d (sum_to span n) ≤ sum_to reached n
  first_few d zero h = omega arith
  first_few d (suc n) h =
      let before = first_few d n (omega (arith, h)) in
      let split = count_split ds d (sum_to span n) (span n) in
      let here = run_few ds (sum_to span n) d low (shortest n) (span n) (whole n) (rest n) (reached n)
      (are.each n (omega (arith, h))) (parts n (omega (arith, h))) in
      omega (arith, before, split, here)

  -- at most as many minutes have a duration as the runs that reach the stop have
  pub few_known : (d : ℕ) → minutes_within ds d minutes ≤ sum_to reached runs
  few_known d =
      let e = ap (λ (n : ℕ). minutes_within ds d n) are.all in
      let few = first_few d runs (omega arith) in
      omega (arith, e, few)

  pub no_cell : (rank : ℕ) → sum_to reached runs < rank → IsCellOf ds minutes rank None
  no_cell rank fewer d a = let few = few_known d in omega (arith, fewer, few, a)

  -- law 4
  pub selected : (rank to seconds : ℕ) → seconds < 60 →
      Brackets (cover whole rest reached runs to) (rank - under whole reached runs to) seconds 1 →
      under whole reached runs to < rank → IsCellOf ds minutes rank (Some (60 * (low + to) + seconds))
  selected rank to seconds few is some =
      let cell = 60 * (low + to) + seconds in
      record {
        holds = (
            let c = runs_counted ds minutes low runs shortest span whole rest reached are parts to (seconds + 1) cell
            (omega (arith, few)) (omega arith) in
            omega (arith, c, is.high, some));
        least = λ d a. elim (cases_lt d cell) [
          | inr g ↦ g
          | inl l ↦
              let c = runs_counted ds minutes low runs shortest span whole rest reached are parts to seconds (cell - 1)
              (omega (arith, few)) (omega (arith, l)) in
              let more = count_more ds minutes d (cell - 1) (omega (arith, l)) in
              absurd (omega (arith, c, more, a, is.low, some))
        ];
      }
