-- Law 3: the minutes of runs are counted in closed form.
use Rattle.std.proofs.Common.{◌≡◌, ◌≤◌, ◌<◌, ◌+◌, ◌*◌, ◌-◌, ℕ, zero, suc, Option, Some, None, ap, arith, refl, inl, inr}
use Rattle.std.proofs.Common.{sym, ◌∙◌, if◌then◌else◌}
use Rattle.std.proofs.lemmas.Bool.{cases_eq}
use Rattle.std.proofs.lemmas.Bool.Decides.{nat_tests}
use Rattle.shares.specs.Percentiles.{is_within, minutes_within}
use Rattle.shares.proofs.MinutesCounted.{count_split}
use Rattle.label_cells.specs.Sums.{sum_to}
use Rattle.label_cells.specs.Runs.{IsRun, AreRuns, IsSplitRun, below, covered, under, cover}

abbrev adds : ℕ → Option ℕ → ℕ
adds d x = if is_within d x then 1 else 0

-- the last minute of a run more
one_more : (to seconds low d whole rest w : ℕ) → rest < 60 → seconds ≤ 60 → d + 1 ≡ 60 * (low + to) + seconds →
    below to (whole + 1) w + covered to seconds (whole + 1) rest w + adds d (Some (60 * (low + whole) + rest))
    ≡ below to whole (suc w) + covered to seconds whole rest (suc w)
one_more to seconds low d whole rest w less few is = grind (arith, nat_tests)

none_yet : (to seconds whole rest : ℕ) → below to whole 0 + covered to seconds whole rest 0 ≡ 0
none_yet to seconds whole rest = grind (arith, nat_tests)

-- the minutes of one run, given the whole minutes and the seconds of its last duration
run_counted : (ds : ℕ → Option ℕ) (to seconds low d rest : ℕ) → rest < 60 → seconds ≤ 60 →
    d + 1 ≡ 60 * (low + to) + seconds → (w whole : ℕ) →
    ((l : ℕ) → l < w → ds l ≡ Some (60 * (low + whole) + rest + 60 * (w - 1 - l)))
    → minutes_within ds d w ≡ below to whole w + covered to seconds whole rest w
run_counted ds to seconds low d rest less few is zero whole counted = sym (none_yet to seconds whole rest)
run_counted ds to seconds low d rest less few is (suc w) whole counted =
    let before = run_counted ds to seconds low d rest less few is w (whole + 1)
    (λ l h. counted l (omega (arith, h)) ∙ ap Some (let e : 60 * (low + whole) + rest + 60 * (suc w - 1 - l) ≡
    60 * (low + (whole + 1)) + rest + 60 * (w - 1 - l) = omega (arith, h) in e)) in
    let last : ds w ≡ Some (60 * (low + whole) + rest) = counted w (omega arith) ∙ ap Some (let e : 60 * (low +
    whole) + rest + 60 * (suc w - 1 - w) ≡ 60 * (low + whole) + rest = omega arith in e) in
    let here : adds d (ds w) ≡ adds d (Some (60 * (low + whole) + rest)) = ap (adds d) last in
    let more = one_more to seconds low d whole rest w less few is in
    omega (arith, before, here, more)

pub none_counted : (ds : ℕ → Option ℕ) (d w : ℕ) → ((l : ℕ) → l < w → ds l ≡ None) → minutes_within ds d w ≡ 0
none_counted ds d zero none = refl
none_counted ds d (suc w) none =
    let before = none_counted ds d w (λ l h. none l (omega (arith, h))) in
    let here : adds d (ds w) ≡ 0 = ap (adds d) (none w (omega arith)) in
    omega (arith, before, here)

-- of a run as it is split
part_counted : (ds : ℕ → Option ℕ) (from to seconds low d shortest span whole rest reached : ℕ) → seconds ≤ 60 →
    d + 1 ≡ 60 * (low + to) + seconds → IsRun ds from shortest span → IsSplitRun low shortest span whole rest reached →
    minutes_within (λ l. ds (from + l)) d span ≡ below to whole reached + covered to seconds whole rest reached
part_counted ds from to seconds low d shortest span whole rest reached few is run part = elim (cases_eq shortest
    65535) [
      | inl never ↦
          let none = none_counted (λ l. ds (from + l)) d span (run.never never) in
          let e = part.never never in
          let dead : below to whole reached + covered to seconds whole rest reached ≡ 0 =
          ap (λ (n : ℕ). below to whole n + covered to seconds whole rest n) e ∙ none_yet to seconds whole rest in
          none ∙ sym dead
      | inr some ↦
          let e = part.counted some in
          let same : span ≡ reached = sym (part.spans some) in
          run_counted (λ l. ds (from + l)) to seconds low d rest part.less few is span whole
          (λ l h. run.counted some l h ∙ ap Some (let sum : shortest + 60 * (span - 1 - l) ≡
          60 * (low + whole) + rest + 60 * (span - 1 - l) = omega (arith, e) in sum))
          ∙ ap (λ (n : ℕ). below to whole n + covered to seconds whole rest n) same
    ]

module _ (ds : ℕ → Option ℕ) (minutes low runs : ℕ) (shortest span whole rest reached : ℕ → ℕ)
    (are : AreRuns ds minutes shortest span runs)
    (parts : (i : ℕ) → i < runs → IsSplitRun low (shortest i) (span i) (whole i) (rest i) (reached i)) where
  -- of the first runs
  first_counted : (to seconds d n : ℕ) → seconds ≤ 60 → d + 1 ≡ 60 * (low + to) + seconds → n ≤ runs →
      minutes_within ds d (sum_to span n) ≡ under whole reached n to + cover whole rest reached n to seconds
  first_counted to seconds d zero few is h = refl
  first_counted to seconds d (suc n) few is h =
      let before = first_counted to seconds d n few is (omega (arith, h)) in
      let split = count_split ds d (sum_to span n) (span n) in
      let here = part_counted ds (sum_to span n) to seconds low d (shortest n) (span n) (whole n) (rest n) (reached n)
      few is (are.each n (omega (arith, h))) (parts n (omega (arith, h))) in
      omega (arith, before, split, here)

  -- law 3: of all
  pub runs_counted : (to seconds d : ℕ) → seconds ≤ 60 → d + 1 ≡ 60 * (low + to) + seconds →
      minutes_within ds d minutes ≡ under whole reached runs to + cover whole rest reached runs to seconds
  runs_counted to seconds d few is = ap (λ (n : ℕ). minutes_within ds d n) (sym are.all)
      ∙ first_counted to seconds d runs few is (omega arith)
