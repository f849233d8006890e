-- One lane of sums and differences of vectors, of n lanes of 16 bits.
use Rattle.std.proofs.Common.{◌≡◌, ℕ, ◌+◌, ◌-◌, ◌*◌, ◌/◌, ◌%◌, ◌<◌, ◌≤◌, cond, ltb, min, max, List, length, get_or}
use Rattle.std.proofs.Common.{replicate}
use Rattle.std.proofs.Common.{sym, ◌∙◌, ap, arith}
use Rattle.std.proofs.lemmas.Simd.{get_or-zip2, length-zip2, get_or-replicate, length-replicate}
use Rattle.std.proofs.lemmas.Bool.Decides.{nat_tests}
use Rattle.trip_lanes.proofs.VectorChoices.{chosen, length-chosen, higher_at, smaller_at}
use Rattle.label_cells.specs.Runs.{below, covers}
use lib.Lanes.{zip2}
use mir.Syntax.{w16}

abbrev pub plus : ℕ → ℕ → ℕ
plus a b = (a + b) % 65536

abbrev pub minus : ℕ → ℕ → ℕ
minus a b = (a + (65536 - b)) % 65536

pub minus_is : (a b : ℕ) → b ≤ a → a < 65536 → minus a b ≡ a - b
minus_is a b le lt = omega arith

above_is : (a b : ℕ) → a < 65536 → b < 65536 → minus (max a b) b ≡ a - b
above_is a b la lb = omega arith

module _ (n : ℕ) where
  pub plus_at : (xs ys : List ℕ) (l : ℕ) → l < n → length xs ≡ n → length ys ≡ n →
      get_or xs l 0 + get_or ys l 0 < 65536 → get_or (zip2 plus xs ys) l 0 ≡ get_or xs l 0 + get_or ys l 0
  plus_at xs ys l h xl yl fits = get_or-zip2 plus xs ys l 0 0 0 (omega (arith, xl)) (omega (arith, yl)) ∙ omega arith

  pub minus_at : (xs ys : List ℕ) (l : ℕ) → l < n → length xs ≡ n → length ys ≡ n →
      get_or (zip2 minus xs ys) l 0 ≡ minus (get_or xs l 0) (get_or ys l 0)
  minus_at xs ys l h xl yl = get_or-zip2 minus xs ys l 0 0 0 (omega (arith, xl)) (omega (arith, yl))

  -- a difference that stops at 0
  abbrev pub less_by : List ℕ → List ℕ → List ℕ
  less_by xs ys = zip2 minus (chosen w16 ltb xs ys ys xs) ys

  pub length-less_by : (xs ys : List ℕ) → length xs ≡ n → length ys ≡ n → length (less_by xs ys) ≡ n
  length-less_by xs ys xl yl =
      let long = length-chosen w16 n ltb xs ys ys xs xl yl yl xl in
      length-zip2 minus (chosen w16 ltb xs ys ys xs) ys (long ∙ sym yl) ∙ long

  pub less_by_at : (xs ys : List ℕ) (l : ℕ) → l < n → length xs ≡ n → length ys ≡ n →
      get_or xs l 0 < 65536 → get_or ys l 0 < 65536 → get_or (less_by xs ys) l 0 ≡ get_or xs l 0 - get_or ys l 0
  less_by_at xs ys l h xl yl xf yf =
      let long = length-chosen w16 n ltb xs ys ys xs xl yl yl xl in
      minus_at (chosen w16 ltb xs ys ys xs) ys l h long yl
      ∙ (ap (λ (a : ℕ). minus a (get_or ys l 0)) (higher_at w16 n xs ys l h xl yl)
      ∙ above_is (get_or xs l 0) (get_or ys l 0) xf yf)

  -- law 3 in one lane
  pub below_at : (to whole span : List ℕ) (l : ℕ) → l < n → length to ≡ n → length whole ≡ n → length span ≡ n →
      get_or to l 0 < 65536 → get_or whole l 0 < 65536 →
      get_or (chosen w16 ltb (less_by to whole) span (less_by to whole) span) l 0
      ≡ below (get_or to l 0) (get_or whole l 0) (get_or span l 0)
  below_at to whole span l h tl wl sl tf wf =
      smaller_at w16 n (less_by to whole) span l h (length-less_by to whole tl wl) sl
      ∙ ap (λ (a : ℕ). min a (get_or span l 0)) (less_by_at to whole l h tl wl tf wf)

  pub length-below : (to whole span : List ℕ) → length to ≡ n → length whole ≡ n → length span ≡ n →
      length (chosen w16 ltb (less_by to whole) span (less_by to whole) span) ≡ n
  length-below to whole span tl wl sl =
      let long = length-less_by to whole tl wl in
      length-chosen w16 n ltb (less_by to whole) span (less_by to whole) span long sl long sl

-- a run that covers a minute, where the difference may wrap
pub covers_wrapped : (at seconds whole rest span : ℕ) → at < 4096 → whole ≤ 1092 → span ≤ 1440 → seconds ≤ 64 →
    ltb (cond (ltb (minus at whole) span) rest 127) seconds ≡ covers at seconds whole rest span
covers_wrapped at seconds whole rest span low few fewer less = grind (arith, nat_tests)

abbrev pub times : ℕ → ℕ → ℕ
times a b = (a * b) % 65536

abbrev pub over : ℕ → ℕ → ℕ
over a b = a / b

rest_is : (shortest whole : ℕ) → whole ≡ shortest / 60 → shortest ≤ 65535 → minus shortest (times whole 60) ≡
    shortest - 60 * whole
rest_is shortest whole is fits = omega (arith, is)

module _ (n : ℕ) where
  pub over_at : (xs : List ℕ) (y l : ℕ) → l < n → length xs ≡ n →
      get_or (zip2 over xs (replicate n y)) l 0 ≡ get_or xs l 0 / y
  over_at xs y l h xl =
      get_or-zip2 over xs (replicate n y) l 0 0 0 (omega (arith, xl)) (let e = length-replicate {A = ℕ} n y in omega
      (arith, e))
      ∙ ap (λ (k : ℕ). get_or xs l 0 / k) (get_or-replicate {A = ℕ} n l y 0 h)

  pub rest_at : (shortest whole : List ℕ) (l : ℕ) → l < n → length shortest ≡ n → length whole ≡ n →
      get_or whole l 0 ≡ get_or shortest l 0 / 60 → get_or shortest l 0 ≤ 65535 →
      get_or (zip2 minus shortest (zip2 times whole (replicate n 60))) l 0 ≡ get_or shortest l 0 - 60 * get_or whole l 0
  rest_at shortest whole l h ll wl is fits =
      let sixty = replicate {A = ℕ} n 60 in
      let sl : length (replicate {A = ℕ} n 60) ≡ n = length-replicate {A = ℕ} n 60 in
      let long : length (zip2 times whole (replicate n 60)) ≡ n = length-zip2 times whole (replicate n 60) (wl ∙ sym
      sl) ∙ wl in
      let mul : get_or (zip2 times whole (replicate n 60)) l 0 ≡ times (get_or whole l 0) 60 =
      get_or-zip2 times whole (replicate n 60) l 0 0 0 (omega (arith, wl)) (omega (arith, sl))
      ∙ ap (λ (k : ℕ). times (get_or whole l 0) k) (get_or-replicate {A = ℕ} n l 60 0 h) in
      minus_at n shortest (zip2 times whole (replicate n 60)) l h ll long
      ∙ (ap (λ (k : ℕ). minus (get_or shortest l 0) k) mul ∙ rest_is (get_or shortest l 0) (get_or whole l 0) is fits)
