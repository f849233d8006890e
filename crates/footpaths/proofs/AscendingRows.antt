-- Rows whose targets ascend.
use Rattle.std.proofs.Common.{◌≡◌, ◌<◌, ◌≤◌, ◌+◌, ◌⊎◌, inl, inr, ℕ, zero, suc, List, [], ◌∷◌, length, arith, refl, sym}
use Rattle.std.proofs.Common.{◌∙◌, ap, Some, slice_get, get_or, sum_by, subst}
use Rattle.std.proofs.lemmas.Bool.{cases_order}
use Rattle.std.proofs.lemmas.Option.{same_Some, slice_get_within}
use Rattle.std.proofs.lemmas.List.Sums.{sum_by-cons}
use Rattle.timetable.specs.declared.trips.StopNo.{StopNo}
use Rattle.footpaths.specs.Closure.{Ascends}

-- the row has this foot
abbrev pub At : List (StopNo × ℕ) → StopNo × ℕ → Type 0
At row x = (k : ℕ) × (slice_get row k ≡ Some x)

pub At-split : (y x : StopNo × ℕ) (ys : List (StopNo × ℕ)) → At (y ∷ ys) x → (At ys x) ⊎ (x ≡ y)
At-split y x ys c = go c.0 c.1
  where
    go : (k : ℕ) → slice_get (y ∷ ys) k ≡ Some x → (At ys x) ⊎ (x ≡ y)
    go zero e = inr (sym (same_Some y x e))
    go (suc k) e = inl (k, e)

pub At-front : (x : StopNo × ℕ) (xs : List (StopNo × ℕ)) → At (x ∷ xs) x
At-front x xs = (0, refl)

pub At-later : (y x : StopNo × ℕ) (xs : List (StopNo × ℕ)) → At xs x → At (y ∷ xs) x
At-later y x xs c = (suc c.0, c.1)

pub At-none : (x : StopNo × ℕ) → At [] x → ⊥
At-none x c = let w = slice_get_within [] c.0 x c.1 in omega (arith, w)

pub tail_ascends : (y : StopNo × ℕ) (ys : List (StopNo × ℕ)) → Ascends (y ∷ ys) → Ascends ys
tail_ascends y ys h = λ k p q e f. h (suc k) p q e (ap (slice_get (y ∷ ys)) (one_more k) ∙ f)
  where
    one_more : (k : ℕ) → suc k + 1 ≡ suc (k + 1)
    one_more k = omega arith

-- the first target is below all others
pub first_below : (y x : StopNo × ℕ) (ys : List (StopNo × ℕ)) → Ascends (y ∷ ys) → At ys x → y.0.0 < x.0.0
first_below y x [] h c = absurd (At-none x c)
first_below y x (w ∷ ws) h c =
    let step : y.0.0 < w.0.0 = h 0 y w refl refl in
    elim (At-split w x ws c) [
      | inl later ↦ let more = first_below w x ws (tail_ascends y (w ∷ ws) h) later in omega (arith, step, more)
      | inr e ↦ subst (λ (z : StopNo × ℕ). y.0.0 < z.0.0) (sym e) step
    ]

key : (x y : StopNo × ℕ) → x ≡ y → x.0.0 ≡ y.0.0
key x y e = ap (λ (z : StopNo × ℕ). z.0.0) e

-- what is in the row but isn't its first comes later
later_of : (x y : StopNo × ℕ) (ys : List (StopNo × ℕ)) → At (y ∷ ys) x → y.0.0 < x.0.0 → At ys x
later_of x y ys c l = elim (At-split y x ys c) [
  | inl later ↦ later
  | inr e ↦ let k = key x y e in absurd (omega (arith, l, k))
]

-- nothing in the row is below its first
not_below : (x y : StopNo × ℕ) (ys : List (StopNo × ℕ)) → Ascends (y ∷ ys) → At (y ∷ ys) x → x.0.0 < y.0.0 → ⊥
not_below x y ys h c l = elim (At-split y x ys c) [
  | inl later ↦ let m = first_below y x ys h later in omega (arith, l, m)
  | inr e ↦ let k = key x y e in omega (arith, l, k)
]

first_of_two : (x y : StopNo × ℕ) (ys : List (StopNo × ℕ)) → Ascends (y ∷ ys) → At (y ∷ ys) x → x.0.0 ≡ y.0.0 → x ≡ y
first_of_two x y ys h c k = elim (At-split y x ys c) [
  | inl later ↦ let m = first_below y x ys h later in absurd (omega (arith, k, m))
  | inr e ↦ e
]

-- of the tails, where the firsts have one target
tails : (x y : StopNo × ℕ) (xs ys : List (StopNo × ℕ)) → Ascends (x ∷ xs) → x.0.0 ≡ y.0.0
    → ((z : StopNo × ℕ) → At (x ∷ xs) z → At (y ∷ ys) z) → (z : StopNo × ℕ) → At xs z → At ys z
tails x y xs ys h k into z c = let m = first_below x z xs h c in
    later_of z y ys (into z (At-later x z xs c)) (omega (arith, k, m))

-- a row within another is no longer
pub no_longer : (xs ys : List (StopNo × ℕ)) → Ascends xs → Ascends ys → ((z : StopNo × ℕ) → At xs z → At ys z) →
    length xs ≤ length ys
no_longer [] ys h g into = omega arith
no_longer (x ∷ xs) [] h g into = absurd (At-none x (into x (At-front x xs)))
no_longer (x ∷ xs) (y ∷ ys) h g into = elim (cases_order x.0.0 y.0.0) [
  | inl e ↦ let r = no_longer xs ys (tail_ascends x xs h) (tail_ascends y ys g) (tails x y xs ys h e into) in
      omega (arith, r)
  | inr d ↦ elim d [
    | inl l ↦ absurd (not_below x y ys g (into x (At-front x xs)) l)
    | inr l ↦
        let all : (z : StopNo × ℕ) → At (x ∷ xs) z → At ys z = λ z c. later_of z y ys (into z c) (above z l c) in
        let r = no_longer (x ∷ xs) ys h (tail_ascends y ys g) all in omega (arith, r)
  ]
]
  where
    above : (z : StopNo × ℕ) → y.0.0 < x.0.0 → At (x ∷ xs) z → y.0.0 < z.0.0
    above z l c = elim (At-split x z xs c) [
      | inl later ↦ let m = first_below x z xs h later in omega (arith, l, m)
      | inr e ↦ let k = key z x e in omega (arith, l, k)
    ]

-- rows with the same feet are one
pub one_row : (xs ys : List (StopNo × ℕ)) → Ascends xs → Ascends ys → ((z : StopNo × ℕ) → At xs z → At ys z) →
    ((z : StopNo × ℕ) → At ys z → At xs z) → xs ≡ ys
one_row [] [] h g into back = refl
one_row [] (y ∷ ys) h g into back = absurd (At-none y (back y (At-front y ys)))
one_row (x ∷ xs) [] h g into back = absurd (At-none x (into x (At-front x xs)))
one_row (x ∷ xs) (y ∷ ys) h g into back = elim (cases_order x.0.0 y.0.0) [
  | inl e ↦
      let first : x ≡ y = first_of_two x y ys g (into x (At-front x xs)) e in
      let rest : xs ≡ ys = one_row xs ys (tail_ascends x xs h) (tail_ascends y ys g) (tails x y xs ys h e into)
      (tails y x ys xs g (sym e) back) in
      cc (first, rest)
  | inr d ↦ elim d [
    | inl l ↦ absurd (not_below x y ys g (into x (At-front x xs)) l)
    | inr l ↦ absurd (not_below y x xs h (back y (At-front y ys)) l)
  ]
]

-- rows that are no longer have no greater sum
pub no_more : (fs hs : List (List (StopNo × ℕ))) →
    ((a : ℕ) (row : List (StopNo × ℕ)) → slice_get fs a ≡ Some row → length row ≤ length (get_or hs a [])) →
    sum_by length fs ≤ sum_by length hs
no_more [] hs h = omega arith
no_more (f ∷ fs) [] h =
    let first : length f ≤ 0 = h 0 f refl in
    let rest : sum_by length fs ≤ 0 = no_more fs [] (λ a row e. h (suc a) row e) in
    rw (sum_by-cons length f fs) (omega (arith, first, rest))
no_more (f ∷ fs) (g ∷ gs) h =
    let first : length f ≤ length g = h 0 f refl in
    let rest : sum_by length fs ≤ sum_by length gs = no_more fs gs (λ a row e. h (suc a) row e) in
    rw (sum_by-cons length f fs, sum_by-cons length g gs) (omega (arith, first, rest))
