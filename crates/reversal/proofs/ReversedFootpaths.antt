-- The footpaths of a network, the other way.
use Rattle.std.proofs.Common.{◌≡◌, ◌≢◌, ◌⊎◌, inl, inr, ℕ, zero, suc, ◌+◌, ◌<◌, ◌≤◌, List, [], ◌∷◌, ◌++◌}
use Rattle.std.proofs.Common.{slice_get, Some, cond, refl, sym, ◌∙◌, ap, ap₂}
use Rattle.std.proofs.Common.{add-one, subst, arith}
use Rattle.std.specs.Bool.{⊤}
use Rattle.std.proofs.lemmas.Bool.{cases_eq, eq-eqb, ne_eqb}
use Rattle.std.proofs.lemmas.Option.{none-some, same_Some}
use Rattle.timetable.specs.declared.trips.StopNo.{StopNo}
use Rattle.timetable.specs.Footpaths.{FootLists}
use Rattle.reversal.specs.Mirror.{reversed_between, reversed_to}

-- the list has this element
abbrev pub Has : {X : Type 0} → List X → X → Type 0
Has xs x = (k : ℕ) × (slice_get xs k ≡ Some x)

pub has_none : {X : Type 0} (x : X) → Has [] x → ⊥
has_none x (k, h) = none-some x h

has_later : {X : Type 0} (y : X) (ys : List X) (x : X) → Has ys x → Has (y ∷ ys) x
has_later y ys x (k, h) = (suc k, h)

has_first : {X : Type 0} (y : X) (ys : List X) (x : X) → y ≡ x → Has (y ∷ ys) x
has_first y ys x e = (zero, ap Some e)

pub has_cases : {X : Type 0} (y : X) (ys : List X) (x : X) → Has (y ∷ ys) x → (y ≡ x) ⊎ Has ys x
has_cases y ys x (zero, h) = inl (same_Some y x h)
has_cases y ys x (suc k, h) = inr (k, h)

has_left : {X : Type 0} (xs ys : List X) (x : X) → Has xs x → Has (xs ++ ys) x
has_left [] ys x h = absurd (has_none x h)
has_left (y ∷ xs) ys x h = elim (has_cases y xs x h) [
  | inl e ↦ has_first y (xs ++ ys) x e
  | inr g ↦ has_later y (xs ++ ys) x (has_left xs ys x g)
]

has_right : {X : Type 0} (xs ys : List X) (x : X) → Has ys x → Has (xs ++ ys) x
has_right [] ys x h = h
has_right (y ∷ xs) ys x h = has_later y (xs ++ ys) x (has_right xs ys x h)

has_either : {X : Type 0} (xs ys : List X) (x : X) → Has (xs ++ ys) x → Has xs x ⊎ Has ys x
has_either [] ys x h = inr h
has_either (y ∷ xs) ys x h = elim (has_cases y (xs ++ ys) x h) [
  | inl e ↦ inl (has_first y xs x e)
  | inr g ↦ elim (has_either xs ys x g) [ inl l ↦ inl (has_later y xs x l) | inr r ↦ inr r ]
]

-- the targets of the footpaths ascend strictly, and the first is at least `low`
abbrev pub Rising : ℕ → List (StopNo × ℕ) → Type 0
Rising low [] = ⊤
Rising low (x ∷ row) = (low ≤ x.0.0) × Rising (suc x.0.0) row

pub rising_lower : (low less : ℕ) (row : List (StopNo × ℕ)) → less ≤ low → Rising low row → Rising less row
rising_lower low less [] le r = tt
rising_lower low less (x ∷ row) le r = (omega (arith, r.0), r.1)

pub rising_has : (low : ℕ) (row : List (StopNo × ℕ)) (x : StopNo × ℕ) → Rising low row → Has row x → low ≤ x.0.0
rising_has low [] x r h = absurd (has_none x h)
rising_has low (y ∷ row) x r h = elim (has_cases y row x h) [
  | inl e ↦ omega (arith, r.0, ap (λ (z : StopNo × ℕ). z.0.0) e)
  | inr g ↦ let above = rising_has (suc y.0.0) row x r.1 g in omega (arith, above, r.0)
]

-- from neighbours that ascend to `Rising`, and back
pub rising_from : (low : ℕ) (row : List (StopNo × ℕ)) →
    ((k : ℕ) (x y : StopNo × ℕ) → slice_get row k ≡ Some x → slice_get row (k + 1) ≡ Some y → x.0.0 < y.0.0) →
    ((x : StopNo × ℕ) → slice_get row 0 ≡ Some x → low ≤ x.0.0) → Rising low row
rising_from low [] ascends first = tt
rising_from low (x ∷ row) ascends first = (
  first x refl,
  rising_from (suc x.0.0) row
      (λ k y z g h. ascends (suc k) y z g (rw (add-one (suc k)) (rw (add-one k) at h)))
      (λ y h. ascends 0 x y refl h),
)

pub rising_ascends : (low : ℕ) (row : List (StopNo × ℕ)) → Rising low row → (k : ℕ) (x y : StopNo × ℕ) →
    slice_get row k ≡ Some x → slice_get row (k + 1) ≡ Some y → x.0.0 < y.0.0
rising_ascends low [] r k x y g h = absurd (none-some x g)
rising_ascends low (z ∷ row) r zero x y g h =
    let above = rising_has (suc z.0.0) row y r.1 (0, h) in
    omega (arith, above, ap (λ (w : StopNo × ℕ). w.0.0) (same_Some z x g))
rising_ascends low (z ∷ row) r (suc k) x y g h =
    rising_ascends (suc z.0.0) row r.1 k x y g (rw (add-one k) (rw (add-one (suc k)) at h))

-- lists with ascending targets are equal if they have the same elements
pub same_rising : (low less : ℕ) (row other : List (StopNo × ℕ)) → Rising low row → Rising less other →
    ((x : StopNo × ℕ) → Has row x → Has other x) → ((x : StopNo × ℕ) → Has other x → Has row x) → row ≡ other
same_rising low less [] [] r s forth back = refl
same_rising low less [] (y ∷ other) r s forth back = absurd (has_none y (back y (has_first y other y refl)))
same_rising low less (x ∷ row) [] r s forth back = absurd (has_none x (forth x (has_first x row x refl)))
same_rising low less (x ∷ row) (y ∷ other) r s forth back =
    let key : StopNo × ℕ → ℕ = λ z. z.0.0 in
    let first : y ≡ x = elim (has_cases y other x (forth x (has_first x row x refl))) [
      | inl e ↦ e
      | inr g ↦ elim (has_cases x row y (back y (has_first y other y refl))) [
        | inl e ↦ sym e
        | inr f ↦
            let above = rising_has (suc y.0.0) other x s.1 g in
            let below = rising_has (suc x.0.0) row y r.1 f in
            absurd (omega (arith, above, below))
      ]
    ] in
    let rest : row ≡ other = same_rising (suc x.0.0) (suc y.0.0) row other r.1 s.1
    (λ z h. elim (has_cases y other z (forth z (has_later x row z h))) [
      | inl e ↦
          let above = rising_has (suc x.0.0) row z r.1 h in
          absurd (omega (arith, above, ap key e, ap key first))
      | inr g ↦ g
    ])
    (λ z h. elim (has_cases x row z (back z (has_later y other z h))) [
      | inl e ↦
          let above = rising_has (suc y.0.0) other z s.1 h in
          absurd (omega (arith, above, ap key e, ap key first))
      | inr g ↦ g
    ]) in
    ap₂ (λ z zs. z ∷ zs) (sym first) rest

-- a list with one footpath more
module _ (a b : ℕ) where
  pub between_same : (x : StopNo × ℕ) (row : List (StopNo × ℕ)) → x.0.0 ≡ b →
      reversed_between a b (x ∷ row) ≡ (record { 0 = a }, x.1) ∷ reversed_between a b row
  between_same x row e =
      ap (λ t. cond t ((record { 0 = a }, x.1) ∷ reversed_between a b row) (reversed_between a b row))
      (eq-eqb x.0.0 b e)

  pub between_other : (x : StopNo × ℕ) (row : List (StopNo × ℕ)) → x.0.0 ≢ b →
      reversed_between a b (x ∷ row) ≡ reversed_between a b row
  between_other x row e =
      ap (λ t. cond t ((record { 0 = a }, x.1) ∷ reversed_between a b row) (reversed_between a b row))
      (ne_eqb x.0.0 b e)

  -- each footpath from a to b has its reverse in the list, and each footpath in the list comes from one
  between_forth : (row : List (StopNo × ℕ)) (seconds : ℕ) → Has row (record { 0 = b }, seconds) →
      Has (reversed_between a b row) (record { 0 = a }, seconds)
  between_forth [] seconds h = absurd (has_none (record { 0 = b }, seconds) h)
  between_forth (x ∷ row) seconds h =
      let there : StopNo × ℕ = (record { 0 = a }, seconds) in
      elim (has_cases x row (record { 0 = b }, seconds) h) [
        | inl e ↦ subst (λ l. Has l there) (sym (between_same x row (ap (λ (z : StopNo × ℕ). z.0.0) e)))
            (has_first (record { 0 = a }, x.1) (reversed_between a b row) there
            (ap (λ (z : StopNo × ℕ). (record { 0 = a }, z.1)) e))
        | inr g ↦ elim (cases_eq x.0.0 b) [
          | inl e ↦ subst (λ l. Has l there) (sym (between_same x row e))
              (has_later (record { 0 = a }, x.1) (reversed_between a b row) there (between_forth row seconds g))
          | inr e ↦ subst (λ l. Has l there) (sym (between_other x row e)) (between_forth row seconds g)
        ]
      ]

  between_back : (row : List (StopNo × ℕ)) (y : StopNo × ℕ) → Has (reversed_between a b row) y →
      (y.0.0 ≡ a) × Has row (record { 0 = b }, y.1)
  between_back [] y h = absurd (has_none y h)
  between_back (x ∷ row) y h =
      let there : StopNo × ℕ = (record { 0 = b }, y.1) in
      elim (cases_eq x.0.0 b) [
        | inl e ↦
            elim (has_cases (record { 0 = a }, x.1) (reversed_between a b row) y
            (subst (λ l. Has l y) (between_same x row e) h)) [
              | inl f ↦ (
                sym (ap (λ (z : StopNo × ℕ). z.0.0) f),
                has_first x row there
                    (ap₂ (λ (s t : ℕ). (record { 0 = s }, t)) e (ap (λ (z : StopNo × ℕ). z.1) f)),
              )
              | inr g ↦ let was = between_back row y g in (was.0, has_later x row there was.1)
            ]
        | inr e ↦
            let was = between_back row y (subst (λ l. Has l y) (between_other x row e) h) in
            (was.0, has_later x row there was.1)
      ]

  between_none : (low : ℕ) (row : List (StopNo × ℕ)) → b < low → Rising low row → reversed_between a b row ≡ []
  between_none low [] past r = refl
  between_none low (x ∷ row) past r =
      let other : x.0.0 ≢ b = λ e. omega (arith, r.0, past, e) in
      between_other x row other ∙ between_none (suc x.0.0) row (omega (arith, r.0, past)) r.1

  between_rising : (low : ℕ) (row rest : List (StopNo × ℕ)) → Rising low row → Rising (suc a) rest →
      Rising a (reversed_between a b row ++ rest)
  between_rising low [] rest r more = rising_lower (suc a) a rest (omega arith) more
  between_rising low (x ∷ row) rest r more = elim (cases_eq x.0.0 b) [
    | inl e ↦
        let none = between_none (suc x.0.0) row (omega (arith, e)) r.1 in
        subst (λ l. Rising a (l ++ rest)) (sym (between_same x row e))
        (omega arith, subst (λ l. Rising (suc a) (l ++ rest)) (sym none) more)
    | inr e ↦ subst (λ l. Rising a (l ++ rest)) (sym (between_other x row e))
        (between_rising (suc x.0.0) row rest r.1 more)
  ]

-- so it is for the footpaths from all stops to b
pub to_forth : (walks : FootLists) (a b c i seconds : ℕ) (row : List (StopNo × ℕ)) → c ≡ a + i →
    slice_get walks i ≡ Some row → Has row (record { 0 = b }, seconds) →
    Has (reversed_to b a walks) (record { 0 = c }, seconds)
to_forth [] a b c i seconds row at g h = absurd (none-some row g)
to_forth (r ∷ walks) a b c zero seconds row at g h =
    let same : a ≡ c = omega (arith, at) in
    has_left (reversed_between a b r) (reversed_to b (suc a) walks) (record { 0 = c }, seconds)
    (subst (λ (s : ℕ). Has (reversed_between a b r) (record { 0 = s }, seconds)) same
    (between_forth a b r seconds
    (subst (λ l. Has l (record { 0 = b }, seconds)) (sym (same_Some r row g)) h)))
to_forth (r ∷ walks) a b c (suc i) seconds row at g h =
    has_right (reversed_between a b r) (reversed_to b (suc a) walks) (record { 0 = c }, seconds)
    (to_forth walks (suc a) b c i seconds row (omega (arith, at)) g h)

pub to_back : (walks : FootLists) (a b : ℕ) (y : StopNo × ℕ) → Has (reversed_to b a walks) y →
    (i : ℕ) × (row : List (StopNo × ℕ)) × (y.0.0 ≡ a + i) × (slice_get walks i ≡ Some row)
    × Has row (record { 0 = b }, y.1)
to_back [] a b y h = absurd (has_none y h)
to_back (r ∷ walks) a b y h = elim (has_either (reversed_between a b r) (reversed_to b (suc a) walks) y h) [
  | inl g ↦ let was = between_back a b r y g in (zero, r, omega (arith, was.0), refl, was.1)
  | inr g ↦
      let was = to_back walks (suc a) b y g in
      (suc was.0, was.1, omega (arith, was.2), was.3, was.4)
]

pub to_rising : (walks : FootLists) (a b : ℕ) →
    ((i : ℕ) (row : List (StopNo × ℕ)) → slice_get walks i ≡ Some row → Rising 0 row) →
    Rising a (reversed_to b a walks)
to_rising [] a b all = tt
to_rising (r ∷ walks) a b all =
    between_rising a b 0 r (reversed_to b (suc a) walks) (all 0 r refl)
    (to_rising walks (suc a) b (λ i row h. all (suc i) row h))
