-- What a lowered stop does to each lane.
use Rattle.std.proofs.Common.{◌≡◌, ◌≢◌, ℕ, zero, suc, [], ◌∷◌, ◌<◌, ◌≤◌, ◌⊎◌, inl, inr, Bool, true, min, max, List}
use Rattle.std.proofs.Common.{length, get_or, set, slice_index, slice_get, Some, refl, sym, ◌∙◌, ap, arith, subst, ◌↔◌}
use Rattle.std.proofs.Common.{false, ◌||◌}
use Rattle.std.proofs.Math.Bool.{or-true, or-false}
use Rattle.std.proofs.lemmas.Bool.{cases_eq, cases_lt, cases_Bool, false≢true}
use Rattle.std.proofs.lemmas.List.{length-set, length-map, get_or-set_same, get_or-set_other, set-get_or, map-set}
use Rattle.std.proofs.lemmas.List.{get_or-map}
use Rattle.timetable.specs.Least.{IsLeast}
use Rattle.timetable.specs.RoundSteps.{Lowers}
use Rattle.timetable.specs.declared.least.TheConstants.{NEVER}
use Rattle.timetable.proofs.LowersCompose.{lowers_alike, lowers_none}
use Rattle.trip_lanes.specs.Lane.{lane, labels_in, SomeFellOf, FellOf, MarksFallenOf}

min_cases : (a b : ℕ) → (min a b ≡ a) ⊎ (min a b ≡ b)
min_cases a b = elim (cases_lt a b) [ inl l ↦ inl (omega arith) | inr g ↦ inr (omega arith) ]

-- a label that is lowered to a time
pub lowers_set : (xs : List ℕ) (i t : ℕ) → i < length xs →
    Lowers (λ p x. (p ≡ i) × (x ≡ t)) xs (set xs i (min (get_or xs i 0) t))
lowers_set xs i t within =
    record {
      same_length = length-set xs i (min (get_or xs i 0) t);
      label = λ p l. elim (cases_eq p i) [
        | inl e ↦
            let same = get_or-set_same xs i (min (get_or xs i 0) t) 0 within in
            let P : ℕ → Type 0 = λ q. IsLeast (λ x. (x ≡ get_or xs q 0)
            ⊎ ((q ≡ i) × (x ≡ t))) (get_or (set xs i (min (get_or xs i 0) t)) q 0) in
            subst P (sym e) (rw same (record {
              holds = elim (min_cases (get_or xs i 0) t) [ inl m ↦ inl m | inr m ↦ inr (refl, m) ];
              least = λ n o. elim o [ inl s ↦ omega (arith, s) | inr s ↦ omega (arith, s.1) ];
            }))
        | inr ne ↦
            let other = get_or-set_other xs i p (min (get_or xs i 0) t) 0 ne in
            rw other (record {
              holds = inl refl;
              least = λ n o. elim o [
                | inl s ↦ omega (arith, s)
                | inr s ↦ absurd (ne s.0)
              ];
            })
      ];
    }

pub lower_lane : (xs : List (List ℕ)) (v : List ℕ) (i l bar arrive : ℕ) → i < length xs → (bar ≡ 0) ⊎ (bar ≡ NEVER) →
    get_or (lane l xs) i 0 ≤ NEVER → slice_index v l ≡ min (get_or (lane l xs) i 0) (max bar arrive) →
    Lowers (λ p x. (bar ≡ 0) × (p ≡ i) × (x ≡ arrive)) (lane l xs) (lane l (set xs i v))
lower_lane xs v i l bar arrive within is_bar fits new =
    let long : i < length (lane l xs) = omega (arith, length-map xs (λ w. slice_index w l)) in
    rw (map-set (λ w. slice_index w l) xs i v, new) (elim is_bar [
      | inl aboard ↦
          let e : max bar arrive ≡ arrive = omega arith in
          rw e (lowers_alike (λ p x o. (aboard, o.0, o.1)) (λ p x o. (o.1, o.2)) (lowers_set (lane l xs) i arrive long))
      | inr waiting ↦
          let e : min (get_or (lane l xs) i 0) (max bar arrive) ≡ get_or (lane l xs) i 0 = omega arith in
          rw (e, set-get_or (lane l xs) i 0) (lowers_none (lane l xs) (λ p x o. omega (arith, o.0)))
    ])

-- the lane at a stop that was written, and at another
pub lane_new : (xs : List (List ℕ)) (v : List ℕ) (i l : ℕ) → i < length xs →
    slice_index (lane l (set xs i v)) i ≡ slice_index v l
lane_new xs v i l within =
    let long : i < length (set xs i v) = omega (arith, length-set xs i v) in
    get_or-map (λ w. slice_index w l) (set xs i v) i [] 0 long
    ∙ ap (λ w. slice_index w l) (get_or-set_same xs i v [] within)

pub lane_old : (xs : List (List ℕ)) (i l : ℕ) → i < length xs →
    slice_index (lane l xs) i ≡ slice_index (get_or xs i []) l
lane_old xs i l within = get_or-map (λ w. slice_index w l) xs i [] 0 within

pub lane_other : (xs : List (List ℕ)) (v : List ℕ) (i p l : ℕ) → p ≢ i →
    slice_index (lane l (set xs i v)) p ≡ slice_index (lane l xs) p
lane_other xs v i p l ne = rw (map-set (λ w. slice_index w l) xs i v)
    (get_or-set_other (lane l xs) i p (slice_index v l) 0 ne)

fell_here : {lanes : ℕ} (xs : List (List ℕ)) (v : List ℕ) (i : ℕ) → i < length xs → FellOf lanes xs (set xs i v) i →
    SomeFellOf lanes v (get_or xs i [])
fell_here xs v i within f = (f.0, f.1, rw (← lane_new xs v i f.0 within, ← lane_old xs i f.0 within) f.2)

here_fell : {lanes : ℕ} (xs : List (List ℕ)) (v : List ℕ) (i : ℕ) → i < length xs →
    SomeFellOf lanes v (get_or xs i []) → FellOf lanes xs (set xs i v) i
here_fell xs v i within f = (f.0, f.1, rw (lane_new xs v i f.0 within, lane_old xs i f.0 within) f.2)

not_other : {lanes : ℕ} (xs : List (List ℕ)) (v : List ℕ) (i p : ℕ) → p ≢ i → FellOf lanes xs (set xs i v) p → ⊥
not_other xs v i p ne f = let e = lane_other xs v i p f.0 ne in omega (arith, f.2)

set_get_other : (was : List Bool) (i p : ℕ) → p ≢ i → slice_get (set was i true) p ≡ slice_get was p
set_get_other [] i p ne = refl
set_get_other (b ∷ was) zero zero ne = absurd (ne refl)
set_get_other (b ∷ was) zero (suc p) ne = refl
set_get_other (b ∷ was) (suc i) zero ne = refl
set_get_other (b ∷ was) (suc i) (suc p) ne = set_get_other was i p (λ e. ne (ap suc e))

set_get_same : (was : List Bool) (i : ℕ) → i < length was → slice_get (set was i true) i ≡ Some true
set_get_same [] i l = absurd (omega arith)
set_get_same (b ∷ was) zero l = refl
set_get_same (b ∷ was) (suc i) l = set_get_same was i (omega arith)

pub marks_fell : {lanes : ℕ} (xs : List (List ℕ)) (v : List ℕ) (i : ℕ) (was : List Bool) → i < length xs →
    length was ≡ length xs → SomeFellOf lanes v (get_or xs i []) →
    MarksFallenOf lanes xs (set xs i v) was (set was i true)
marks_fell xs v i was within same f =
    record {
      same_length = length-set was i true;
      marks = λ p l. elim (cases_eq p i) [
        | inl e ↦ (λ s. inr (rw e (here_fell xs v i within f)), λ o. rw e (set_get_same was i (omega arith)))
        | inr ne ↦ (
          λ s. inl (sym (set_get_other was i p ne) ∙ s),
          λ o. elim o [ inl s ↦ set_get_other was i p ne ∙ s | inr g ↦ absurd (not_other xs v i p ne g) ],
        )
      ];
    }

pub marks_same : {lanes : ℕ} (xs : List (List ℕ)) (v : List ℕ) (i : ℕ) (was : List Bool) → i < length xs →
    (SomeFellOf lanes v (get_or xs i []) → ⊥) → MarksFallenOf lanes xs (set xs i v) was was
marks_same xs v i was within none =
    record {
      same_length = refl;
      marks = λ p l. (
        λ s. inl s,
        λ o. elim o [
          | inl s ↦ s
          | inr g ↦ elim (cases_eq p i) [
            | inl e ↦ absurd (none (fell_here xs v i within (rw e at g)))
            | inr ne ↦ absurd (not_other xs v i p ne g)
          ]
        ],
      );
    }

-- the stop is marked if it was, or if this is so just where a lane fell
pub marks_either : {lanes : ℕ} (xs : List (List ℕ)) (v : List ℕ) (i : ℕ) (was : List Bool) (fell : Bool) →
    i < length xs → length was ≡ length xs → (fell ≡ true) ↔ SomeFellOf lanes v (get_or xs i []) →
    MarksFallenOf lanes xs (set xs i v) was (set was i (get_or was i false || fell))
marks_either xs v i was fell within same is =
    elim (cases_Bool fell) [
      | inl on ↦ rw (on, or-true (get_or was i false)) (marks_fell xs v i was within same (is.0 on))
      | inr off ↦ rw (off, or-false (get_or was i false), set-get_or was i false)
          (marks_same xs v i was within (λ f. false≢true (sym off ∙ is.1 f)))
    ]

-- the labels of the row at a stop, in each lane
pub row_labels : {A : Type 0} (labels : A → List ℕ) (rows : List A) (i : ℕ) (row none : A) → row ≡ get_or rows i none →
    i < length rows → get_or (labels_in labels rows) i [] ≡ labels row
row_labels labels rows i row none is within = get_or-map labels rows i none [] within ∙ ap labels (sym is)

pub row_lane : {A : Type 0} (labels : A → List ℕ) (rows : List A) (i l : ℕ) (row none : A) → row ≡ get_or rows i none →
    i < length rows → slice_index (lane l (labels_in labels rows)) i ≡ slice_index (labels row) l
row_lane labels rows i l row none is within =
    lane_old (labels_in labels rows) i l (omega (arith, length-map rows labels))
    ∙ ap (λ v. slice_index v l) (row_labels labels rows i row none is within)
