-- Two parts of labels side by side.
use Rattle.std.proofs.Common.{◌≡◌, ◌+◌, ◌-◌, ◌<◌, ◌⊎◌, ◌++◌, inl, inr, ℕ, List, length, slice_index, Bool, true, false}
use Rattle.std.proofs.Common.{arith, subst, refl, sym}
use Rattle.std.specs.Prelude.{IsTrue, ◌↔◌, ◌||◌, ◌&&◌}
use Rattle.std.proofs.lemmas.Bool.{cases_lt}
use Rattle.std.proofs.lemmas.List.{get_or_append_left}
use Rattle.trip_lanes.specs.Lane.{SomeFellOf}
use Rattle.trip_lanes.specs.Since.{IsMinutely}

pub or_holds : (a b : Bool) → IsTrue (a || b) → IsTrue a ⊎ IsTrue b
or_holds true b t = inl refl
or_holds false b t = inr t

pub or_by_one : (a b : Bool) → IsTrue a → IsTrue (a || b)
or_by_one true b t = refl
or_by_one false b t = absurd (cc)

pub or_by_other : (a b : Bool) → IsTrue b → IsTrue (a || b)
or_by_other true b t = refl
or_by_other false b t = t

pub and_holds : (a b : Bool) → IsTrue (a && b) → IsTrue a × IsTrue b
and_holds true b t = (refl, t)
and_holds false b t = absurd (cc)

pub and_by_both : (a b : Bool) → IsTrue a → IsTrue b → IsTrue (a && b)
and_by_both true b s t = t
and_by_both false b s t = absurd (cc)

-- what holds of each lane of both parts
pub of_each_part : (P : ℕ → Type 0) (m n : ℕ) → ((l : ℕ) → l < m → P l) → ((l : ℕ) → l < n → P (m + l)) →
    (l : ℕ) → l < m + n → P l
of_each_part P m n front back l h =
    elim (cases_lt l m) [
      | inl here ↦ front l here
      | inr after ↦ subst P (omega (arith, after)) (back (l - m) (omega (arith, after, h)))
    ]

-- what holds of each label of both parts holds of each of the labels of both
pub of_both_parts : (P : ℕ → ℕ → Type 0) (m n : ℕ) (front back labels : List ℕ) →
    ((l : ℕ) → l < m → slice_index labels l ≡ slice_index front l) →
    ((l : ℕ) → l < n → slice_index labels (m + l) ≡ slice_index back l) →
    ((l : ℕ) → l < m → P l (slice_index front l)) → ((l : ℕ) → l < n → P (m + l) (slice_index back l)) →
    (l : ℕ) → l < m + n → P l (slice_index labels l)
of_both_parts P m n front back labels in_front in_back fronts backs =
    of_each_part (λ l. P l (slice_index labels l)) m n
    (λ l h. subst (λ (x : ℕ). P l x) (sym (in_front l h)) (fronts l h))
    (λ l h. subst (λ (x : ℕ). P (m + l) x) (sym (in_back l h)) (backs l h))

-- departures of the second labels go on where those of the first end
pub minutes_go_on : (first minutes l time : ℕ) → IsMinutely (first + 1920) (minutes - 32) 65535 l time →
    IsMinutely first minutes 65535 (32 + l) time
minutes_go_on first minutes l time m =
    record {
      live = λ h. let e = m.live (omega (arith, h)) in omega (arith, e);
      dead = λ h. m.dead (omega (arith, h));
    }

-- where the lanes of two parts are those of their parts, some lane fell if one did in either part
pub fell_in_either : (m n : ℕ) (new new_front new_back old old_front old_back : List ℕ) (one other : Bool) →
    ((l : ℕ) → l < m → slice_index new_front l ≡ slice_index new l) →
    ((l : ℕ) → l < n → slice_index new_back l ≡ slice_index new (m + l)) →
    ((l : ℕ) → l < m → slice_index old_front l ≡ slice_index old l) →
    ((l : ℕ) → l < n → slice_index old_back l ≡ slice_index old (m + l)) →
    (IsTrue one ↔ SomeFellOf m new_front old_front) → (IsTrue other ↔ SomeFellOf n new_back old_back) →
    IsTrue (one || other) ↔ SomeFellOf (m + n) new old
fell_in_either m n new new_front new_back old old_front old_back one other nf nb of ob ones others = (
  λ t. elim (or_holds one other t) [
    | inl here ↦
        let fell = ones.0 here in
        let low = fell.2 in
        (fell.0, omega (arith, fell.1), omega (arith, low, nf fell.0 fell.1, of fell.0 fell.1))
    | inr here ↦
        let fell = others.0 here in
        let low = fell.2 in
        (m + fell.0, omega (arith, fell.1), omega (arith, low, nb fell.0 fell.1, ob fell.0 fell.1))
  ],
  λ fell. of_each_part (λ l. slice_index new l < slice_index old l → IsTrue (one || other)) m n
      (λ l h low. or_by_one one other (ones.1 (l, h, omega (arith, low, nf l h, of l h))))
      (λ l h low. or_by_other one other (others.1 (l, h, omega (arith, low, nb l h, ob l h)))) fell.0 fell.1 fell.2,
)

-- a label of the first of two parts that are joined
pub front_at : (front back : List ℕ) (m l : ℕ) → length front ≡ m → l < m →
    slice_index (front ++ back) l ≡ slice_index front l
front_at front back m l long h = get_or_append_left front back 0 l (omega (arith, long, h))
