-- The lesser of two durations, and the least of some walks.
use Rattle.std.proofs.Common.{◌≡◌, ◌≢◌, ◌<◌, ◌≤◌, ℕ, zero, suc, Bool, List, Option, Some, None, min, ap, refl}
use Rattle.std.proofs.Common.{sym, subst, ◌∙◌, arith, if◌then◌else◌, inl, inr}
use Rattle.std.proofs.lemmas.Bool.{cases_eq, cases_lt, ne_eqb, eq-eqb}
use Rattle.std.proofs.lemmas.Option.{none-some, same_Some}
use Rattle.timetable.specs.declared.trips.StopNo.{StopNo}
use Rattle.rounds.specs.Labels.{least_walk, lesser, walk_seconds, walk_stop}
use Rattle.rounds.specs.Table.{known_of}

pub lesser_none : (x : Option ℕ) → lesser x None ≡ x
lesser_none None = refl
lesser_none (Some d) = refl

known : (x : ℕ) → x ≢ 4294967295 → known_of x ≡ Some x
known x ne = ap (λ (b : Bool). if b then None else Some x) (ne_eqb x 4294967295 ne)

-- the label that is the lesser of a cell and a walk
pub known_lowered : (x seconds : ℕ) → seconds < 4294967295 → known_of (min x seconds) ≡ lesser (known_of x) (Some
    seconds)
known_lowered x seconds few = elim (cases_eq x 4294967295) [
  | inl never ↦
      let none : known_of x ≡ None = ap (λ (b : Bool). if b then None else Some x) (eq-eqb x 4294967295 never) in
      known (min x seconds) (λ e. omega (arith, e, few))
      ∙ (ap Some (let least : min x seconds ≡ seconds = omega (arith, never, few) in least)
      ∙ sym (ap (λ (o : Option ℕ). lesser o (Some seconds)) none))
  | inr some ↦ known (min x seconds) (λ e. omega (arith, e, few))
      ∙ sym (ap (λ (o : Option ℕ). lesser o (Some seconds)) (known x some))
]

-- the least of the first n walks to stop q: it is one of them, and none is shorter
pub record IsLeastWalk (walks : List (StopNo × ℕ)) (q n : ℕ) (least : Option ℕ) : Type 0 where
  pub some : (s : ℕ) → least ≡ Some s → (i : ℕ) × (i < n) × (walk_stop walks i ≡ q) × (walk_seconds walks i ≡ s)
  pub none_shorter : (i : ℕ) → i < n → walk_stop walks i ≡ q → (s : ℕ) × (least ≡ Some s) × (s ≤ walk_seconds walks i)

module _ (walks : List (StopNo × ℕ)) (q n : ℕ) where
  -- with one more walk that leads there
  walk_here : (least : Option ℕ) → walk_stop walks n ≡ q → IsLeastWalk walks q n least →
      IsLeastWalk walks q (suc n) (lesser least (Some (walk_seconds walks n)))
  walk_here None here old =
      record {
        some = λ s is. (n, omega arith, here, same_Some (walk_seconds walks n) s is);
        none_shorter = λ i less there. elim (cases_lt i n) [
          | inl lt ↦
              let was = old.none_shorter i lt there in
              absurd (none-some was.0 was.1)
          | inr ge ↦
              let same : i ≡ n = omega (arith, ge, less) in
              let seconds = ap (λ (k : ℕ). walk_seconds walks k) same in
              (walk_seconds walks n, refl, omega (arith, seconds))
        ];
      }
  walk_here (Some d) here old =
      record {
        some = λ s is.
            let value : min d (walk_seconds walks n) ≡ s = same_Some (min d (walk_seconds walks n)) s is in
            elim (cases_lt (walk_seconds walks n) d) [
              | inl shorter ↦ (n, omega arith, here, omega (arith, shorter, value))
              | inr longer ↦
                  let was = old.some d refl in
                  (was.0, (let l = was.1 in omega (arith, l)), was.2, (let e = was.3 in omega (arith, e, longer, value)))
            ];
        none_shorter = λ i less there. elim (cases_lt i n) [
          | inl lt ↦
              let was = old.none_shorter i lt there in
              let d_is : d ≡ was.0 = same_Some d was.0 was.1 in
              let le = was.2 in
              (min d (walk_seconds walks n), refl, omega (arith, d_is, le))
          | inr ge ↦
              let same : i ≡ n = omega (arith, ge, less) in
              let seconds = ap (λ (k : ℕ). walk_seconds walks k) same in
              (min d (walk_seconds walks n), refl, omega (arith, seconds))
        ];
      }

  -- with one more that leads elsewhere
  walk_elsewhere : (least : Option ℕ) → walk_stop walks n ≢ q → IsLeastWalk walks q n least →
      IsLeastWalk walks q (suc n) least
  walk_elsewhere least elsewhere old =
      record {
        some = λ s is.
            let was = old.some s is in
            (was.0, (let l = was.1 in omega (arith, l)), was.2, was.3);
        none_shorter = λ i less there. elim (cases_lt i n) [
          | inl lt ↦ old.none_shorter i lt there
          | inr ge ↦
              let same : i ≡ n = omega (arith, ge, less) in
              absurd (elsewhere (subst (λ (k : ℕ). walk_stop walks k ≡ q) same there))
        ];
      }

pub least_is_least : (walks : List (StopNo × ℕ)) (q n : ℕ) → IsLeastWalk walks q n (least_walk walks q n)
least_is_least walks q zero =
    record {
      some = λ s is. absurd (none-some s is);
      none_shorter = λ i less there. absurd (omega (arith, less));
    }
least_is_least walks q (suc n) =
    let seconds = walk_seconds walks n in
    elim (cases_eq (walk_stop walks n) q) [
      | inl here ↦ subst (λ (o : Option ℕ). IsLeastWalk walks q (suc n) (lesser (least_walk walks q n) o))
          (sym (ap (λ (b : Bool). if b then Some seconds else None) (eq-eqb (walk_stop walks n) q here)))
          (walk_here walks q n (least_walk walks q n) here (least_is_least walks q n))
      | inr elsewhere ↦ subst (λ (o : Option ℕ). IsLeastWalk walks q (suc n) (lesser (least_walk walks q n) o))
          (sym (ap (λ (b : Bool). if b then Some seconds else None) (ne_eqb (walk_stop walks n) q elsewhere)))
          (subst (λ (o : Option ℕ). IsLeastWalk walks q (suc n) o) (sym (lesser_none (least_walk walks q n)))
          (walk_elsewhere walks q n (least_walk walks q n) elsewhere (least_is_least walks q n)))
    ]
