-- The first deadline that serves a start, as further deadlines are searched.
use Rattle.std.proofs.Common.{◌≡◌, inl, inr, ℕ, zero, suc, ◌+◌, ◌<◌, List, [], ◌∷◌, ◌++◌, length, refl}
use Rattle.std.proofs.Common.{sym, ◌∙◌, arith}
use Rattle.std.proofs.lemmas.Bool.{cases_lt}
use Rattle.timetable.specs.declared.least.TheConstants.{NEVER}
use Rattle.reversal.specs.ReadOut.{IsServedBy, until_served}
use Rattle.reversal.proofs.DurationsReadOut.{first_is_late, first_serves}

-- if the first deadline doesn't serve, the one that does is a later one
not_first : (time label : ℕ) (times labels : List ℕ) (start : ℕ) → time < start + label → (j : ℕ) →
    IsServedBy (time ∷ times) (label ∷ labels) j start → (i : ℕ) × IsServedBy times labels i start
not_first time label times labels start late zero s = absurd (omega (arith, late, s.1))
not_first time label times labels start late (suc j) s = (j, (omega (arith, s.0), s.1))

-- a start that was served keeps its first deadline
pub until_kept : (times labels more more_labels : List ℕ) (start j : ℕ) → length labels ≡ length times →
    IsServedBy times labels j start →
    until_served (times ++ more) (labels ++ more_labels) start ≡ until_served times labels start
until_kept [] labels more more_labels start j count s = absurd (omega (arith, s.0))
until_kept (time ∷ times) [] more more_labels start j count s = absurd (omega (arith, count))
until_kept (time ∷ times) (label ∷ labels) more more_labels start j count s = elim (cases_lt time (start + label)) [
  | inr serves ↦
      first_serves time label (times ++ more) (labels ++ more_labels) start serves
      ∙ sym (first_serves time label times labels start serves)
  | inl late ↦
      let next = not_first time label times labels start late j s in
      first_is_late time label (times ++ more) (labels ++ more_labels) start late
      ∙ (until_kept times labels more more_labels start next.0 (omega (arith, count)) next.1
      ∙ sym (first_is_late time label times labels start late))
]

-- a start that was not served waits for a further deadline
pub until_more : (times labels more more_labels : List ℕ) (start : ℕ) → length labels ≡ length times →
    ((j : ℕ) → IsServedBy times labels j start → ⊥) →
    until_served (times ++ more) (labels ++ more_labels) start ≡ until_served more more_labels start
until_more [] [] more more_labels start count none = refl
until_more [] (label ∷ labels) more more_labels start count none = absurd (omega (arith, count))
until_more (time ∷ times) [] more more_labels start count none = absurd (omega (arith, count))
until_more (time ∷ times) (label ∷ labels) more more_labels start count none =
    elim (cases_lt time (start + label)) [
      | inr serves ↦ absurd (none zero (omega arith, serves))
      | inl late ↦
          first_is_late time label (times ++ more) (labels ++ more_labels) start late
          ∙ until_more times labels more more_labels start (omega (arith, count))
          (λ j s. none (suc j) (omega (arith, s.0), s.1))
    ]

pub until_never : (times labels : List ℕ) (start : ℕ) → ((j : ℕ) → IsServedBy times labels j start → ⊥) →
    until_served times labels start ≡ NEVER
until_never [] labels start none = refl
until_never (time ∷ times) [] start none = refl
until_never (time ∷ times) (label ∷ labels) start none = elim (cases_lt time (start + label)) [
  | inr serves ↦ absurd (none zero (omega arith, serves))
  | inl late ↦
      first_is_late time label times labels start late
      ∙ until_never times labels start (λ j s. none (suc j) (omega (arith, s.0), s.1))
]
