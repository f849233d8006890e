-- The labels and the trip of the worked examples of lanes.
use Rattle.std.proofs.Common.{◌≡◌, ◌≢◌, ℕ, zero, suc, ◌<◌, ◌≤◌, ◌⊎◌, inl, inr, [], ◌∷◌, set, replicate, slice_index}
use Rattle.std.proofs.Common.{slice_get, Some, refl, ◌∙◌, arith, subst}
use Rattle.std.proofs.lemmas.Bool.{cases_eq}
use Rattle.std.proofs.lemmas.List.{get_or-set_other, get_or-replicate}
use Rattle.std.proofs.lemmas.Option.{same_Some, slice_get_within}
use Rattle.timetable.specs.declared.least.TheConstants.{NEVER}
use Rattle.timetable.specs.declared.trips.Event.{Event}

pub two_lanes : (first second l : ℕ) → l < 16 →
    (slice_index (set (set (replicate 16 NEVER) 0 first) 1 second) l ≡ NEVER)
    ⊎ ((slice_index (set (set (replicate 16 NEVER) 0 first) 1 second) l ≡ first)
    ⊎ (slice_index (set (set (replicate 16 NEVER) 0 first) 1 second) l ≡ second))
two_lanes first second l h =
    elim (cases_eq l 1) [
      | inl e ↦ rw e (inr (inr refl))
      | inr other ↦ elim (cases_eq l 0) [
        | inl e ↦ rw e (inr (inl refl))
        | inr ne ↦ inl (get_or-set_other (set (replicate 16 NEVER) 0 first) 1 l second 0 other
            ∙ (get_or-set_other (replicate 16 NEVER) 0 l first 0 ne ∙ get_or-replicate 16 l NEVER 0 h))
      ]
    ]

-- where only the first of two stops is reached, that is at these seconds
pub early : (seconds a b : ℕ) → (a ≡ NEVER) ⊎ ((a ≡ seconds) ⊎ (a ≡ NEVER)) → b ≡ NEVER → (p : ℕ) →
    slice_index (a ∷ b ∷ []) p ≢ NEVER → slice_index (a ∷ b ∷ []) p ≤ seconds
early seconds a b either never zero ne =
    elim either [ inl n ↦ absurd (ne n) | inr o ↦ elim o [ inl e ↦ omega (arith, e) | inr n ↦ absurd (ne n) ] ]
early seconds a b either never (suc zero) ne = absurd (ne never)
early seconds a b either never (suc (suc p)) ne = omega arith

pub below_two : (a b : Event) → a.stop.0 < 2 → b.stop.0 < 2 → (k : ℕ) (e : Event) → slice_get (a ∷ b ∷ []) k ≡ Some e →
    e.stop.0 < 2
below_two a b x y zero e at = subst (λ (v : Event). v.stop.0 < 2) (same_Some a e at) x
below_two a b x y (suc zero) e at = subst (λ (v : Event). v.stop.0 < 2) (same_Some b e at) y
below_two a b x y (suc (suc k)) e at = let w = slice_get_within (a ∷ b ∷ []) (suc (suc k)) e at in absurd (omega arith)

-- in a list of one number all are as low as it
pub up_to : (n x most p : ℕ) → x ≤ most → slice_index (replicate n x) p ≤ most
up_to zero x most zero h = omega arith
up_to zero x most (suc p) h = omega arith
up_to (suc n) x most zero h = h
up_to (suc n) x most (suc p) h = up_to n x most p h

-- stops that no narrow label reaches have labels that fit
pub far_fits : (stops l p : ℕ) → slice_index (replicate stops (slice_index (replicate 32 65535) l)) p ≤ 65535
far_fits stops l p = up_to stops (slice_index (replicate 32 65535) l) 65535 p (up_to 32 65535 65535 l (omega arith))
