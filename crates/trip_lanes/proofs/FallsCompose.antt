-- Labels that fall to what is offered.
use Rattle.std.proofs.Common.{ℕ, ◌<◌, inl, inr, List, length, slice_index, sym, ◌∙◌, arith, subst}
use Rattle.timetable.specs.RoundSteps.{Lowers}
use Rattle.trip_lanes.specs.Scan.{NothingLower, FallsTo}
use Rattle.trip_lanes.specs.Falls.{AreFalls}
use Rattle.trip_lanes.specs.declared.falls.Fall.{Fall}
use Rattle.trip_lanes.proofs.TripInOneLane.{lane_falls}

-- one change after another
pub falls_then : {C D : ℕ → ℕ → Type 0} {a b c : List ℕ} → FallsTo C a b → Lowers D b c → ((p x : ℕ) → D p x → C p x) →
    FallsTo C a c
falls_then {C} {D} {a} {b} {c} h k into =
    record {
      same_length = k.same_length ∙ h.same_length;
      falls = λ p. let f = h.falls p in let g = lane_falls b c k p in omega arith;
      offered = λ p l.
          let m : p < length b = omega (arith, h.same_length) in
          elim (k.label p m).holds [
            | inl s ↦ elim (h.offered p l) [ inl e ↦ inl (s ∙ e) | inr o ↦ inr (subst (C p) (sym s) o) ]
            | inr d ↦ inr (into p (slice_index c p) d)
          ];
    }

-- labels that fell as far as anything is offered
pub lowers_of : {C : ℕ → ℕ → Type 0} {a b : List ℕ} → FallsTo C a b → NothingLower C b → Lowers C a b
lowers_of h none =
    record {
      same_length = h.same_length;
      label = λ p l. record {
        holds = h.offered p l;
        least = λ m o. elim o [
          | inl s ↦ let f = h.falls p in omega (arith, s)
          | inr c ↦ none p m (omega (arith, h.same_length)) c
        ];
      };
    }

-- any falls are those of labels that stay
pub falls_of_none : (ready : List ℕ) (falls : List Fall) → AreFalls ready ready falls
falls_of_none ready falls =
    record {
      fall = λ p f at. record {
        low = λ k. absurd (omega (arith, k));
        high = λ k. absurd (omega (arith, k));
        top = λ k. absurd (omega (arith, k));
      };
    }
