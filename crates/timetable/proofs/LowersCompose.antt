-- Lists of labels that are lowered by one set of offers after another.
use Rattle.std.proofs.Common.{ℕ, ◌<◌, ◌⊎◌, inl, inr, List, length, slice_index, refl, sym, ◌∙◌, arith, subst}
use Rattle.timetable.specs.RoundSteps.{Lowers}

-- offers that are the same at each stop
pub lowers_alike : {C D : ℕ → ℕ → Type 0} {a b : List ℕ} → ((p x : ℕ) → C p x → D p x) → ((p x : ℕ) → D p x → C p x) →
    Lowers C a b → Lowers D a b
lowers_alike {C} {D} {a} {b} f g h =
    record {
      same_length = h.same_length;
      label = λ p k. let e = h.label p k in
          record {
            holds = elim e.holds [ inl s ↦ inl s | inr c ↦ inr (f p _ c) ];
            least = λ m d. elim d [ inl s ↦ e.least m (inl s) | inr c ↦ e.least m (inr (g p m c)) ];
          };
    }

-- offers that are the same at each stop that there is
pub lowers_alike_in : {C D : ℕ → ℕ → Type 0} {a b : List ℕ} → ((p x : ℕ) → p < length a → C p x → D p x) →
    ((p x : ℕ) → p < length a → D p x → C p x) → Lowers C a b → Lowers D a b
lowers_alike_in {C} {D} {a} {b} f g h =
    record {
      same_length = h.same_length;
      label = λ p k. let e = h.label p k in
          record {
            holds = elim e.holds [ inl s ↦ inl s | inr c ↦ inr (f p _ k c) ];
            least = λ m d. elim d [ inl s ↦ e.least m (inl s) | inr c ↦ e.least m (inr (g p m k c)) ];
          };
    }

-- no offers
pub lowers_none : {C : ℕ → ℕ → Type 0} (a : List ℕ) → ((p x : ℕ) → C p x → ⊥) → Lowers C a a
lowers_none {C} a none =
    record {
      same_length = refl;
      label = λ p k. record {
        holds = inl refl;
        least = λ m d. elim d [ inl s ↦ omega arith | inr c ↦ absurd (none p m c) ];
      };
    }

-- one set of offers, and then another
pub lowers_both : {C D : ℕ → ℕ → Type 0} {a b c : List ℕ} → Lowers C a b → Lowers D b c →
    Lowers (λ p x. C p x ⊎ D p x) a c
lowers_both {C} {D} {a} {b} {c} h k =
    record {
      same_length = k.same_length ∙ h.same_length;
      label = λ p l.
          let e = h.label p l in
          let m : p < length b = omega (arith, h.same_length) in
          let f = k.label p m in
          record {
            holds = elim f.holds [
              | inl s ↦ elim e.holds [ inl t ↦ inl (s ∙ t) | inr c ↦ inr (inl (subst (C p) (sym s) c)) ]
              | inr d ↦ inr (inr d)
            ];
            least = λ n o.
                let low = f.least (slice_index b p) (inl refl) in
                elim o [
                  | inl s ↦ let lower = e.least n (inl s) in omega arith
                  | inr q ↦ elim q [
                    | inl c ↦ let lower = e.least n (inr c) in omega arith
                    | inr d ↦ f.least n (inr d)
                  ]
                ];
          };
    }
