-- Labels where nothing lower is offered.
use Rattle.std.proofs.Common.{◌≡◌, ℕ, ◌<◌, inl, inr, List, length, slice_index, refl, arith}
use Rattle.std.proofs.lemmas.List.{ext_get_or}
use Rattle.timetable.specs.RoundSteps.{Lowers}
use Rattle.trip_lanes.specs.Scan.{NothingLower}

-- labels that stay are lowered to what is offered
pub nothing_lowers : {C : ℕ → ℕ → Type 0} (labels : List ℕ) → NothingLower C labels → Lowers C labels labels
nothing_lowers labels none =
    record {
      same_length = refl;
      label = λ p l. record {
        holds = inl refl;
        least = λ m o. elim o [ inl s ↦ omega (arith, s) | inr c ↦ none p m l c ];
      };
    }

-- and nothing else may come of them
pub nothing_changes : {C : ℕ → ℕ → Type 0} (old new : List ℕ) → NothingLower C old → Lowers C old new → new ≡ old
nothing_changes old new none h =
    ext_get_or 0 new old h.same_length (λ p l.
    let l' : p < length old = omega (arith, h.same_length) in
    let e = h.label p l' in
    let low = e.least (slice_index old p) (inl refl) in
    elim e.holds [ inl s ↦ s | inr c ↦ let back = none p (slice_index new p) l' c in omega arith ])
