-- The lesser of durations, one after another; and the least walk, one walk after another.
use Rattle.std.proofs.Common.{◌≡◌, ◌≢◌, ◌<◌, ◌+◌, ◌==◌, ℕ, suc, Bool, List, Option, Some, None, min, ap, refl, sym}
use Rattle.std.proofs.Common.{◌∙◌, arith}
use Rattle.std.proofs.Common.{if◌then◌else◌}
use Rattle.std.proofs.lemmas.Bool.{ne_eqb, eq-eqb}
use Rattle.timetable.specs.declared.trips.StopNo.{StopNo}
use Rattle.rounds.proofs.LeastWalks.{known_lowered, lesser_none}
use Rattle.rounds.specs.Table.{known_of}
use Rattle.rounds.specs.Labels.{least_walk, lesser, walk_seconds, walk_stop}

lesser_assoc : (x y z : Option ℕ) → lesser (lesser x y) z ≡ lesser x (lesser y z)
lesser_assoc None y z = refl
lesser_assoc (Some d) None z = refl
lesser_assoc (Some d) (Some e) None = refl
lesser_assoc (Some d) (Some e) (Some f) = ap Some (let same : min (min d e) f ≡ min d (min e f) = omega arith in same)

module _ (walks : List (StopNo × ℕ)) (q i : ℕ) where
  next : (x : Option ℕ) → (if walk_stop walks i == q then Some (walk_seconds walks i) else None) ≡ x →
      least_walk walks q (i + 1) ≡ lesser (least_walk walks q i) x
  next x is = ap (λ (k : ℕ). least_walk walks q k) (let e : i + 1 ≡ suc i = omega arith in e)
      ∙ ap (λ (o : Option ℕ). lesser (least_walk walks q i) o) is

  -- a walk that leads to the stop
  pub walk_here : (old new start : ℕ) → walk_stop walks i ≡ q → walk_seconds walks i < 4294967295 →
      known_of old ≡ lesser (known_of start) (least_walk walks q i) → new ≡ min old (walk_seconds walks i) →
      known_of new ≡ lesser (known_of start) (least_walk walks q (i + 1))
  walk_here old new start e few was is =
      ap known_of is
      ∙ (known_lowered old (walk_seconds walks i) few
      ∙ (ap (λ (o : Option ℕ). lesser o (Some (walk_seconds walks i))) was
      ∙ (lesser_assoc (known_of start) (least_walk walks q i) (Some (walk_seconds walks i))
      ∙ sym (ap (λ (o : Option ℕ). lesser (known_of start) o) (next (Some (walk_seconds walks i))
      (ap (λ (b : Bool). if b then Some (walk_seconds walks i) else None) (eq-eqb (walk_stop walks i) q e)))))))

  -- a walk that leads elsewhere
  pub walk_elsewhere : (old new start : ℕ) → walk_stop walks i ≢ q →
      known_of old ≡ lesser (known_of start) (least_walk walks q i) → new ≡ old →
      known_of new ≡ lesser (known_of start) (least_walk walks q (i + 1))
  walk_elsewhere old new start ne was is =
      ap known_of is
      ∙ (was
      ∙ sym (ap (λ (o : Option ℕ). lesser (known_of start) o) (next None
      (ap (λ (b : Bool). if b then Some (walk_seconds walks i) else None) (ne_eqb (walk_stop walks i) q ne))
      ∙ lesser_none (least_walk walks q i))))
