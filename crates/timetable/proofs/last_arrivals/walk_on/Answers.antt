use Rattle.std.proofs.Common.{rules, ◌≡◌, ℕ, ◌+◌, ◌<◌, ◌≤◌, ◌⊎◌, inl, inr, List, length, get_or, slice_get, slice_index}
use Rattle.std.proofs.Common.{Some, sym, ◌∙◌, ap, arith}
use Rattle.std.proofs.lemmas.Option.{slice_get-get_or}
use Rattle.timetable.specs.declared.trips.StopNo.{StopNo}
use Rattle.timetable.proofs.ElementsInRange.{at_more, at_all}
use Rattle.timetable.proofs.last_arrivals.walk_on.Goals as goal

-- the number of a stop is as it was, or the end of some walk there
abbrev Told : List (StopNo × ℕ) → ℕ → List ℕ → List ℕ → ℕ → Type 0
Told leaving time old new p =
    (slice_index new p ≡ slice_index old p)
    ⊎ ((k seconds : ℕ) × (slice_get leaving k ≡ Some (record { 0 = p }, seconds))
    × (time + seconds ≡ slice_index new p))

-- a walk ends no later than the number of its end
abbrev Noted : ℕ → List ℕ → ℕ → StopNo × ℕ → Type 0
Noted time last k walk = time + walk.1 ≤ slice_index last walk.0.0

-- a walk more raises the number of its end, or none
told_more : (leaving : List (StopNo × ℕ)) (time i : ℕ) (d : StopNo × ℕ) (old mid new : List ℕ) (p : ℕ) →
    i < length leaving → Told leaving time old mid p →
    (slice_index new p ≡ slice_index mid p)
    ⊎ ((p ≡ (get_or leaving i d).0.0) × (slice_index new p ≡ time + (get_or leaving i d).1)) →
    Told leaving time old new p
told_more leaving time i d old mid new p l (inl e) (inl same) = inl (same ∙ e)
told_more leaving time i d old mid new p l (inr x) (inl same) = inr (x.0, x.1, x.2, x.3 ∙ sym same)
told_more leaving time i d old mid new p l before (inr here) =
    let walk = get_or leaving i d in
    inr (
      i,
      walk.1,
      slice_get-get_or leaving i d l ∙ ap (λ (q : ℕ). Some (record { 0 = q }, walk.1)) (sym here.0),
      sym here.1,
    )

pub loop-to-preserved : goal.loop-to-preserved
loop-to-preserved c =
    record {
      here = λ k stop seconds. at_more (Noted c.args.time c.raise.new.last) c.args.leaving.now c.loop-to.to-index _
          c.loop-to-test.true (λ k walk lt at.
          let low = c.loop-to.invariant.here k walk.0.0 walk.1 lt at in
          let up = c.raise.ensures.rises walk.0.0 in
          omega arith) c.raise.ensures.here k (record { 0 = stop }, seconds);
      told = λ p. told_more c.args.leaving.now c.args.time c.loop-to.to-index _ c.args.last.now c.loop-to.last
          c.raise.new.last p c.loop-to-test.true (c.loop-to.invariant.told p) (c.raise.ensures.told p);
      rises = λ p.
          let low = c.loop-to.invariant.rises p in
          let up = c.raise.ensures.rises p in
          omega arith;
      early = search rules;
    }

pub returns-clause-here : goal.returns-clause-here
returns-clause-here c k stop seconds =
    at_all (Noted c.args.time c.loop-to.last) c.args.leaving.now c.loop-to.to-index c.loop-to-test.false (λ k walk.
    c.loop-to.invariant.here k walk.0.0 walk.1) k (record { 0 = stop }, seconds)
