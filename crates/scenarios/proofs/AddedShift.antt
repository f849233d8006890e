-- What is looked up in a scenario, with one shift more.
use Rattle.std.proofs.Common.{◌≡◌, ◌∙◌, ◌<◌, ◌==◌, ◌++◌, ◌||◌, ℕ, ℤ, pos, neg_ℤ, ◌+ℤ◌, ◌≤ℤ◌, Bool, true, false}
use Rattle.std.proofs.Common.{if◌then◌else◌, List, [], ◌∷◌, length, ap, sym, refl, arith, length-append}
use Rattle.std.specs.Prelude.{slice_index_or}
use Rattle.std.specs.List.{list_any}
use Rattle.std.proofs.lemmas.List.Elements.{All-push}
use Rattle.std.proofs.lemmas.List.Folds.{list_any-append}
use Rattle.std.proofs.lemmas.List.Sums.{fold-append}
use Rattle.scenarios.specs.Edits.{IsShift, removes_route, removes_trip, shift_by, shift_of}
use Rattle.scenarios.specs.Scenario.{IsLookedUp}
use Rattle.scenarios.specs.declared.scenario.Scenario.TheInside.{Inside}
use Rattle.scenarios.specs.declared.edits.Edit.{Edit}
use Rattle.scenarios.specs.declared.edits.Edit.TheVariants.{Shift}
use Rattle.scenarios.specs.declared.edits.TheConstants.{MOST_EDITS}

or_false : (a : Bool) → (a || (false || false)) ≡ a
or_false true = refl
or_false false = refl

shift_more : (edits : List Edit) (e : Edit) (trip : ℕ) →
    shift_of (edits ++ e ∷ []) trip ≡ shift_of edits trip +ℤ shift_by trip e
shift_more edits e trip = fold-append (λ (sum : ℤ) (edit : Edit). sum +ℤ shift_by trip edit) (pos 0) edits (e ∷ [])

-- a shift that is added to the trip's others keeps what is looked up
pub still_looked_up : (s t : Inside) (trip : ℕ) (z : ℤ) → IsLookedUp s → length s.edits.items < MOST_EDITS →
    neg_ℤ (pos 604799) ≤ℤ z → z ≤ℤ pos 604799
    → t.edits.items ≡ s.edits.items ++ Shift trip z ∷ [] → t.removed_routes ≡ s.removed_routes →
    t.removed_trips ≡ s.removed_trips
    → ((k : ℕ) → slice_index_or t.shifts.items k (pos 0)
    ≡ slice_index_or s.shifts.items k (pos 0) +ℤ (if trip == k then z else pos 0)) → IsLookedUp t
still_looked_up s t trip z is few low high edits routes trips shifts =
    let e = Shift trip z in
    record {
      routes = λ route. ap (λ v. slice_index_or v.items route false) routes ∙ is.routes route
          ∙ sym (ap (list_any (removes_route route)) edits
          ∙ list_any-append (removes_route route) s.edits.items (e ∷ [])
          ∙ or_false (list_any (removes_route route) s.edits.items));
      trips = λ k. ap (λ v. slice_index_or v.items k false) trips ∙ is.trips k
          ∙ sym (ap (list_any (removes_trip k)) edits ∙ list_any-append (removes_trip k) s.edits.items (e ∷ [])
          ∙ or_false (list_any (removes_trip k) s.edits.items));
      shifts = λ k. shifts k ∙ ap (λ x. x +ℤ (if trip == k then z else pos 0)) (is.shifts k)
          ∙ sym (ap (λ l. shift_of l k) edits ∙ shift_more s.edits.items e k);
      few = let l = ap length edits in let m = length-append s.edits.items (e ∷ []) in omega arith;
      within = rw edits (All-push IsShift s.edits.items e is.within (low, high));
    }
