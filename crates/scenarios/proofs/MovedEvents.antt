-- The events of a run, event by event.
use Rattle.std.proofs.Common.{◌≡◌, ◌∙◌, ◌<◌, ◌≤◌, ◌+◌, ◌==◌, ◌&&◌, ◌++◌, ℕ, zero, suc, ℤ, Bool, true, false}
use Rattle.std.proofs.Common.{if◌then◌else◌, List, [], ◌∷◌, Some, None, length, map, take, get_or, sym, ap, refl, arith}
use Rattle.std.specs.List.{list_all}
use Rattle.std.proofs.lemmas.Bool.Decides.{nat_tests}
use Rattle.std.proofs.lemmas.List.{map-append, take_all, take_more}
use Rattle.std.proofs.lemmas.List.Folds.{list_all_at, list_all_more}
use Rattle.timetable.specs.declared.trips.Event.{Event}
use Rattle.scenarios.specs.Moving.{arriving, departing_event, moved_if_on_axis}
use Rattle.scenarios.specs.Networks.{is_event_on_axis, moved_event}

pub same_length : (departs : Bool) (events : List Event) → length (arriving departs events) ≡ length events
same_length false events = refl
same_length true [] = refl
same_length true (e ∷ es) = refl

at_position : (departs : Bool) (events : List Event) (i : ℕ) (d : Event) → i < length events →
    get_or (arriving departs events) i d ≡ departing_event (departs && (i == 0)) (get_or events i d)
at_position false events i d lt = refl
at_position true [] i d lt = absurd (omega arith)
at_position true (e ∷ es) zero d lt = refl
at_position true (e ∷ es) (suc i) d lt =
    let later : (suc i == 0) ≡ false = grind (arith, nat_tests) in
    sym (ap (λ b. departing_event b (get_or es i d)) later)

some_if : (b : Bool) (e f : Event) → Some f ≡ (if b then Some e else None) → (b ≡ true) × (f ≡ e)
some_if true e f h = (refl, cc h)
some_if false e f h = cc h

none_if : (b : Bool) (e : Event) → None ≡ (if b then Some e else None) → b ≡ false
none_if true e h = cc h
none_if false e h = refl

-- an event more
module _ (departs first : Bool) (events : List Event) (i : ℕ) (d : Event) (lt : i < length events) (is : first
    ≡ (departs && (i == 0))) (z : ℤ) where
  within : i < length (arriving departs events)
  within = let l = same_length departs events in omega arith

  here : get_or (arriving departs events) i d ≡ departing_event first (get_or events i d)
  here = at_position departs events i d lt ∙ ap (λ b. departing_event b (get_or events i d)) (sym is)

  pub moved_more : (made new : List Event) (f : Event) → Some f ≡ moved_if_on_axis first z (get_or events i d) →
      new ≡ made ++ f ∷ []
      → made ≡ map (moved_event z) (take i (arriving departs events)) →
      new ≡ map (moved_event z) (take (i + 1) (arriving departs events))
  moved_more made new f h more so =
      let e = departing_event first (get_or events i d) in
      let moved : f ≡ moved_event z (get_or (arriving departs events) i d) =
      (some_if (is_event_on_axis z e) (moved_event z e) f h).1 ∙ ap (moved_event z) (sym here) in
      more ∙ (λ k. so k ++ moved k ∷ []) ∙ sym
      (ap (map (moved_event z)) (take_more (arriving departs events) i d within)
      ∙ map-append (moved_event z) (take i (arriving departs events))
      (get_or (arriving departs events) i d ∷ []))

  pub on_axis_more : (f : Event) → Some f ≡ moved_if_on_axis first z (get_or events i d)
      → list_all (is_event_on_axis z) (take i (arriving departs events)) ≡ true →
      list_all (is_event_on_axis z) (take (i + 1) (arriving departs events)) ≡ true
  on_axis_more f h so =
      let e = departing_event first (get_or events i d) in
      let on : is_event_on_axis z (get_or (arriving departs events) i d) ≡ true =
      ap (is_event_on_axis z) here ∙ (some_if (is_event_on_axis z e) (moved_event z e) f h).0 in
      list_all_more (is_event_on_axis z) (arriving departs events) i d within ∙ (λ k. so k && on k)

  pub off_axis : None ≡ moved_if_on_axis first z (get_or events i d) →
      list_all (is_event_on_axis z) (arriving departs events) ≡ false
  off_axis h =
      let e = departing_event first (get_or events i d) in
      list_all_at (is_event_on_axis z) (arriving departs events) i d within (ap (is_event_on_axis z) here
      ∙ none_if (is_event_on_axis z e) (moved_event z e) h)

-- all events
pub all_taken : (departs : Bool) (events : List Event) (i : ℕ) → length events ≤ i →
    take i (arriving departs events) ≡ arriving departs events
all_taken departs events i le = let l = same_length departs events in take_all i (arriving departs events) (omega arith)
