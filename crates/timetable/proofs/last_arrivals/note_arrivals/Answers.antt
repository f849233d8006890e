use Rattle.std.proofs.Common.{◌≡◌, ℕ, ◌<◌, ◌≤◌, ◌⊎◌, inl, inr, List, length, get_or, slice_get, slice_index}
use Rattle.std.proofs.Common.{Some, IsTrue, rules, sym, ◌∙◌, arith}
use Rattle.std.proofs.lemmas.Bool.{false≢true}
use Rattle.std.proofs.lemmas.Option.{slice_get-get_or}
use Rattle.timetable.specs.declared.trips.Event.{Event}
use Rattle.timetable.proofs.ElementsInRange.{at_more, at_all}
use Rattle.timetable.proofs.last_arrivals.note_arrivals.Goals as goal
use Rattle.timetable.proofs.last_arrivals.note_arrivals.Goals.{then-event, else-event}

-- the number of a stop is as it was, or some event's arrival there
abbrev Told : List Event → List ℕ → List ℕ → ℕ → Type 0
Told events old new p =
    (slice_index new p ≡ slice_index old p)
    ⊎ ((k : ℕ) × (e : Event) × (slice_get events k ≡ Some e) × IsTrue e.alight × (e.stop.0 ≡ p)
    × (e.arrive ≡ slice_index new p))

-- an event arrives no later than the number of its stop, where travellers may alight
abbrev Noted : List ℕ → ℕ → Event → Type 0
Noted ridden k e = IsTrue e.alight → e.arrive ≤ slice_index ridden e.stop.0

-- an event more raises the number of its stop, or none
told_more : (events : List Event) (i : ℕ) (d : Event) (old mid new : List ℕ) (p : ℕ) → i < length events →
    IsTrue (get_or events i d).alight → Told events old mid p →
    (slice_index new p ≡ slice_index mid p)
    ⊎ ((p ≡ (get_or events i d).stop.0) × (slice_index new p ≡ (get_or events i d).arrive)) →
    Told events old new p
told_more events i d old mid new p l may (inl e) (inl same) = inl (same ∙ e)
told_more events i d old mid new p l may (inr x) (inl same) = inr (x.0, x.1, x.2, x.3, x.4, x.5 ∙ sym same)
told_more events i d old mid new p l may before (inr here) =
    inr (i, get_or events i d, slice_get-get_or events i d l, may, sym here.0, sym here.1)

pub loop-event-preserved : goal.loop-event-preserved
loop-event-preserved c = elim c.if-event.branch [
  | then-event w ↦
      rw w.ridden-is (record {
        here = at_more (Noted w.raise.new.last) c.args.events.now c.loop-event.event-index _ c.loop-event-test.true
            (λ k e lt at may.
            let low = c.loop-event.invariant.here k e lt at may in
            let up = w.raise.ensures.rises e.stop.0 in
            omega arith) (λ may. w.raise.ensures.here);
        told = λ p. told_more c.args.events.now c.loop-event.event-index _ c.args.ridden.now c.loop-event.ridden
            w.raise.new.last p c.loop-event-test.true w.if-event.true (c.loop-event.invariant.told p)
            (w.raise.ensures.told p);
        rises = λ p.
            let low = c.loop-event.invariant.rises p in
            let up = w.raise.ensures.rises p in
            omega arith;
        early = search rules;
      })
  | else-event w ↦
      rw w.ridden-is (record {
        here = at_more (Noted c.loop-event.ridden) c.args.events.now c.loop-event.event-index _ c.loop-event-test.true
            c.loop-event.invariant.here (λ may. absurd (false≢true (sym w.if-event.false ∙ may)));
        told = c.loop-event.invariant.told;
        rises = c.loop-event.invariant.rises;
        early = c.loop-event.invariant.early;
      })
]

pub returns-clause-here : goal.returns-clause-here
returns-clause-here c =
    at_all (Noted c.loop-event.ridden) c.args.events.now c.loop-event.event-index c.loop-event-test.false
    c.loop-event.invariant.here
