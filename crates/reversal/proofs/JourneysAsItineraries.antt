-- A journey that ends by a deadline exists if and only if an itinerary of as many rides does.
use Rattle.std.proofs.Common.{◌≡◌, inl, inr, ℕ, zero, suc, ◌+◌, ◌≤◌}
use Rattle.std.proofs.Common.{List, [], ◌∷◌, Bool, true, false, cond, slice_index}
use Rattle.std.proofs.Common.{refl, ◌∙◌, ap, subst, add-one, arith}
use Rattle.timetable.specs.Footpaths.{IsFoot}
use Rattle.timetable.specs.Networks.{Net}
use Rattle.timetable.specs.Journeys.{EndsInNoWalk, Journey, Leg, Ride, Walk, Rides, Whereabouts, ready_at, rides}
use Rattle.reversal.proofs.Itineraries.{IsLink, Itinerary, RideBetween, LinkByWaiting, LinkOnFoot}

-- a link continues these legs, which ended at a, to b; a walk is not followed by another one
abbrev pub CanContinue : Net → Bool → List Leg → Whereabouts → Whereabouts → Type 0
CanContinue n after [] a b = IsLink n false a b
CanContinue n after (Ride trip j i ∷ before) a b = IsLink n after a b
CanContinue n after (Walk ∷ before) a b = LinkByWaiting n false a b

-- legs that lead to b's stop by b's time; if a ride follows, in time to change
pub record LegsInTime (n : Net) (o : Whereabouts) (k : ℕ) (after : Bool) (b : Whereabouts) : Type 0 where
  pub legs : List Leg
  pub a : Whereabouts
  pub journey : Journey n o legs a
  pub count : rides legs ≡ k
  pub here : a.stop ≡ b.stop
  pub ready : cond after (ready_at n legs a) a.time ≤ b.time

-- after a walk and at the start, it does not matter whether a ride follows
either_ready : (after : Bool) (s t : ℕ) → s ≤ t → cond after s s ≤ t
either_ready true s t h = h
either_ready false s t h = h

-- the change time counts only if a ride follows
change_ready : (after : Bool) (s c t : ℕ) → s + cond after c 0 ≤ t → cond after (s + c) s ≤ t
change_ready true s c t h = h
change_ready false s c t h = omega (arith, h)

module _ (n : Net) where
  -- a traveller who is ready to board can wait for the departure
  boards : (legs : List Leg) (a on : Whereabouts) → a.stop ≡ on.stop → ready_at n legs a ≤ on.time →
      CanContinue n true legs a on
  boards [] a on same ready = inl (record { same = same; in_time = omega (arith, ready) })
  boards (Ride trip j i ∷ before) a on same ready = inl (record { same = same; in_time = ready })
  boards (Walk ∷ before) a on same ready = record { same = same; in_time = omega (arith, ready) }

  -- a walk can follow legs that end in no walk
  strolls : (legs : List Leg) (after : Bool) (a b : Whereabouts) → EndsInNoWalk legs → LinkOnFoot n a b →
      CanContinue n after legs a b
  strolls [] after a b no_walk w = inr w
  strolls (Ride trip j i ∷ before) after a b no_walk w = inr w
  strolls (Walk ∷ before) after a b no_walk w = absurd no_walk

  -- a traveller who has arrived can wait
  pub waits : (legs : List Leg) (a b : Whereabouts) → a.stop ≡ b.stop → a.time ≤ b.time → CanContinue n false legs a b
  waits [] a b same low = inl (record { same = same; in_time = omega (arith, low) })
  waits (Ride trip j i ∷ before) a b same low = inl (record { same = same; in_time = omega (arith, low) })
  waits (Walk ∷ before) a b same low = record { same = same; in_time = omega (arith, low) }

  module _ (o : Whereabouts) where
    pub itinerary_of : (legs : List Leg) (a b : Whereabouts) (after : Bool) → Journey n o legs a →
        CanContinue n after legs a b → Itinerary n false o (rides legs) after b
    itinerary_of [] a b after j on = subst (λ x. IsLink n false x b) j on
    itinerary_of (Ride trip j i ∷ before) a b after (x, was, r) on =
        let leaves : Whereabouts = record { stop = r.on.stop.0; time = r.on.depart } in
        let rest = itinerary_of before x leaves true was (boards before x leaves r.here r.in_time) in
        let ride : RideBetween n leaves a = record {
          trip = trip;
          j = j;
          i = i;
          t = r.t;
          first = r.on;
          last = r.off;
          runs = r.runs;
          ride = r.ride;
          leaves = refl;
          arrives = r.there;
        } in
        rw (add-one (rides before)) (leaves, a, rest, ride, on)
    itinerary_of (Walk ∷ before) a b after (x, was, no_walk, w) on =
        itinerary_of before x b after was (strolls before after x b no_walk (record {
          seconds = w.seconds;
          foot = subst (λ s. IsFoot n.feet.walks x.stop s w.seconds) on.same w.foot;
          in_time = omega (arith, w.there, on.in_time);
        }))

    -- a link after a ride: the traveller waits, changes or walks
    after_ride : (k trip j i : ℕ) (before : List Leg) (after : Bool) (off b : Whereabouts) →
        Journey n o (Ride trip j i ∷ before) off → rides before ≡ k → IsLink n after off b →
        LegsInTime n o (suc k) after b
    after_ride k trip j i before after off b journey count (inl s) =
        record {
          legs = Ride trip j i ∷ before;
          a = off;
          journey = journey;
          count = add-one (rides before) ∙ ap suc count;
          here = s.same;
          ready = change_ready after off.time (slice_index n.feet.changes off.stop) b.time s.in_time;
        }
    after_ride k trip j i before after off b journey count (inr w) =
        let end : Whereabouts = record { stop = b.stop; time = off.time + w.seconds } in
        record {
          legs = Walk ∷ Ride trip j i ∷ before;
          a = end;
          journey = (off, journey, tt, record { seconds = w.seconds; foot = w.foot; there = refl });
          count = add-one (rides before) ∙ ap suc count;
          here = refl;
          ready = either_ready after end.time b.time w.in_time;
        }

    pub came : (k : ℕ) (after : Bool) (b : Whereabouts) → Itinerary n false o k after b → LegsInTime n o k after b
    came zero after b (inl s) =
        record {
          legs = [];
          a = o;
          journey = refl;
          count = refl;
          here = s.same;
          ready = either_ready after o.time b.time (omega (arith, s.in_time));
        }
    came zero after b (inr w) =
        let end : Whereabouts = record { stop = b.stop; time = o.time + w.seconds } in
        record {
          legs = Walk ∷ [];
          a = end;
          journey = (o, refl, tt, record { seconds = w.seconds; foot = w.foot; there = refl });
          count = refl;
          here = refl;
          ready = either_ready after end.time b.time w.in_time;
        }
    came (suc k) after b (on, off, rest, r, link) =
        let was = came k true on rest in
        let ride : Rides n.trips r.trip r.j r.i was.a (ready_at n was.legs was.a) off = record {
          t = r.t;
          on = r.first;
          off = r.last;
          runs = r.runs;
          ride = r.ride;
          here = was.here ∙ ap (λ (v : Whereabouts). v.stop) r.leaves;
          in_time = omega (arith, was.ready, ap (λ (v : Whereabouts). v.time) r.leaves);
          there = r.arrives;
        } in
        after_ride k r.trip r.j r.i was.legs after off b (was.a, was.journey, ride) was.count link
