-- Journeys of a network, and of the same network with its stops numbered anew.
use Rattle.std.proofs.Common.{◌≡◌, ℕ, ◌+◌, ◌<◌, List, [], ◌∷◌, map, slice_get, IsTrue, refl, sym, ◌∙◌, ap, subst, arith}
use Rattle.std.proofs.lemmas.Option.{slice_get_within}
use Rattle.timetable.specs.declared.trips.Event.{Event}
use Rattle.timetable.specs.declared.trips.Trip.{Trip}
use Rattle.timetable.specs.Footpaths.{IsFoot}
use Rattle.timetable.specs.Networks.{Net, IsNet, IsEvent}
use Rattle.timetable.specs.Journeys.{Whereabouts, Leg, Ride, Walk, Journey, Rides, ready_at, IsReached}
use Rattle.timetable.specs.Renumbering.{renumbered_event, renumbered_trip, IsRenumbered, RenumberedStopsKeepDurations}
use Rattle.timetable.specs.Renumbering.{RenumberedStopsKeepLabels}
use Rattle.timetable.proofs.KnownParts.{event_stop, foot_in_range}
use Rattle.timetable.proofs.MappedLists.{map_got, map_put}

-- where somebody is, by the new numbers
abbrev moved : (ℕ → ℕ) → Whereabouts → Whereabouts
moved number a = record { stop = number a.stop; time = a.time }

-- a journey of the renumbered network is one of the network itself
record IsMoved (number : ℕ → ℕ) (n : Net) (o : Whereabouts) (legs : List Leg) (b : Whereabouts) : Type 0 where
  a : Whereabouts
  journey : Journey n o legs a
  there : b ≡ moved number a
  within : a.stop < n.stops

module _ (number : ℕ → ℕ) (n m : Net) (ok : IsNet n) (is : IsRenumbered number n m) (o : Whereabouts)
    (at_stop : o.stop < n.stops) where
  -- whoever is at a stop of the network is ready there at the same time
  same_ready : (legs : List Leg) (a : Whereabouts) → a.stop < n.stops →
      ready_at m legs (moved number a) ≡ ready_at n legs a
  same_ready [] a low = refl
  same_ready (Ride trip j i ∷ before) a low = ap (λ (s : ℕ). a.time + s) (is.feet.changes a.stop low)
  same_ready (Walk ∷ before) a low = refl

  -- each journey ends at a stop of the network
  ends_within : (legs : List Leg) (b : Whereabouts) → Journey n o legs b → b.stop < n.stops
  ends_within [] b j = rw j at_stop
  ends_within (Ride trip i k ∷ before) b (a, j, r) =
      let off : IsEvent n.trips trip k r.off = (r.t, r.runs, r.ride.to) in
      let stop = event_stop n ok trip k r.off off in
      rw r.there stop
  ends_within (Walk ∷ before) b (a, j, no_walk, w) =
      let target = foot_in_range n.feet ok.feet a.stop b.stop w.seconds w.foot in
      omega (arith, ok.in_range.lists, target.0)

  -- a ride of the network is one by the new numbers
  ride_forth : (trip j i ready : ℕ) (a b : Whereabouts) → Rides n.trips trip j i a ready b →
      Rides m.trips trip j i (moved number a) ready (moved number b)
  ride_forth trip j i ready a b r =
      record {
        t = renumbered_trip number r.t;
        on = renumbered_event number r.on;
        off = renumbered_event number r.off;
        runs = rw is.trips (map_put (renumbered_trip number) n.trips trip r.t r.runs);
        ride = record {
          from = map_put (renumbered_event number) r.t.events j r.on r.ride.from;
          to = map_put (renumbered_event number) r.t.events i r.off r.ride.to;
          later = r.ride.later;
          may_board = r.ride.may_board;
          may_alight = r.ride.may_alight;
        };
        here = ap number r.here;
        in_time = r.in_time;
        there = ap (moved number) r.there;
      }

  journey_forth : (legs : List Leg) (b : Whereabouts) → Journey n o legs b →
      Journey m (moved number o) legs (moved number b)
  journey_forth [] b j = ap (moved number) j
  journey_forth (Ride trip i k ∷ before) b (a, j, r) = (
    moved number a,
    journey_forth before a j,
    rw (same_ready before a (ends_within before a j)) (ride_forth trip i k (ready_at n before a) a b r),
  )
  journey_forth (Walk ∷ before) b (a, j, no_walk, w) = (
    moved number a,
    journey_forth before a j,
    no_walk,
    record { seconds = w.seconds; foot = is.feet.forth a.stop b.stop w.seconds w.foot; there = w.there },
  )

  -- a ride by the new numbers, from where a journey of the network ends, is one of the network
  ride_back : (trip j i ready : ℕ) (legs : List Leg) (a x b : Whereabouts) → x ≡ moved number a → a.stop < n.stops →
      Journey n o legs a → ready ≡ ready_at n legs a → Rides m.trips trip j i x ready b →
      IsMoved number n o (Ride trip j i ∷ legs) b
  ride_back trip j i ready legs a x b here low before same r =
      let t = map_got (renumbered_trip number) n.trips trip r.t (rw (← is.trips) r.runs) in
      let events : map (renumbered_event number) t.0.events ≡ r.t.events = ap (λ (u : Trip). u.events) t.2 in
      let on = map_got (renumbered_event number) t.0.events j r.on (ap (λ es. slice_get es j) events ∙ r.ride.from) in
      let off = map_got (renumbered_event number) t.0.events i r.off (ap (λ es. slice_get es i) events ∙ r.ride.to) in
      let from : IsEvent n.trips trip j on.0 = (t.0, t.1, on.1) in
      let to : IsEvent n.trips trip i off.0 = (t.0, t.1, off.1) in
      let at : number a.stop ≡ number on.0.stop.0 = sym (ap (λ (v : Whereabouts). v.stop) here)
      ∙ (r.here ∙ ap (λ (e : Event). e.stop.0) (sym on.2)) in
      let stop : a.stop ≡ on.0.stop.0 = is.one_to_one a.stop on.0.stop.0 low (event_stop n ok trip j on.0 from) at in
      let departs : on.0.depart ≡ r.on.depart = ap (λ (e : Event). e.depart) on.2 in
      record {
        a = record { stop = off.0.stop.0; time = off.0.arrive };
        journey = (
          a,
          before,
          record {
            t = t.0;
            on = on.0;
            off = off.0;
            runs = t.1;
            ride = record {
              from = on.1;
              to = off.1;
              later = r.ride.later;
              may_board = subst (λ (e : Event). IsTrue e.board) (sym on.2) r.ride.may_board;
              may_alight = subst (λ (e : Event). IsTrue e.alight) (sym off.2) r.ride.may_alight;
            };
            here = stop;
            in_time = omega (arith, r.in_time, same, departs);
            there = refl;
          },
        );
        there = r.there ∙ ap (λ (e : Event). record { stop = e.stop.0; time = e.arrive }) (sym off.2);
        within = event_stop n ok trip i off.0 to;
      }

  journey_back : (legs : List Leg) (b : Whereabouts) → Journey m (moved number o) legs b → IsMoved number n o legs b
  journey_back [] b j = record { a = o; journey = refl; there = j; within = at_stop }
  journey_back (Ride trip i k ∷ before) b (x, j, r) =
      let was = journey_back before x j in
      let same : ready_at m before x ≡ ready_at n before was.a =
      ap (ready_at m before) was.there ∙ same_ready before was.a was.within in
      ride_back trip i k (ready_at m before x) before was.a x b was.there was.within was.journey same r
  journey_back (Walk ∷ before) b (x, j, no_walk, w) =
      let was = journey_back before x j in
      let foot = is.feet.back x.stop b.stop w.seconds w.foot in
      let range = foot_in_range n.feet ok.feet foot.0 foot.1 w.seconds foot.2 in
      let source = slice_get_within n.feet.walks foot.0 foot.2.0 foot.2.2 in
      let at : number was.a.stop ≡ number foot.0 = sym (ap (λ (v : Whereabouts). v.stop) was.there) ∙ foot.3 in
      let stop : was.a.stop ≡ foot.0 = is.one_to_one was.a.stop foot.0 was.within (omega (
        arith,
        ok.in_range.lists,
        source,
      )) at in
      let sooner : x.time ≡ was.a.time = ap (λ (v : Whereabouts). v.time) was.there in
      record {
        a = record { stop = foot.1; time = b.time };
        journey = (
          was.a,
          was.journey,
          no_walk,
          record {
            seconds = w.seconds;
            foot = subst (λ (s : ℕ). IsFoot n.feet.walks s foot.1 w.seconds) (sym stop) foot.2;
            there = w.there ∙ ap (λ (s : ℕ). s + w.seconds) sooner;
          },
        );
        there = ap (λ (s : ℕ). record { stop = s; time = b.time }) foot.4;
        within = omega (arith, ok.in_range.lists, range.0);
      }

  reached_forth : (k p time : ℕ) → IsReached n o k p time → IsReached m (moved number o) k (number p) time
  reached_forth k p time r =
      record {
        legs = r.legs;
        journey = journey_forth r.legs (record { stop = p; time = time }) r.journey;
        few = r.few;
      }

  reached_back : (k p time : ℕ) → p < n.stops → IsReached m (moved number o) k (number p) time → IsReached n o k p time
  reached_back k p time low r =
      let was = journey_back r.legs (record { stop = number p; time = time }) r.journey in
      let stop : p ≡ was.a.stop = is.one_to_one p was.a.stop low was.within
      (ap (λ (v : Whereabouts). v.stop) was.there) in
      let end : time ≡ was.a.time = ap (λ (v : Whereabouts). v.time) was.there in
      record {
        legs = r.legs;
        journey = subst (λ (t : ℕ). Journey n o r.legs (record { stop = p; time = t })) (sym end)
            (subst (λ (s : ℕ). Journey n o r.legs (record { stop = s; time = was.a.time })) (sym stop) was.journey);
        few = r.few;
      }

pub durations_stay : RenumberedStopsKeepDurations
durations_stay number n m origin depart k p d ok is at_stop low = (
  reached_forth number n m ok is (record { stop = origin; time = depart }) at_stop k p (depart + d),
  reached_back number n m ok is (record { stop = origin; time = depart }) at_stop k p (depart + d) low,
)

pub labels_stay : RenumberedStopsKeepLabels
labels_stay number n m origin depart k p label ok is at_stop low = (
  λ one. record {
    holds = λ some. (durations_stay number n m origin depart k p label ok is at_stop low).0 (one.holds some);
    least = λ d r. one.least d ((durations_stay number n m origin depart k p d ok is at_stop low).1 r);
    none = λ never d r. one.none never d ((durations_stay number n m origin depart k p d ok is at_stop low).1 r);
  },
  λ one. record {
    holds = λ some. (durations_stay number n m origin depart k p label ok is at_stop low).1 (one.holds some);
    least = λ d r. one.least d ((durations_stay number n m origin depart k p d ok is at_stop low).0 r);
    none = λ never d r. one.none never d ((durations_stay number n m origin depart k p d ok is at_stop low).0 r);
  },
)
