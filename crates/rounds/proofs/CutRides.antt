-- Rides of a network, and of the same network with its times cut.
use Rattle.std.proofs.Common.{◌≡◌, ℕ, ◌-◌, ◌≤◌, List, map, slice_get, Some, sym, ◌∙◌, ap, subst, arith}
use Rattle.std.specs.Prelude.{IsTrue}
use Rattle.timetable.specs.declared.trips.Event.{Event}
use Rattle.timetable.specs.declared.trips.Trip.{Trip}
use Rattle.timetable.specs.Networks.{Net, IsNet}
use Rattle.timetable.specs.Journeys.{IsRide, Whereabouts, Rides}
use Rattle.trip_lanes.specs.Cut.{cut}
use Rattle.rounds.specs.Cut.{cut_event, cut_trip}
use Rattle.timetable.proofs.MappedLists.{map_got, map_put}
use Rattle.useful_minutes.proofs.LineEvents.{rises}

-- a ride on a trip, of which the times are told cut
pub record IsCutRide (base cap : ℕ) (trips : List Trip) (trip j i : ℕ) (a : Whereabouts) (ready : ℕ)
    (b : Whereabouts) : Type 0 where
  pub t : Trip
  pub on : Event
  pub off : Event
  pub runs : slice_get trips trip ≡ Some t
  pub ride : IsRide t j i on off
  pub here : a.stop ≡ on.stop.0
  pub in_time : ready ≤ cut base cap on.depart
  pub there : b ≡ record { stop = off.stop.0; time = cut base cap off.arrive }

module _ (base cap : ℕ) (trips : List Trip) (trip j i : ℕ) (a : Whereabouts) (ready : ℕ) (b : Whereabouts) where
  -- it is a ride on the cut trip
  pub cut_ride : IsCutRide base cap trips trip j i a ready b → Rides (map (cut_trip base cap) trips) trip j i a ready b
  cut_ride r =
      record {
        t = cut_trip base cap r.t;
        on = cut_event base cap r.on;
        off = cut_event base cap r.off;
        runs = map_put (cut_trip base cap) trips trip r.t r.runs;
        ride = record {
          from = map_put (cut_event base cap) r.t.events j r.on r.ride.from;
          to = map_put (cut_event base cap) r.t.events i r.off r.ride.to;
          later = r.ride.later;
          may_board = r.ride.may_board;
          may_alight = r.ride.may_alight;
        };
        here = r.here;
        in_time = r.in_time;
        there = r.there;
      }

  -- and each ride on the cut trip is such a one
  pub from_cut : Rides (map (cut_trip base cap) trips) trip j i a ready b → IsCutRide base cap trips trip j i a ready b
  from_cut r =
      let t = map_got (cut_trip base cap) trips trip r.t r.runs in
      let events : map (cut_event base cap) t.0.events ≡ r.t.events = ap (λ (u : Trip). u.events) t.2 in
      let on = map_got (cut_event base cap) t.0.events j r.on (ap (λ es. slice_get es j) events ∙ r.ride.from) in
      let off = map_got (cut_event base cap) t.0.events i r.off (ap (λ es. slice_get es i) events ∙ r.ride.to) in
      record {
        t = t.0;
        on = on.0;
        off = off.0;
        runs = t.1;
        ride = record {
          from = on.1;
          to = off.1;
          later = r.ride.later;
          may_board = subst (λ (e : Event). IsTrue e.board) (sym on.2) r.ride.may_board;
          may_alight = subst (λ (e : Event). IsTrue e.alight) (sym off.2) r.ride.may_alight;
        };
        here = r.here ∙ ap (λ (e : Event). e.stop.0) (sym on.2);
        in_time = subst (λ (e : Event). ready ≤ e.depart) (sym on.2) r.in_time;
        there = r.there ∙ ap (λ (e : Event). record { stop = e.stop.0; time = e.arrive }) (sym off.2);
      }

-- a ride ends no earlier than it begins
pub ride_rises : (n : Net) (ok : IsNet n) (trip j i : ℕ) (t : Trip) (on off : Event) → slice_get n.trips trip ≡ Some t →
    IsRide t j i on off → on.depart ≤ off.arrive
ride_rises n ok trip j i t on off runs r =
    rises n ok trip t runs (i - j - 1) j i on off (omega (arith, r.later)) r.from r.to
