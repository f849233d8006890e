-- A network whose stops have numbers of their own, and back.
use Rattle.std.proofs.Common.{◌≡◌, ℕ, ◌+◌, ◌<◌, ◌≤◌, List, [], ◌∷◌, length, map, slice_index, All, sum_by}
use Rattle.std.proofs.Common.{refl, sym, ◌∙◌, ap, arith}
use Rattle.std.proofs.lemmas.List.{length-map}
use Rattle.std.proofs.lemmas.List.Elements.{All-head, All-map, All-tail, All-weaker}
use Rattle.std.proofs.lemmas.List.Sums.{sum_by-cons}
use Rattle.timetable.specs.declared.limits.TheConstants.{END_OF_AXIS}
use Rattle.timetable.specs.declared.trips.Event.{Event}
use Rattle.timetable.specs.declared.trips.Trip.{Trip}
use Rattle.timetable.specs.Footpaths.{AreFeet, FeetData}
use Rattle.timetable.specs.Networks.{IsNet, Net}
use Rattle.timetable.specs.Numbering.{AreNumbers, number_in}
use Rattle.timetable.specs.Renumbering.{AreRenumbered, renumbered_event, renumbered_net, renumbered_trip}
use Rattle.timetable.specs.Trips.{EventsRise}
use Rattle.timetable.proofs.MappedLists.{map_got}

-- a function that takes back what another did to each item
map_back : {A : Type 0} (f g : A → A) (xs : List A) → All (λ x. g (f x) ≡ x) xs → map g (map f xs) ≡ xs
map_back f g [] all = refl
map_back f g (x ∷ xs) all =
    let here : g (f x) ≡ x = All-head (λ y. g (f y) ≡ y) x xs all in
    let rest = map_back f g xs (All-tail (λ y. g (f y) ≡ y) x xs all) in
    rw (here, rest) refl

module _ (stops : ℕ) (numbers order : List ℕ) (are : AreNumbers stops numbers order) where
  events_back : (events : List Event) → All (λ e. e.stop.0 < stops) events →
      map (renumbered_event (number_in order)) (map (renumbered_event (number_in numbers)) events) ≡ events
  events_back events low =
      map_back (renumbered_event (number_in numbers)) (renumbered_event (number_in order)) events
      (All-weaker (λ (e : Event). e.stop.0 < stops)
      (λ (e : Event). renumbered_event (number_in order) (renumbered_event (number_in numbers) e) ≡ e)
      (λ e l. ap (λ p. record {
        stop = record { 0 = p };
        arrive = e.arrive;
        depart = e.depart;
        board = e.board;
        alight = e.alight;
      }) (are.number e.stop.0 l).1) events low)

  -- stops by their numbers, and then the stops of these numbers
  pub trips_back : (trips : List Trip) → All (λ t. All (λ e. e.stop.0 < stops) t.events) trips →
      map (renumbered_trip (number_in order)) (map (renumbered_trip (number_in numbers)) trips) ≡ trips
  trips_back trips low =
      map_back (renumbered_trip (number_in numbers)) (renumbered_trip (number_in order)) trips
      (All-weaker (λ (t : Trip). All (λ e. e.stop.0 < stops) t.events)
      (λ (t : Trip). renumbered_trip (number_in order) (renumbered_trip (number_in numbers) t) ≡ t)
      (λ t l. ap (λ es. record { route = t.route; name = t.name; events = es }) (events_back t.events l)) trips low)

  -- each event is at a number of a stop
  pub trips_low : (trips : List Trip) → All (λ t. All (λ e. e.stop.0 < stops) t.events) trips →
      All (λ t. All (λ e. e.stop.0 < stops) t.events) (map (renumbered_trip (number_in numbers)) trips)
  trips_low trips low =
      All-map (λ (t : Trip). All (λ e. e.stop.0 < stops) t.events) (renumbered_trip (number_in numbers)) trips
      (All-weaker (λ (t : Trip). All (λ e. e.stop.0 < stops) t.events)
      (λ (t : Trip). All (λ e. e.stop.0 < stops) (map (renumbered_event (number_in numbers)) t.events))
      (λ t l. All-map (λ (e : Event). e.stop.0 < stops) (renumbered_event (number_in numbers)) t.events
      (All-weaker (λ (e : Event). e.stop.0 < stops) (λ (e : Event). slice_index numbers e.stop.0 < stops)
      (λ e h. (are.number e.stop.0 h).0) t.events l)) trips low)

  events_rise : (events : List Event) → EventsRise events →
      EventsRise (map (renumbered_event (number_in numbers)) events)
  events_rise events rise =
      let f = renumbered_event (number_in numbers) in
      record {
        stays = All-map (λ (e : Event). e.arrive ≤ e.depart) f events rise.stays;
        moves = λ k e g h i.
            let x = map_got f events k e h in
            let y = map_got f events (k + 1) g i in
            let up = rise.moves k x.0 y.0 x.1 y.1 in
            let a : x.0.depart ≡ e.depart = ap (λ (z : Event). z.depart) x.2 in
            let b : y.0.arrive ≡ g.arrive = ap (λ (z : Event). z.arrive) y.2 in
            omega (arith, up, a, b);
      }

  pub trips_rise : (trips : List Trip) → All (λ t. EventsRise t.events) trips →
      All (λ t. EventsRise t.events) (map (renumbered_trip (number_in numbers)) trips)
  trips_rise trips rise =
      All-map (λ (t : Trip). EventsRise t.events) (renumbered_trip (number_in numbers)) trips
      (All-weaker (λ (t : Trip). EventsRise t.events)
      (λ (t : Trip). EventsRise (map (renumbered_event (number_in numbers)) t.events))
      (λ t r. events_rise t.events r) trips rise)

  pub trips_axis : (trips : List Trip) → All (λ t. All (λ e. e.depart < END_OF_AXIS) t.events) trips →
      All (λ t. All (λ e. e.depart < END_OF_AXIS) t.events) (map (renumbered_trip (number_in numbers)) trips)
  trips_axis trips axis =
      All-map (λ (t : Trip). All (λ e. e.depart < END_OF_AXIS) t.events) (renumbered_trip (number_in numbers)) trips
      (All-weaker (λ (t : Trip). All (λ e. e.depart < END_OF_AXIS) t.events)
      (λ (t : Trip). All (λ e. e.depart < END_OF_AXIS) (map (renumbered_event (number_in numbers)) t.events))
      (λ t l. All-map (λ (e : Event). e.depart < END_OF_AXIS) (renumbered_event (number_in numbers)) t.events l) trips
      axis)

  same_sum : (trips : List Trip) →
      sum_by (λ t. length t.events) (map (renumbered_trip (number_in numbers)) trips) ≡
      sum_by (λ t. length t.events) trips
  same_sum [] = refl
  same_sum (t ∷ trips) =
      let f = renumbered_trip (number_in numbers) in
      let long : Trip → ℕ = λ u. length u.events in
      let rest = same_sum trips in
      omega (
        arith,
        sum_by-cons long t trips,
        sum_by-cons long (f t) (map f trips),
        rest,
        length-map t.events (renumbered_event (number_in numbers)),
      )

  -- a network by the numbers of its stops
  module _ (n : Net) (ok : IsNet n) (same : n.stops ≡ stops) (near : FeetData) (fine : AreFeet near)
      (lists : length near.walks ≡ stops) (feet : AreRenumbered (number_in numbers) stops n.feet near) where
    low : All (λ t. All (λ e. e.stop.0 < stops) t.events) n.trips
    low = rw (← same) ok.in_range.events

    pub net_again : IsNet (renumbered_net numbers n near)
    net_again =
        record {
          feet = fine;
          in_range = record { lists = lists ∙ sym same; events = rw same (trips_low n.trips low) };
          rise = trips_rise n.trips ok.rise;
          within = record {
            few = omega (arith, length-map n.trips (renumbered_trip (number_in numbers)), ok.within.few);
            events = omega (arith, same_sum n.trips, ok.within.events);
            axis = trips_axis n.trips ok.within.axis;
          };
        }
