-- A mirrored network is an accepted network, it is unique, and mirrored again it is the original network.
use Rattle.std.proofs.Common.{inl, inr, ◌≡◌, ℕ, ◌+◌, ◌-◌, ◌<◌, ◌≤◌}
use Rattle.std.proofs.Common.{List, length, map, get_or, slice_get, Some, All, sum_by}
use Rattle.std.proofs.Common.{refl, sym, ◌∙◌, ap, subst, arith}
use Rattle.std.specs.Prelude.{reverse}
use Rattle.std.proofs.lemmas.List.{length-map, length-reverse}
use Rattle.std.proofs.lemmas.List.Elements.{All-map}
use Rattle.std.proofs.lemmas.List.Sums.{sum_by-le-sum_by}
use Rattle.std.proofs.lemmas.Option.{slice_get_within}
use Rattle.timetable.specs.declared.limits.TheConstants.{END_OF_AXIS}
use Rattle.timetable.specs.declared.trips.Event.{Event}
use Rattle.timetable.specs.declared.trips.Trip.{Trip}
use Rattle.timetable.specs.Trips.{EventsRise}
use Rattle.timetable.specs.Footpaths.{AreFeet}
use Rattle.timetable.specs.Networks.{Net}
use Rattle.timetable.proofs.MappedLists.{map_got}
use Rattle.reversal.specs.Mirror.{IsMirrored, mirrored, mirrored_event, mirrored_trip}
use Rattle.reversal.specs.Laws.{LastDeparturesAreHorizons, MirroredNetworksAreNetworks}
use Rattle.reversal.specs.Laws.{MirroredTwiceIsOriginal, MirroredNetworksAreUnique}
use Rattle.reversal.proofs.MirroredFeet.{are_feet, are_mirrored, lists_count, same_feet}
use Rattle.reversal.proofs.MirroredParts.{reverse_got}
use Rattle.reversal.proofs.MirroredTwice.{All-reverse, mirrored_back}
use Rattle.reversal.proofs.ReversedPairs.{sum_mapped}

module _ (h : ℕ) where
  -- a property that mirroring takes from each event to its image
  each_event : (P Q : Event → Type 0) → ((e : Event) → P e → Q (mirrored_event h e)) → (events : List Event) →
      All P events → All Q (reverse (map (mirrored_event h) events))
  each_event P Q step events all =
      All-reverse Q (map (mirrored_event h) events)
      (All-map Q (mirrored_event h) events (λ k d l. step (get_or events k d) (all k d l)))

  each_trip : (P Q : Event → Type 0) → ((e : Event) → P e → Q (mirrored_event h e)) → (trips : List Trip) →
      All (λ (t : Trip). All P t.events) trips → All (λ (t : Trip). All Q t.events) (map (mirrored_trip h) trips)
  each_trip P Q step trips all =
      All-map (λ (t : Trip). All Q t.events) (mirrored_trip h) trips
      (λ k d l. each_event P Q step (get_or trips k d).events (all k d l))

  pub events_rise : (events : List Event) → EventsRise events → EventsRise (reverse (map (mirrored_event h) events))
  events_rise events rise =
      record {
        stays = each_event (λ (e : Event). e.arrive ≤ e.depart) (λ (e : Event). e.arrive ≤ e.depart)
            (λ e low. omega (arith, low)) events rise.stays;
        moves = λ k e g here next.
            let f = mirrored_event h in
            let xs : List Event = map (mirrored_event h) events in
            let within : k + 1 < length xs =
            omega (arith, slice_get_within (reverse xs) (k + 1) g next, length-reverse xs) in
            let late = map_got f events (length xs - 1 - k) e (reverse_got xs k e here) in
            let early = map_got f events (length xs - 1 - (k + 1)) g (reverse_got xs (k + 1) g next) in
            let follows : length xs - 1 - k ≡ length xs - 1 - (k + 1) + 1 = omega arith in
            let low = rise.moves (length xs - 1 - (k + 1)) early.0 late.0 early.1
            (subst (λ (j : ℕ). slice_get events j ≡ Some late.0) follows late.1) in
            let leaves : h - late.0.arrive ≡ e.depart = ap (λ (v : Event). v.depart) late.2 in
            let comes : h - early.0.depart ≡ g.arrive = ap (λ (v : Event). v.arrive) early.2 in
            omega (arith, low, leaves, comes);
      }

  as_many : (trips : List Trip) → sum_by (λ (t : Trip). length t.events) (map (mirrored_trip h) trips)
      ≤ sum_by (λ (t : Trip). length t.events) trips
  as_many trips =
      let long : Trip → ℕ = λ t. length t.events in
      let each = sum_by-le-sum_by (λ (t : Trip). length (mirrored_trip h t).events) long trips (λ t.
      omega (arith, length-reverse (map (mirrored_event h) t.events), length-map t.events (mirrored_event h))) in
      omega (arith, sum_mapped long (mirrored_trip h) trips, each)

pub mirrored_is_net : MirroredNetworksAreNetworks
mirrored_is_net h n ok low = (
  record { stops = refl; trips = refl; feet = are_mirrored n.feet ok.feet },
  record {
    feet = are_feet n.feet ok.feet;
    in_range = record {
      lists = lists_count n.feet ok.feet ∙ ok.in_range.lists;
      events = each_trip h (λ (e : Event). e.stop.0 < n.stops) (λ (e : Event). e.stop.0 < n.stops) (λ e l. l) n.trips
          ok.in_range.events;
    };
    rise = All-map (λ (t : Trip). EventsRise t.events) (mirrored_trip h) n.trips
        (λ k d l. events_rise h (get_or n.trips k d).events (ok.rise k d l));
    within = record {
      few = omega (arith, length-map n.trips (mirrored_trip h), ok.within.few);
      events = omega (arith, as_many h n.trips, ok.within.events);
      axis = each_trip h (λ (e : Event). e.depart < END_OF_AXIS) (λ (e : Event). e.depart < END_OF_AXIS)
          (λ e l. omega (arith, low)) n.trips ok.within.axis;
    };
  },
)

-- two mirrored networks of one network are the same
one_mirrored : (h : ℕ) (n m o : Net) → AreFeet m.feet → AreFeet o.feet → length m.feet.walks ≡ length o.feet.walks →
    IsMirrored h n m → IsMirrored h n o → m ≡ o
one_mirrored h n m o ok fine lists is are =
    let stops : m.stops ≡ o.stops = is.stops ∙ sym are.stops in
    let trips : m.trips ≡ o.trips = is.trips ∙ sym are.trips in
    let feet : m.feet ≡ o.feet = same_feet n.feet m.feet o.feet ok fine lists is.feet are.feet in
    ap (λ (s : ℕ). record { stops = s; trips = m.trips; feet = m.feet }) stops
    ∙ (ap (λ (ts : List Trip). record { stops = o.stops; trips = ts; feet = m.feet }) trips
    ∙ ap (λ f. record { stops = o.stops; trips = o.trips; feet = f }) feet)

pub mirrored_is_unique : MirroredNetworksAreUnique
mirrored_is_unique h n m ok fine is =
    one_mirrored h n m (mirrored h n) fine.feet (are_feet n.feet ok.feet)
    (fine.in_range.lists ∙ (is.stops ∙ (sym ok.in_range.lists ∙ sym (lists_count n.feet ok.feet)))) is
    (record { stops = refl; trips = refl; feet = are_mirrored n.feet ok.feet })

pub mirrored_twice : MirroredTwiceIsOriginal
mirrored_twice h n ok ends =
    let once : IsMirrored h n (mirrored h n) =
    record { stops = refl; trips = refl; feet = are_mirrored n.feet ok.feet } in
    let feet = are_feet n.feet ok.feet in
    one_mirrored h (mirrored h n) (mirrored h (mirrored h n)) n (are_feet (mirrored h n).feet feet) ok.feet
    (lists_count (mirrored h n).feet feet ∙ lists_count n.feet ok.feet)
    (record { stops = refl; trips = refl; feet = are_mirrored (mirrored h n).feet feet })
    (mirrored_back h n (mirrored h n) ends once)

pub last_departures_are_horizons : LastDeparturesAreHorizons
last_departures_are_horizons h n ok (inl low) =
    λ i d l k e m.
    let stays = (ok.rise i d l).stays k e m in
    let departs = low i d l k e m in
    (omega (arith, stays, departs), departs)
last_departures_are_horizons h n ok (inr end) =
    λ i d l k e m.
    let stays = (ok.rise i d l).stays k e m in
    let departs = ok.within.axis i d l k e m in
    (omega (arith, stays, departs, end), omega (arith, departs, end))
