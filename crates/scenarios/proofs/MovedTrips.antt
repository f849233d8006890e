-- What is true of the trips of runs: stops in range, times that never fall, and all of them on the axis.
use Rattle.std.proofs.Common.{◌≡◌, ◌∙◌, ◌<◌, ◌≤◌, ◌+◌, ◌&&◌, ℕ, zero, suc, ℤ, pos, negsuc, ◌+ℤ◌, Bool, true, false, not}
use Rattle.std.proofs.Common.{if◌then◌else◌, List, [], ◌∷◌, Option, Some, None, length, map, get_or, ap, sym, refl}
use Rattle.std.proofs.Common.{arith}
use Rattle.std.specs.Prelude.{All, int_lt, nat_le, option_map, slice_get, sum_by, unsigned_abs}
use Rattle.std.specs.List.{list_all}
use Rattle.std.proofs.lemmas.Bool.Decides.{nat_tests}
use Rattle.std.proofs.lemmas.Int.{ints}
use Rattle.std.proofs.lemmas.List.{length-map}
use Rattle.std.proofs.lemmas.List.Elements.{All-cons, All-head, All-map, All-nil, All-tail, All-weaker}
use Rattle.std.proofs.lemmas.Option.{same_Some, slice_get-get_or, slice_get-map, slice_get_within}
use Rattle.std.proofs.lemmas.Bool.{and_parts}
use Rattle.timetable.specs.Trips.{EventsRise}
use Rattle.timetable.specs.Faults.{IsNetFault}
use Rattle.timetable.specs.Footpaths.{FeetData}
use Rattle.timetable.specs.Networks.{Net, NetInRange, NetWithin}
use Rattle.timetable.specs.declared.faults.NetFault.{NetFault}
use Rattle.timetable.specs.declared.faults.NetFault.TheVariants.{Memory, StopRange, TimesGoBack, TooLarge}
use Rattle.timetable.specs.declared.limits.TheConstants.{END_OF_AXIS, MOST_EVENTS, MOST_TRIPS}
use Rattle.timetable.specs.declared.trips.Event.{Event}
use Rattle.timetable.specs.declared.trips.Trip.{Trip}
use Rattle.gtfs_tables.specs.declared.trip.FeedTrip.{FeedTrip}
use Rattle.gtfs_tables.specs.Feed.{FeedData, IsFeed}
use Rattle.gtfs_tables.proofs.ServiceNumbers.{all_pass}
use Rattle.service_days.specs.Instances.{has_rows, instance_events}
use Rattle.service_days.specs.declared.run.Run.{Run}
use Rattle.service_days.proofs.RunFacts.{all_parts}
use Rattle.service_days.proofs.RunLists.{all_at}
use Rattle.scenarios.specs.Edits.{keeps_of}
use Rattle.scenarios.specs.Networks.{are_few, are_on_axis, fits, is_event_on_axis, is_on_axis, kept_trip, moved_event}
use Rattle.scenarios.specs.Networks.{moved_time, moved_trip, stays, sum_of, trips_of}
use Rattle.scenarios.specs.Moving.{arriving}
use Rattle.scenarios.specs.ScenarioData.{ScenarioData}

-- a moved time that is on the axis
on_axis : (z : ℤ) (time : ℕ) → is_on_axis z time ≡ true →
    (pos (moved_time z time) ≡ pos time +ℤ z) × (moved_time z time < END_OF_AXIS)
on_axis z time h = moved (pos time +ℤ z) h
  where
    moved : (s : ℤ) → (not (int_lt s (pos 0)) && int_lt s (pos END_OF_AXIS)) ≡ true →
        (pos (unsigned_abs s) ≡ s) × (unsigned_abs s < END_OF_AXIS)
    moved (pos n) h = let b = and_parts (not (int_lt (pos n) (pos 0))) (int_lt (pos n) (pos END_OF_AXIS)) h in
        (refl, grind (arith, nat_tests, b.1))
    moved (negsuc n) h = cc h

no_later : (z : ℤ) (a b : ℕ) → is_on_axis z a ≡ true → is_on_axis z b ≡ true → a ≤ b → moved_time z a ≤ moved_time z b
no_later z a b ha hb le = let x = on_axis z a ha in let y = on_axis z b hb in let e = x.0 in let f = y.0 in
    omega (arith, ints)

at_map : (g : Event → Event) (xs : List Event) (k : ℕ) (e : Event) → slice_get (map g xs) k ≡ Some e →
    (x : Event) × (slice_get xs k ≡ Some x) × (e ≡ g x)
at_map g xs k e at =
    let within = slice_get_within (map g xs) k e at in
    let same = length-map xs g in
    let x = get_or xs k e in
    let here : slice_get xs k ≡ Some x = slice_get-get_or xs k e (omega arith) in
    let there : slice_get (map g xs) k ≡ Some (g x) = slice_get-map g xs k ∙ ap (option_map g) here in
    (x, here, same_Some e (g x) (sym at ∙ there))

-- times that never fall don't after a move either
rises_moved : (z : ℤ) (xs : List Event) → EventsRise xs → list_all (is_event_on_axis z) xs ≡ true →
    EventsRise (map (moved_event z) xs)
rises_moved z xs rise on =
    let fits : All (λ x. is_event_on_axis z x ≡ true) xs = all_pass (is_event_on_axis z) xs on in
    record {
      stays = All-map (λ e. e.arrive ≤ e.depart) (moved_event z) xs
          (λ k d lt.
          let x = get_or xs k d in
          let b = and_parts (is_on_axis z x.arrive) (is_on_axis z x.depart) (fits k d lt) in
          no_later z x.arrive x.depart b.0 b.1 (rise.stays k d lt));
      moves = λ k e f at next.
          let x = at_map (moved_event z) xs k e at in
          let y = at_map (moved_event z) xs (k + 1) f next in
          let bx = and_parts (is_on_axis z x.0.arrive) (is_on_axis z x.0.depart)
          (all_at (λ x. is_event_on_axis z x ≡ true) xs k x.0 x.1 fits) in
          let by = and_parts (is_on_axis z y.0.arrive) (is_on_axis z y.0.depart)
          (all_at (λ x. is_event_on_axis z x ≡ true) xs (k + 1) y.0 y.1 fits) in
          let le = no_later z x.0.depart y.0.arrive bx.1 by.0 (rise.moves k x.0 y.0 x.1 y.1) in
          let ex = ap (λ (e : Event). e.depart) x.2 in
          let fy = ap (λ (e : Event). e.arrive) y.2 in
          omega (arith, le, ex, fy);
    }

-- nor do they where the first arrival is the first departure
pub rises_arriving : (departs : Bool) (events : List Event) → EventsRise events → EventsRise (arriving departs events)
rises_arriving false events rise = rise
rises_arriving true [] rise = rise
rises_arriving true (first ∷ events) rise = record {
  stays = All-cons (λ e. e.arrive ≤ e.depart) (record first { arrive = first.depart }) events (omega arith)
      (All-tail (λ e. e.arrive ≤ e.depart) first events rise.stays);
  moves = λ k e f at next. moved k e f at next;
}
  where
    moved : (k : ℕ) (e f : Event) → slice_get (record first { arrive = first.depart } ∷ events) k ≡ Some e →
        slice_get (record first { arrive = first.depart } ∷ events) (k + 1) ≡ Some f → e.depart ≤ f.arrive
    moved zero e f at next =
        let after : slice_get (first ∷ events) (0 + 1) ≡ Some f = next in
        let same = ap (λ (x : Event). x.depart) (same_Some (record first { arrive = first.depart }) e at) in
        let le = rise.moves 0 first f refl after in
        omega (arith, le, same)
    moved (suc k) e f at next =
        let one : suc k + 1 ≡ suc (suc k) = omega arith in
        let after : slice_get (first ∷ events) (suc k + 1) ≡ Some f =
        ap (slice_get (first ∷ events)) one ∙ sym
        (ap (slice_get (record first { arrive = first.depart } ∷ events)) one) ∙ next in
        rise.moves (suc k) e f at after

at_stops : (stops : ℕ) (departs : Bool) (events : List Event) → All (λ e. e.stop.0 < stops) events →
    All (λ e. e.stop.0 < stops) (arriving departs events)
at_stops stops false events h = h
at_stops stops true [] h = h
at_stops stops true (first ∷ events) h =
    All-cons (λ e. e.stop.0 < stops) (record first { arrive = first.depart }) events
    (All-head (λ e. e.stop.0 < stops) first events h)
    (All-tail (λ e. e.stop.0 < stops) first events h)

-- a trip that a network can have
record IsFit (stops : ℕ) (t : Trip) : Type 0 where
  pub at : All (λ e. e.stop.0 < stops) t.events
  pub rise : EventsRise t.events
  pub axis : All (λ e. e.depart < END_OF_AXIS) t.events

fit_trip : (feed : FeedData) → IsFeed feed → (scenario : ScenarioData) (run : Run) (t : FeedTrip) →
    slice_get feed.trips run.trip ≡ Some t
    → list_all (is_event_on_axis (sum_of scenario run)) (instance_events t) ≡ true →
    IsFit (length feed.stops) (moved_trip t run.trip (sum_of scenario run))
fit_trip feed is scenario run t at on =
    let z = sum_of scenario run in
    let events = instance_events t in
    record {
      at = All-map (λ e. e.stop.0 < length feed.stops) (moved_event z) events
          (at_stops (length feed.stops) (has_rows t) t.events
          (all_at (λ (t : FeedTrip). All (λ e. e.stop.0 < length feed.stops) t.events) feed.trips run.trip
          t at is.at_stops));
      rise = rises_moved z events (rises_arriving (has_rows t) t.events
          (all_at (λ (t : FeedTrip). EventsRise t.events) feed.trips run.trip t at is.rise)) on;
      axis = All-map (λ e. e.depart < END_OF_AXIS) (moved_event z) events
          (All-weaker (λ e. is_event_on_axis z e ≡ true) (λ e. moved_time z e.depart < END_OF_AXIS)
          (λ e h. (on_axis z e.depart (and_parts (is_on_axis z e.arrive) (is_on_axis z e.depart) h).1).1) events
          (all_pass (is_event_on_axis z) events on));
    }

fit_run : (feed : FeedData) → IsFeed feed → (scenario : ScenarioData) (run : Run) (o : Option FeedTrip) →
    slice_get feed.trips run.trip ≡ o → stays scenario run o ≡ true →
    All (IsFit (length feed.stops)) (kept_trip scenario run o)
fit_run feed is scenario run None at h = All-nil (IsFit (length feed.stops))
fit_run feed is scenario run (Some t) at h = if_kept (keeps_of scenario.edits run.trip t.route) h
  where
    if_kept : (b : Bool) → (if b then list_all (is_event_on_axis (sum_of scenario run)) (instance_events t) else true)
        ≡ true
        → All (IsFit (length feed.stops)) (if b then moved_trip t run.trip (sum_of scenario run) ∷ [] else [])
    if_kept true on = All-cons (IsFit (length feed.stops)) (moved_trip t run.trip (sum_of scenario run)) []
        (fit_trip feed is scenario run t at on) (All-nil (IsFit (length feed.stops)))
    if_kept false on = All-nil (IsFit (length feed.stops))

-- all of them are fit
fit_trips : (feed : FeedData) → IsFeed feed → (scenario : ScenarioData) (runs : List Run) →
    list_all (λ run. stays scenario run (slice_get feed.trips run.trip)) runs ≡ true
    → All (IsFit (length feed.stops)) (trips_of feed scenario runs)
fit_trips feed is scenario runs h =
    all_parts (IsFit (length feed.stops)) (λ run. kept_trip scenario run (slice_get feed.trips run.trip)) runs
    (All-weaker (λ run. stays scenario run (slice_get feed.trips run.trip)
    ≡ true) (λ run. All (IsFit (length feed.stops)) (kept_trip scenario run (slice_get feed.trips run.trip)))
    (λ run on. fit_run feed is scenario run (slice_get feed.trips run.trip) refl on) runs
    (all_pass (λ run. stays scenario run (slice_get feed.trips run.trip)) runs h))

pub only_memory : (e : NetFault) (n : Net) → NetInRange n → All (λ t. EventsRise t.events) n.trips → NetWithin n.trips →
    IsNetFault e n → e ≡ Memory
only_memory StopRange n range rise within h = absurd (h range)
only_memory TimesGoBack n range rise within h = absurd (h.1 rise)
only_memory TooLarge n range rise within h = absurd (h.2 within)
only_memory Memory n range rise within h = refl

-- runs that fit make a network, so that out of memory alone is left
pub memory_is_left : (feed : FeedData) → IsFeed feed →
    (scenario : ScenarioData) (runs : List Run) (feet : FeetData) (stops : ℕ) (trips : List Trip)
    → stops ≡ length feed.stops → length feet.walks ≡ length feed.stops → fits feed scenario runs ≡ true →
    trips ≡ trips_of feed scenario runs
    → (e : NetFault) → IsNetFault e (record { stops = stops; trips = trips; feet = feet }) → e ≡ Memory
memory_is_left feed is scenario runs feet stops trips same lists fit made e h =
    let f = and_parts (are_few (trips_of feed scenario runs)) (are_on_axis feed scenario runs) fit in
    let few : are_few trips ≡ true = ap are_few made ∙ f.0 in
    let counts = and_parts (nat_le (length trips) MOST_TRIPS)
    (nat_le (sum_by (λ t. length t.events) trips) MOST_EVENTS) few in
    let good : All (IsFit stops) trips = rw (same, made) (fit_trips feed is scenario runs f.1) in
    only_memory e (record { stops = stops; trips = trips; feet = feet })
    (record {
      lists = lists ∙ sym same;
      events = All-weaker (IsFit stops) (λ t. All (λ e. e.stop.0 < stops) t.events)
          (λ t h. h.at) trips good;
    })
    (All-weaker (IsFit stops) (λ t. EventsRise t.events) (λ t h. h.rise) trips good)
    (record {
      few = grind (arith, nat_tests, counts.0);
      events = grind (arith, nat_tests, counts.1);
      axis = All-weaker (IsFit stops) (λ t. All (λ e. e.depart < END_OF_AXIS) t.events) (λ t h. h.axis) trips good;
    }) h
