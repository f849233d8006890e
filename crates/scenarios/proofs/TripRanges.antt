-- Times rise along a trip: its first arrival and its last departure decide whether it stays in range.
use Rattle.std.proofs.Common.{◌≡◌, ◌∙◌, ◌<◌, ◌≤◌, ◌+◌, ◌-◌, ◌==◌, ◌&&◌, ℕ, zero, suc, ℤ, pos, ◌+ℤ◌, ◌-ℤ◌, Bool, true}
use Rattle.std.proofs.Common.{false, not, List, [], ◌∷◌, length, get_or, refl, sym, ap, arith}
use Rattle.std.specs.Prelude.{int_lt}
use Rattle.std.specs.List.{flat_map, list_all}
use Rattle.std.proofs.lemmas.Bool.Decides.{nat_tests}
use Rattle.std.proofs.lemmas.Int.{ints}
use Rattle.std.proofs.lemmas.List.Elements.{All-from_get_or, All-get_or}
use Rattle.std.proofs.lemmas.List.Folds.{list_all-append, list_all-map, list_all_at}
use Rattle.std.proofs.lemmas.Option.{slice_get-get_or}
use Rattle.std.proofs.lemmas.Bool.{and_right}
use Rattle.timetable.specs.Trips.{EventsRise}
use Rattle.timetable.specs.declared.trips.Event.{Event}
use Rattle.table_files.specs.declared.frequencies.Departures.{Departures}
use Rattle.gtfs_tables.specs.declared.trip.FeedTrip.{FeedTrip}
use Rattle.service_days.specs.Instances.{arriving_at_departure, departing, departures_of, first_departure, runs_of_row}
use Rattle.service_days.specs.declared.run.Run.{Run}
use Rattle.scenarios.specs.ShiftedTimes.{begins_in_range, ends_in_range, is_departure_in_range, is_event_in_range}
use Rattle.scenarios.specs.ShiftedTimes.{is_trip_in_range, stays_in_range}
use Rattle.scenarios.specs.declared.edits.TheConstants.{END_OF_TIMES}
use Rattle.scenarios.proofs.MovedEvents.{same_length}
use Rattle.scenarios.proofs.MovedTrips.{rises_arriving}
use Rattle.scenarios.proofs.MovedRanges.{begins_later, ends_earlier}
use Rattle.scenarios.proofs.RowRanges.{from_all}

-- events that rise
module _ (events : List Event) (d : Event) (rise : EventsRise events) where
  stays : (k : ℕ) → k < length events → (get_or events k d).arrive ≤ (get_or events k d).depart
  stays k lt = All-get_or (λ e. e.arrive ≤ e.depart) events k d lt rise.stays

  moves : (k : ℕ) → k + 1 < length events → (get_or events k d).depart ≤ (get_or events (k + 1) d).arrive
  moves k lt = rise.moves k (get_or events k d) (get_or events (k + 1) d) (slice_get-get_or events k d (omega arith))
      (slice_get-get_or events (k + 1) d lt)

  after_first : (k : ℕ) → k < length events → (get_or events 0 d).arrive ≤ (get_or events k d).arrive
  after_first zero lt = omega arith
  after_first (suc k) lt =
      let one : k + 1 ≡ suc k = omega arith in
      let so = after_first k (omega arith) in
      let at = stays k (omega arith) in
      let next : (get_or events k d).depart ≤ (get_or events (suc k) d).arrive = rw one at (moves k (omega arith)) in
      omega arith

  before_last : (m k : ℕ) → k + m + 1 ≡ length events →
      (get_or events k d).depart ≤ (get_or events (length events - 1) d).depart
  before_last zero k is =
      let here : k ≡ length events - 1 = omega arith in
      let same = ap (λ i. (get_or events i d).depart) here in
      omega arith
  before_last (suc m) k is =
      let so = before_last m (k + 1) (omega arith) in
      let at = stays (k + 1) (omega arith) in
      let next = moves k (omega arith) in
      omega arith

  module _ (z : ℤ) (some : 0 < length events) where
    by_ends : (b e : Bool) → begins_in_range z (get_or events 0 d).arrive ≡ b →
        ends_in_range z (get_or events (length events - 1) d).depart ≡ e
        → (b && e) ≡ list_all (is_event_in_range z) events
    by_ends true true hb he =
        sym (from_all (is_event_in_range z) events
        (All-from_get_or (λ e. is_event_in_range z e ≡ true) events d (λ k lt.
        let e = get_or events k d in
        let first = after_first k lt in
        let last = before_last (length events - 1 - k) k (omega arith) in
        let le = stays k lt in
        let a : begins_in_range z e.arrive ≡ true = begins_later z (get_or events 0 d).arrive e.arrive first hb in
        let b : ends_in_range z e.arrive ≡ true =
        ends_earlier z e.arrive (get_or events (length events - 1) d).depart (omega arith) he in
        let f : begins_in_range z e.depart ≡ true =
        begins_later z (get_or events 0 d).arrive e.depart (omega arith) hb in
        let g : ends_in_range z e.depart ≡ true =
        ends_earlier z e.depart (get_or events (length events - 1) d).depart last he in
        (λ i. (a i && b i) && (f i && g i)))))
    by_ends false e hb he =
        let first = get_or events 0 d in
        sym (list_all_at (is_event_in_range z) events 0 d some
        (ap (λ b. (b && ends_in_range z first.arrive) && stays_in_range z first.depart) hb))
    by_ends true false hb he =
        let last = get_or events (length events - 1) d in
        sym (list_all_at (is_event_in_range z) events (length events - 1) d (omega arith)
        (and_right (stays_in_range z last.arrive) (stays_in_range z last.depart)
        (and_right (begins_in_range z last.depart) (ends_in_range z last.depart) he)))

    pub events_by_ends : (begins_in_range z (get_or events 0 d).arrive && ends_in_range z
        (get_or events (length events - 1) d).depart) ≡ list_all (is_event_in_range z) events
    events_by_ends = by_ends (begins_in_range z (get_or events 0 d).arrive)
        (ends_in_range z (get_or events (length events - 1) d).depart) refl refl

and_true : (a : Bool) → (a && true) ≡ a
and_true true = refl
and_true false = refl

list_all-flat_map : {A B : Type 0} (q : B → Bool) (f : A → List B) (xs : List A) →
    list_all q (flat_map f xs) ≡ list_all (λ x. list_all q (f x)) xs
list_all-flat_map q f [] = refl
list_all-flat_map q f (x ∷ xs) = list_all-append q (f x) (flat_map f xs)
    ∙ ap (λ b. list_all q (f x) && b) (list_all-flat_map q f xs)

list_all-same : {A : Type 0} (p q : A → Bool) (xs : List A) → ((x : A) → p x ≡ q x) → list_all p xs ≡ list_all q xs
list_all-same p q [] h = refl
list_all-same p q (x ∷ xs) h = let here = h x in let rest = list_all-same p q xs h in (λ i. here i && rest i)

-- events of which the first arrives as it departs
same_departs : (events : List Event) (k : ℕ) (d : Event) →
    (get_or (arriving_at_departure events) k d).depart ≡ (get_or events k d).depart
same_departs [] k d = refl
same_departs (e ∷ es) zero d = refl
same_departs (e ∷ es) (suc k) d = refl

first_arrives : (events : List Event) (d : Event) → 0 < length events →
    (get_or (arriving_at_departure events) 0 d).arrive ≡ (get_or events 0 d).depart
first_arrives [] d some = absurd (omega arith)
first_arrives (e ∷ es) d some = refl

first_departs : (events : List Event) (d : Event) → 0 < length events →
    first_departure events ≡ (get_or events 0 d).depart
first_departs [] d some = absurd (omega arith)
first_departs (e ∷ es) d some = refl

module _ (events : List Event) (d : Event) (rise : EventsRise events) (some : 0 < length events) where
  abbrev first : ℕ
  first = (get_or events 0 d).depart

  abbrev last : ℕ
  last = (get_or events (length events - 1) d).depart

  pub first_before_last : first ≤ last
  first_before_last = before_last events d rise (length events - 1) 0 (omega arith)

  -- a departure at a time
  departure_by_ends : (z : ℤ) (time : ℕ) →
      list_all (is_event_in_range (((pos (0 + time)) -ℤ pos (first_departure events)) +ℤ z))
      (arriving_at_departure events) ≡ is_departure_in_range z (last - first) time
  departure_by_ends z time =
      let y : ℤ = (pos (0 + time) -ℤ pos (first_departure events)) +ℤ z in
      let same = same_length true events in
      let begin = first_arrives events d some in
      let from = first_departs events d some in
      let end = same_departs events (length (arriving_at_departure events) - 1) d in
      let at = ap (λ n. (get_or events (n - 1) d).depart) same in
      let le = first_before_last in
      let a : (pos (get_or (arriving_at_departure events) 0 d).arrive +ℤ y) ≡ pos time +ℤ z = omega (arith, ints) in
      let b : (pos (get_or (arriving_at_departure events) (length (arriving_at_departure events) - 1) d).depart +ℤ y)
      ≡ pos (time + (last - first)) +ℤ z = omega (arith, ints) in
      sym (events_by_ends (arriving_at_departure events) d (rises_arriving true events rise) y (omega arith))
      ∙ (λ i. not (int_lt (a i) (pos 0)) && int_lt (b i) (pos END_OF_TIMES))

module _ (z : ℤ) (trip : FeedTrip) where
  module _ (d : Event) (rise : EventsRise trip.events) (has_events : (length trip.events == 0) ≡ false) where
    some : 0 < length trip.events
    some = grind (arith, nat_tests)

    -- a trip that runs at its own times
    pub by_own_times : (length trip.departures == 0) ≡ true
        → (begins_in_range z (get_or trip.events 0 d).arrive && ends_in_range z
        (get_or trip.events (length trip.events - 1) d).depart) ≡ is_trip_in_range z trip
    by_own_times none =
        let zero : pos 0 +ℤ z ≡ z = omega (arith, ints) in
        rw (has_events, none) (events_by_ends trip.events d rise z some
        ∙ ap (λ (y : ℤ). list_all (is_event_in_range y) trip.events) (sym zero)
        ∙ sym (and_true (list_all (is_event_in_range (pos 0 +ℤ z)) trip.events)))

    -- a trip that runs at a headway
    pub by_departures : (length trip.departures == 0) ≡ false
        → list_all (λ row. list_all (is_departure_in_range z
        ((get_or trip.events (length trip.events - 1) d).depart - (get_or trip.events 0 d).depart))
        (departures_of row)) trip.departures ≡ is_trip_in_range z trip
    by_departures rows =
        let span = (get_or trip.events (length trip.events - 1) d).depart - (get_or trip.events 0 d).depart in
        let first = first_departure trip.events in
        let stays_in : Run → Bool = λ run. list_all (is_event_in_range (run.shift +ℤ z))
        (arriving_at_departure trip.events) in
        let is_row_in : Departures → Bool = λ row. list_all (is_departure_in_range z span) (departures_of row) in
        let each = list_all-same (λ row. list_all stays_in (runs_of_row 0 0 first row)) is_row_in trip.departures
        (λ row. list_all-map stays_in (departing 0 0 first) (departures_of row)
        ∙ list_all-same (λ time. stays_in (departing 0 0 first time)) (is_departure_in_range z span) (departures_of row)
        (departure_by_ends trip.events d rise some z)) in
        rw (has_events, rows) (sym (list_all-flat_map stays_in (runs_of_row 0 0 first) trip.departures ∙ each))
