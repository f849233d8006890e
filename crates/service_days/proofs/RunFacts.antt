-- What is true of each run of a study.
use Rattle.std.proofs.Common.{◌≡◌, ◌∙◌, ◌<◌, ◌≤◌, ◌+◌, ◌*◌, ◌==◌, ℕ, zero, suc, pos, ◌+ℤ◌, ◌-ℤ◌, ◌≤ℤ◌, Bool, true}
use Rattle.std.proofs.Common.{false, if◌then◌else◌, nat_lt, List, [], ◌∷◌, length, map, get_or, Some, sym, ap, subst}
use Rattle.std.proofs.Common.{refl, arith}
use Rattle.std.specs.Prelude.{All, slice_get}
use Rattle.std.specs.List.{enumerate_from, filter, flat_map, range_with_len}
use Rattle.std.proofs.lemmas.Bool.Decides.{nat_tests}
use Rattle.std.proofs.lemmas.Int.{ints}
use Rattle.std.proofs.lemmas.List.Elements.{All-append, All-cons, All-head, All-map, All-nil, All-tail, All-weaker}
use Rattle.std.proofs.lemmas.List.Elements.{filter_passes}
use Rattle.std.proofs.lemmas.List.FromFn.{get_or-enumerate_from, get_or-range_with_len, length-enumerate_from}
use Rattle.std.proofs.lemmas.List.FromFn.{length-range_with_len}
use Rattle.std.proofs.lemmas.Option.{slice_get-get_or, slice_get_within}
use Rattle.timetable.specs.Trips.{EventsRise}
use Rattle.timetable.specs.declared.trips.Event.{Event}
use Rattle.table_files.specs.declared.frequencies.Departures.{Departures}
use Rattle.gtfs_tables.specs.declared.trip.FeedTrip.{FeedTrip}
use Rattle.gtfs_tables.specs.Feed.{FeedData, IsDeparting, IsFeed}
use Rattle.service_days.specs.Services.{runs_on}
use Rattle.service_days.specs.Instances.{IsRun, arriving_at_departure, departing, departures_of, first_departure}
use Rattle.service_days.specs.Instances.{has_rows, runs_if, runs_of_day, runs_of_days, runs_of_row, runs_of_trip}
use Rattle.service_days.specs.declared.day.TheConstants.{LAST_DAY, LAST_START}
use Rattle.service_days.proofs.RunLists.{all_at}

-- what holds of each part holds of all
pub all_parts : {A B : Type 0} (P : B → Type 0) (f : A → List B) (xs : List A) → All (λ x. All P (f x)) xs →
    All P (flat_map f xs)
all_parts P f [] h = All-nil P
all_parts P f (x ∷ xs) h = All-append P (f x) (flat_map f xs) (All-head (λ x. All P (f x)) x xs h)
    (all_parts P f xs (All-tail (λ x. All P (f x)) x xs h))

-- no event of a trip departs before the first
departs_later : (events : List Event) → EventsRise events → (k : ℕ) (first e : Event) →
    slice_get events 0 ≡ Some first → slice_get events k ≡ Some e → first.depart ≤ e.depart
departs_later events rise zero first e at_first at = let same : first ≡ e = cc in
    omega (arith, ap (λ (x : Event). x.depart) same)
departs_later events rise (suc k) first e at_first at =
    let within = slice_get_within events (suc k) e at in
    let f = get_or events k e in
    let before : slice_get events k ≡ Some f = slice_get-get_or events k e (omega arith) in
    let one : k + 1 ≡ suc k = omega arith in
    let next = rise.moves k f e before (ap (slice_get events) one ∙ at) in
    let stay = all_at (λ (x : Event). x.arrive ≤ x.depart) events (suc k) e at rise.stays in
    omega (arith, departs_later events rise k first f at_first before)

-- with the first arrival at the first departure, no time is before that
times_later : (events : List Event) → EventsRise events →
    All (λ e. (first_departure events ≤ e.arrive) × (first_departure events ≤ e.depart)) (arriving_at_departure events)
times_later [] rise = All-nil (λ e. (0 ≤ e.arrive) × (0 ≤ e.depart))
times_later (first ∷ events) rise =
    All-cons (λ e. (first.depart ≤ e.arrive)
    × (first.depart ≤ e.depart)) (record first { arrive = first.depart }) events (omega arith, omega arith)
    (λ k d lt.
    let e = get_or events k d in
    let all = first ∷ events in
    let at : slice_get events k ≡ Some e = slice_get-get_or events k d lt in
    let f = get_or all k d in
    let before : slice_get all k ≡ Some f = slice_get-get_or all k d (omega arith) in
    let one : k + 1 ≡ suc k = omega arith in
    let next = rise.moves k f e before (ap (slice_get all) one ∙ at) in
    let stay = all_at (λ (x : Event). x.arrive ≤ x.depart) all (suc k) e at rise.stays in
    let later = departs_later all rise k first f refl before in
    (omega arith, omega arith))

module _ (feed : FeedData) (is : IsFeed feed) (base : ℕ) (low : base
    ≤ LAST_START) (n : ℕ) (t : FeedTrip) (at : slice_get feed.trips n ≡ Some t) (has : 0 < length t.events) where
  -- the trip at its own times
  once : has_rows t ≡ false → IsRun feed (record { trip = n; shift = pos base })
  once b = record {
    trip = t;
    at = at;
    has_events = has;
    low = omega (arith, ints);
    high = omega (arith, ints);
    times = λ k d lt. (omega (arith, ints), omega (arith, ints));
  }

  first_in_week : first_departure t.events ≤ 604799
  first_in_week = week t.events (all_at (λ (t : FeedTrip). All (λ e. (e.arrive ≤ 604799)
      × (e.depart ≤ 604799)) t.events) feed.trips n t at is.in_time)
    where
      week : (events : List Event) → All (λ e. (e.arrive ≤ 604799) × (e.depart ≤ 604799)) events →
          first_departure events ≤ 604799
      week [] h = omega arith
      week (e ∷ es) h = (All-head (λ e. (e.arrive ≤ 604799) × (e.depart ≤ 604799)) e es h).1

  -- a departure of a frequency row
  departed : has_rows t ≡ true → (time : ℕ) → time < 604799 →
      IsRun feed (departing base n (first_departure t.events) time)
  departed b time before =
      let first = first_departure t.events in
      let week = first_in_week in
      let later : All (λ e. (first ≤ e.arrive) × (first ≤ e.depart)) (arriving_at_departure t.events) =
      times_later t.events (all_at (λ (t : FeedTrip). EventsRise t.events) feed.trips n t at is.rise) in
      let shift = pos (base + time) -ℤ pos first in
      record {
        trip = t;
        at = at;
        has_events = has;
        low = omega (arith, ints);
        high = omega (arith, ints);
        times = rw b (All-weaker (λ e. (first ≤ e.arrive) × (first ≤ e.depart)) (λ e. (pos 0 ≤ℤ (pos e.arrive +ℤ shift))
            × (pos 0 ≤ℤ (pos e.depart +ℤ shift)))
            (λ e h. (
              let l = h.0 in omega (arith, ints),
              let l = h.1 in
                  omega (arith, ints),
            )) (arriving_at_departure t.events) later);
      }

  row_runs : has_rows t ≡ true → (row : Departures) → IsDeparting row →
      All (IsRun feed) (runs_of_row base n (first_departure t.events) row)
  row_runs b row departs =
      let p : ℕ → Bool = λ time. nat_lt time row.end in
      All-map (IsRun feed) (departing base n (first_departure t.events)) (departures_of row)
      (All-weaker (λ time. p time ≡ true) (λ time. IsRun feed (departing base n (first_departure t.events) time))
      (λ time h. let l : time < row.end = grind (arith, nat_tests) in departed b time (omega (arith, departs.end)))
      (departures_of row) (filter_passes p (map (λ x. row.start + x * row.headway) (range_with_len 0 row.end))))

trip_runs : (feed : FeedData) → IsFeed feed → (base : ℕ) → base ≤ LAST_START → (n : ℕ) (t : FeedTrip) →
    slice_get feed.trips n ≡ Some t → All (IsRun feed) (runs_of_trip base n t)
trip_runs feed is base low n t at = by_events (length t.events == 0) refl
  where
    by_rows : (b : Bool) → has_rows t ≡ b → 0 < length t.events
        → All (IsRun feed) (if b then flat_map (runs_of_row base n (first_departure t.events)) t.departures else record
        { trip = n; shift = pos base } ∷ [])
    by_rows true b has =
        all_parts (IsRun feed) (runs_of_row base n (first_departure t.events)) t.departures
        (All-weaker IsDeparting (λ row. All (IsRun feed) (runs_of_row base n (first_departure t.events) row))
        (row_runs feed is base low n t at has b) t.departures
        (all_at (λ (t : FeedTrip). All IsDeparting t.departures) feed.trips n t at is.departing))
    by_rows false b has = All-cons (IsRun feed) (record { trip = n; shift = pos base }) []
        (once feed is base low n t at has b) (All-nil (IsRun feed))

    by_events : (e : Bool) → (length t.events == 0) ≡ e
        → All (IsRun feed) (if e then [] else (if has_rows t then flat_map
        (runs_of_row base n (first_departure t.events)) t.departures else record { trip = n; shift = pos base } ∷ []))
    by_events true e = All-nil (IsRun feed)
    by_events false e = by_rows (has_rows t) refl (grind (arith, nat_tests))

day_runs : (feed : FeedData) → IsFeed feed → (day base : ℕ) → base ≤ LAST_START →
    All (IsRun feed) (runs_of_day feed day base)
day_runs feed is day base low =
    all_parts (IsRun feed) (λ (at : ℕ × FeedTrip). runs_if feed day base at.0 at.1) (enumerate_from 0 feed.trips)
    (All-weaker (λ (at : ℕ × FeedTrip). slice_get feed.trips at.0
    ≡ Some at.1) (λ (at : ℕ × FeedTrip). All (IsRun feed) (runs_if feed day base at.0 at.1))
    (λ at here. if_running (runs_on feed at.1.service day) at here) (enumerate_from 0 feed.trips) positions)
  where
    if_running : (b : Bool) (at : ℕ × FeedTrip) → slice_get feed.trips at.0 ≡ Some at.1 →
        All (IsRun feed) (if b then runs_of_trip base at.0 at.1 else [])
    if_running true at here = trip_runs feed is base low at.0 at.1 here
    if_running false at here = All-nil (IsRun feed)

    positions : All (λ (at : ℕ × FeedTrip). slice_get feed.trips at.0 ≡ Some at.1) (enumerate_from 0 feed.trips)
    positions k d lt =
        let count = length-enumerate_from 0 feed.trips in
        let within : k < length feed.trips = omega arith in
        subst (λ (at : ℕ × FeedTrip). slice_get feed.trips at.0
        ≡ Some at.1) (sym (get_or-enumerate_from 0 feed.trips k d within))
        (let zero : 0 + k ≡ k = omega arith in ap (slice_get feed.trips) zero
        ∙ slice_get-get_or feed.trips k d.1 within)

pub all_runs : (feed : FeedData) → IsFeed feed → (first days : ℕ) → days ≤ LAST_DAY + 1 →
    All (IsRun feed) (runs_of_days feed first days)
all_runs feed is first days few =
    all_parts (IsRun feed) (λ x. runs_of_day feed (first + x) (86400 * x)) (range_with_len 0 days)
    (λ k d lt.
    let count = length-range_with_len 0 days in
    let number : get_or (range_with_len 0 days) k d ≡ 0 + k = get_or-range_with_len 0 days k d (omega arith) in
    day_runs feed is (first + get_or (range_with_len 0 days) k d) (86400 * get_or (range_with_len 0 days) k d)
    (omega arith))
