-- One more record of stop_times.txt.
use Rattle.std.proofs.Common.{◌≡◌, ◌<◌, ◌≤◌, ◌+◌, ◌-◌, ◌*◌, ◌==◌, ◌&&◌, ◌∙◌, ℕ, zero, suc, Bool, true, false, List, []}
use Rattle.std.proofs.Common.{◌∷◌, ◌++◌, length, map, filter, Option, Some, None, nat_le, nat_lt, cond, position}
use Rattle.std.proofs.Common.{get_or, replicate, set, take, arith, refl, sym, ap, subst, if◌then◌else◌}
use Rattle.std.proofs.lemmas.Bool.{lt-leb}
use Rattle.std.proofs.lemmas.Bool.Decides.{nat_tests}
use Rattle.std.proofs.lemmas.List.{length-append}
use Rattle.std.proofs.lemmas.List.Elements.{All-cons, All-nil, All-set}
use Rattle.std.proofs.lemmas.List.Sums.{sum_by-cons, sum_by-set}
use Rattle.std.specs.Prelude.{All, IfSome, count_by, is_none, option_and_then, option_map, slice_get, slice_index}
use Rattle.std.specs.Prelude.{sum_by}
use Rattle.std.specs.List.{list_any, position_or_len}
use Rattle.table_records.specs.Fields.{clock, hours_of, is_colon, is_digit, is_empty, number_of, sixty, sixty_at}
use Rattle.table_records.specs.Fields.{time_after, time_of}
use Rattle.table_records.specs.Faults.{IsFirst, faults_at}
use Rattle.table_records.specs.declared.fault.FileName.TheVariants.{StopTimes}
use Rattle.table_records.specs.declared.fault.What.{What}
use Rattle.table_records.specs.declared.fault.What.TheVariants as what
use Rattle.trip_events.specs.TripTimes.{AreTimes, IsSound, has_number, in_order, insert_in_order}
use Rattle.trip_events.specs.StopTimes.{AreStopTimes, TimeRow, checks, of_trip, trip_stop_checks, rows_from}
use Rattle.trip_events.specs.StopTimes.{sequence_of, sorted_from, sorted_trips, stop_time_of, stop_times_from}
use Rattle.trip_events.specs.StopTimes.{stop_times_of, stop_of, times_of, trip_events, trip_of, trips_aside}
use Rattle.trip_events.specs.StopTimes.{visit_checks}
use Rattle.timetable.specs.declared.trips.Event.{Event}
use Rattle.table_records.specs.declared.fault.FeedFault.{FeedFault}
use Rattle.trip_events.specs.WholeTrips.{events_of, is_aside, whole_trip_faults}
use Rattle.trip_events.specs.declared.trip_times.StopTime.{StopTime}
use Rattle.table_records.proofs.RowFacts.{first_map}
use Rattle.table_records.proofs.FaultFacts.{first_append}
use Rattle.trip_events.proofs.SortedFacts.{All-insert_in_order, any_in_order, length-insert_in_order, number_in_order}
use Rattle.trip_events.proofs.SortedFacts.{sorted_at, sorted_more, sorted_none}

-- the records with one more
pub stop_times_push : (trips stops : List (List ℕ)) (at : ℕ) (rows : List TimeRow) (r : TimeRow)
    → stop_times_from trips stops at (rows ++ r ∷ [])
    ≡ stop_times_from trips stops at rows ++ (trip_of trips r, stop_time_of stops (length rows + at) r) ∷ []
stop_times_push trips stops at [] r =
    let here : at ≡ length {A = TimeRow} [] + at = omega arith in
    ap (λ (n : ℕ). (trip_of trips r, stop_time_of stops n r) ∷ []) here
stop_times_push trips stops at (x ∷ rows) r =
    let next : length rows + (at + 1) ≡ length (x ∷ rows) + at = omega arith in
    ap (λ (l : List (ℕ × StopTime)). (trip_of trips x, stop_time_of stops at x) ∷ l)
    (stop_times_push trips stops (at + 1) rows r
    ∙ ap (λ (n : ℕ). stop_times_from trips stops (at + 1) rows ++ (
      trip_of trips r,
      stop_time_of stops n r,
    ) ∷ []) next)

-- at most so much, where it is there
abbrev AtMost : Option ℕ → ℕ → Type 0
AtMost o most = (n : ℕ) → o ≡ Some n → n ≤ most

sixty_small : (a b : ℕ) → AtMost (sixty a b) 59
sixty_small a b n e = by (nat_le 48 a && nat_le a 53 && is_digit b) refl e
  where
    by : (t : Bool) → (nat_le 48 a && nat_le a 53 && is_digit b) ≡ t →
        (if t then Some (10 * (a - 48) + (b - 48)) else None) ≡ Some n → n ≤ 59
    by true h s = let is : 10 * (a - 48) + (b - 48) ≡ n = cc s in grind (arith, nat_tests)
    by false h s = cc s

hours_small : (text : List ℕ) → AtMost (hours_of text) 167
hours_small text n e = by (number_of text) e
  where
    inner : (h : ℕ) (t : Bool) → nat_le h 167 ≡ t → (if t then Some h else None) ≡ Some n → n ≤ 167
    inner h true le s = let is : h ≡ n = cc s in grind (arith, nat_tests)
    inner h false le s = cc s

    by : (o : Option ℕ) → option_and_then (λ (h : ℕ). if nat_le h 167 then Some h else None) o ≡ Some n → n ≤ 167
    by None s = cc s
    by (Some h) s = inner h (nat_le h 167) refl s

joined : (hours minutes seconds : Option ℕ) → AtMost hours 167 → AtMost minutes 59 → AtMost seconds 59
    → AtMost (option_and_then (λ (h : ℕ). option_and_then
    (λ (m : ℕ). option_map (λ (s : ℕ). 3600 * h + 60 * m + s) seconds) minutes) hours) 604799
joined None minutes seconds a b d n e = cc e
joined (Some h) None seconds a b d n e = cc e
joined (Some h) (Some m) None a b d n e = cc e
joined (Some h) (Some m) (Some s) a b d n e =
    let is : 3600 * h + 60 * m + s ≡ n = cc e in
    omega (arith, is, a h refl, b m refl, d s refl)

-- a time is within 168 hours
pub time_small : (text : List ℕ) → AtMost (time_of text) 604799
time_small text n e = by (nat_le 7 (length text) && nat_le (length text) 9) e
  where
    inner : (k : ℕ) (t : Bool) → (if t then clock (hours_of (take k text)) (sixty_at (k + 1) text)
        (sixty_at (k + 4) text) else None) ≡ Some n → n ≤ 604799
    inner k true s = joined (hours_of (take k text)) (sixty_at (k + 1) text) (sixty_at (k + 4) text)
        (hours_small (take k text))
        (sixty_small (slice_index text (k + 1)) (slice_index text (k + 1 + 1)))
        (sixty_small (slice_index text (k + 4)) (slice_index text (k + 4 + 1))) n s
    inner k false s = cc s

    by : (t : Bool) → (if t then time_after (length text - 6) text else None) ≡ Some n → n ≤ 604799
    by true s = inner (length text - 6) (is_colon (length text - 6) text && is_colon (length text - 6 + 3) text) s
    by false s = cc s

-- a number that was found is below the length
pub found_below : {X : Type 0} (p : X → Bool) (xs : List X) (n : ℕ) → Some n ≡ position p xs → n < length xs
found_below p xs n e = by (nat_lt (position_or_len p xs) (length xs)) refl e
  where
    by : (b : Bool) → nat_lt (position_or_len p xs) (length xs) ≡ b →
        Some n ≡ (if b then Some (position_or_len p xs) else None) → n < length xs
    by true h s = let is : n ≡ position_or_len p xs = cc s in grind (arith, nat_tests)
    by false h s = cc s

-- the times of a record are within 168 hours
times_small : (a d : Option ℕ) → AtMost a 604799 → AtMost d 604799 → IfSome (times_of a d) AreTimes
times_small None None p q = tt
times_small None (Some d) p q = record { arrive = q d refl; depart = q d refl }
times_small (Some a) None p q = record { arrive = p a refl; depart = p a refl }
times_small (Some a) (Some d) p q = record { arrive = p a refl; depart = q d refl }

-- a record that comes after those before it
module _ (trips stops : List (List ℕ)) (before : List TimeRow) (r : TimeRow) (few : length before < 8000000) where
  room : nat_le 8000000 (length before) ≡ false
  room = lt-leb _ _ few

  -- the fault of a record
  abbrev pub Told : What → Type 0
  Told w = IsFirst (record {
    file = StopTimes;
    at = length before + 2;
    what = w;
  }) (faults_at StopTimes (checks trips stops) before r)

  told : (w : What) → slice_get (checks trips stops before r) 0 ≡ Some w → Told w
  told w h = first_map (λ x. record {
    file = StopTimes;
    at = length before + 2;
    what = x;
  }) (checks trips stops before r) w h

  pub tells_trip_stop : (w : What) → slice_get (trip_stop_checks trips stops r) 0 ≡ Some w → Told w
  tells_trip_stop w h = told w (rw room (first_append _ _ w (first_append _ _ w h)))

  module _ (placed : trip_stop_checks trips stops r ≡ []) where
    pub tells_duplicate : has_number (sequence_of r) (of_trip (trip_of trips r) (stop_times_of trips stops before))
        ≡ true → Told what.DuplicateId
    tells_duplicate again = told what.DuplicateId (rw (room, placed, again) refl)

    module _ (new : has_number (sequence_of r) (of_trip (trip_of trips r) (stop_times_of trips stops before))
        ≡ false) where
      pub tells_visit : (w : What) → slice_get (visit_checks r) 0 ≡ Some w → Told w
      tells_visit w h = told w (rw (room, placed, new) h)

      pub no_fault : visit_checks r ≡ [] → checks trips stops before r ≡ []
      no_fault visited = rw (room, placed, new, visited) refl

-- the records of the trips, with the trip of a record among them
module _ (trips stops : List (List ℕ)) (all : List (List StopTime)) (before : List TimeRow) (r : TimeRow)
    (is : AreStopTimes trips stops all before)
    (t : ℕ) (of : t ≡ trip_of trips r) (within : t < length trips) (old : List StopTime) (at : old
    ≡ get_or all t old) where
  sorted : old ≡ in_order (of_trip t (stop_times_of trips stops before))
  sorted =
      let zero_on : t ≡ t + 0 = omega arith in
      at ∙ ap (λ (l : List (List StopTime)). get_or l t old) is.sorted
      ∙ sorted_at (stop_times_of trips stops before) t 0 t trips old zero_on within

  pub has_same : (n : ℕ) → has_number n old
      ≡ has_number n (of_trip (trip_of trips r) (stop_times_of trips stops before))
  has_same n =
      ap (has_number n) sorted ∙ number_in_order n (of_trip t (stop_times_of trips stops before))
      ∙ ap (λ (k : ℕ). has_number n (of_trip k (stop_times_of trips stops before))) of

  -- the records with one more
  pub stop_times_more : (stop_time : StopTime) (new : List (List StopTime)) → length all ≡ length trips →
      length before < 8000000 → stop_time ≡ stop_time_of stops (length before + 2) r
      → IfSome (stop_of stops r) (λ n. n < length stops) → new ≡ set all t (insert_in_order stop_time old) →
      AreStopTimes trips stops new (before ++ r ∷ [])
  stop_times_more stop_time new size few is_stop_time stop put =
      let inside : t < length all = omega (arith, size, within) in
      let added : stop_times_of trips stops (before ++ r ∷ [])
      ≡ stop_times_of trips stops before ++ (t, stop_time) ∷ [] =
      stop_times_push trips stops 2 before r ∙ rw (is_stop_time, of) refl in
      let zero_on : t ≡ t + 0 = omega arith in
      let more = sorted_more (stop_times_of trips stops before) t 0 t stop_time trips old zero_on within sorted in
      let sound : IsSound (length stops) stop_time = subst (IsSound (length stops)) (sym is_stop_time)
      (record {
        stop = stop;
        times = times_small (time_of r.arrive) (time_of r.depart) (time_small r.arrive)
            (time_small r.depart);
      }) in
      let sums = sum_by-set (length {A = StopTime}) all t (insert_in_order stop_time old) old inside in
      let old_length : length (get_or all t old) ≡ length old = ap (length {A = StopTime}) (sym at) in
      let longer = length-insert_in_order stop_time old in
      let rows = length-append before (r ∷ []) in
      record {
        few = omega (arith, rows, few);
        sorted = put ∙ ap (λ (l : List (List StopTime)). set l t (insert_in_order stop_time old)) is.sorted ∙ sym more
            ∙ ap (λ (l : List (ℕ × StopTime)). sorted_from l 0 trips) (sym added);
        total = ap (sum_by (length {A = StopTime})) put ∙ omega (arith, sums, old_length, longer, is.total, rows);
        sound = rw put (All-set (All (IsSound (length stops))) all t (insert_in_order stop_time old)
            (All-insert_in_order (IsSound (length stops)) stop_time old sound
            (subst (All (IsSound (length stops))) (sym at) (is.sound t old inside))) is.sound);
      }

sum_nothing : (n : ℕ) → sum_by (length {A = StopTime}) (replicate n []) ≡ 0
sum_nothing zero = refl
sum_nothing (suc n) = sum_by-cons (length {A = StopTime}) [] (replicate n []) ∙ omega (arith, sum_nothing n)

all_nothing : (n : ℕ) (P : StopTime → Type 0) → All (All P) (replicate n [])
all_nothing zero P = All-nil (All P)
all_nothing (suc n) P = All-cons (All P) [] (replicate n []) (All-nil P) (all_nothing n P)

-- the records before the first one
pub no_stop_times : (trips stops : List (List ℕ)) (all : List (List StopTime)) → all ≡ replicate (length trips) [] →
    AreStopTimes trips stops all []
no_stop_times trips stops all empty = record {
  few = omega arith;
  sorted = empty ∙ sym (sorted_none 0 trips);
  total = ap (sum_by (length {A = StopTime})) empty ∙ sum_nothing (length trips);
  sound = rw empty (all_nothing (length trips) (IsSound (length stops)));
}

-- a trip is set aside by its records in any order
no_stop : (stops : List (List ℕ)) (r : TimeRow) → is_none (stop_of stops r) ≡ is_empty r.stop
no_stop stops r = by (is_empty r.stop) _
  where
    by : {X : Type 0} (b : Bool) (x : X) → is_none (if b then None else Some x) ≡ b
    by true x = refl
    by false x = refl

aside_of : (trips stops : List (List ℕ)) (t at : ℕ) (rows : List TimeRow)
    → list_any (λ (s : StopTime). is_none s.stop) (of_trip t (stop_times_from trips stops at rows))
    ≡ list_any (λ (r : TimeRow). is_empty r.stop) (filter (λ (r : TimeRow). trip_of trips r == t) rows)
aside_of trips stops t at [] = refl
aside_of trips stops t at (r ∷ rows) = by (trip_of trips r == t) (aside_of trips stops t (at + 1) rows)
  where
    by : (b : Bool) → list_any (λ (s : StopTime). is_none s.stop)
        (of_trip t (stop_times_from trips stops (at + 1) rows))
        ≡ list_any (λ (r : TimeRow). is_empty r.stop) (filter (λ (r : TimeRow). trip_of trips r == t) rows)
        → list_any (λ (s : StopTime). is_none s.stop)
        (map (λ (s : ℕ × StopTime). s.1) (if b then (
          trip_of trips r,
          stop_time_of stops at r,
        ) ∷ filter (λ (s : ℕ × StopTime). s.0 == t)
        (stop_times_from trips stops (at + 1) rows) else filter (λ (s : ℕ × StopTime). s.0 == t)
        (stop_times_from trips stops (at + 1) rows)))
        ≡ list_any (λ (x : TimeRow). is_empty x.stop)
        (if b then r ∷ filter (λ (x : TimeRow). trip_of trips x == t) rows else filter
        (λ (x : TimeRow). trip_of trips x == t) rows)
    by true e = rw (no_stop stops r, e) refl
    by false e = e

asides_from : (trips stops : List (List ℕ)) (rows : List TimeRow) (t : ℕ) (ids : List (List ℕ))
    → count_by is_aside (sorted_from (stop_times_of trips stops rows) t ids)
    ≡ count_by (list_any (λ (r : TimeRow). is_empty r.stop)) (rows_from trips rows t ids)
asides_from trips stops rows t [] = refl
asides_from trips stops rows t (id ∷ ids) =
    let trip_times = of_trip t (stop_times_of trips stops rows) in
    let mine = filter (λ (r : TimeRow). trip_of trips r == t) rows in
    let here : is_aside (in_order trip_times) ≡ list_any (λ (r : TimeRow). is_empty r.stop) mine =
    any_in_order (λ (s : StopTime). is_none s.stop) trip_times ∙ aside_of trips stops t 2 rows in
    sum_by-cons (λ (l : List StopTime). cond (is_aside l) 1 0) (in_order trip_times)
    (sorted_from (stop_times_of trips stops rows) (t + 1) ids)
    ∙ (λ k. cond (here k) 1 0 + asides_from trips stops rows (t + 1) ids k)
    ∙ sym (sum_by-cons (λ (l : List TimeRow). cond (list_any (λ (r : TimeRow). is_empty r.stop) l) 1 0) mine
    (rows_from trips rows (t + 1) ids))

pub asides : (trips stops : List (List ℕ)) (rows : List TimeRow) →
    count_by is_aside (sorted_trips trips stops rows) ≡ trips_aside trips rows
asides trips stops rows = asides_from trips stops rows 0 trips

-- what the records say, where neither they nor whole trips have a fault
pub read_whole : (trips stops : List (List ℕ)) (faults : List FeedFault) (rows given : List TimeRow)
    (all : List (List StopTime)) (events : List (List Event)) (aside : ℕ)
    → faults ≡ [] → rows ≡ given → AreStopTimes trips stops all given → whole_trip_faults all ≡ [] →
    events ≡ map events_of all → aside ≡ count_by is_aside all
    → (faults ++ whole_trip_faults (sorted_trips trips stops rows) ≡ []) × (events ≡ trip_events trips stops rows)
    × (aside ≡ trips_aside trips rows)
read_whole trips stops faults rows given all events aside none same is whole events_are aside_is =
    let sorted : all ≡ sorted_trips trips stops rows = is.sorted ∙ ap (sorted_trips trips stops) (sym same) in (
      rw none (sym (ap whole_trip_faults sorted) ∙ whole),
      events_are ∙ ap (map events_of) sorted,
      aside_is ∙ ap (count_by is_aside) sorted ∙ asides trips stops rows,
    )
