-- The events of all trips, where no whole trip has a fault.
use Rattle.std.proofs.Common.{◌≡◌, ◌<◌, ◌≤◌, ◌+◌, ◌-◌, ◌∙◌, ℕ, zero, suc, Bool, true, false, List, [], ◌∷◌, ◌++◌}
use Rattle.std.proofs.Common.{length, map, Option, Some, None, unwrap_or, arith, refl, sym, ap, subst, inr}
use Rattle.std.proofs.Common.{if◌then◌else◌}
use Rattle.std.proofs.lemmas.List.Elements.{All-cons, All-nil, All-tail}
use Rattle.std.proofs.lemmas.List.Sums.{sum_by-cons}
use Rattle.std.proofs.lemmas.Bool.{or_parts}
use Rattle.std.specs.Prelude.{All, IfSome, is_none, slice_get, sum_by}
use Rattle.timetable.specs.Trips.{EventsRise}
use Rattle.timetable.specs.declared.trips.Event.{Event}
use Rattle.table_records.proofs.FaultFacts.{tells_more}
use Rattle.table_records.specs.Faults.{Tells}
use Rattle.table_records.specs.declared.fault.FeedFault.{FeedFault}
use Rattle.table_records.specs.declared.fault.What.TheVariants.{NoTime, TimesGoBack}
use Rattle.trip_events.specs.Fill.{between, event_at, filled, nearer, nearest}
use Rattle.trip_events.specs.TripTimes.{AreTimes, IsSound}
use Rattle.trip_events.specs.WholeTrips.{AreEvents, departed, events_of, faults_of, goes_back, is_aside, records_back}
use Rattle.trip_events.specs.WholeTrips.{trip_faults, untimed, untimed_ends, whole_trip_faults}
use Rattle.trip_events.specs.declared.fill.Neighbour.{Neighbour}
use Rattle.trip_events.specs.declared.trip_times.StopTime.{StopTime}
use Rattle.trip_events.specs.declared.trip_times.VisitTimes.{VisitTimes}
use Rattle.table_records.proofs.RowFacts.{first_map}
use Rattle.table_records.specs.declared.fault.FileName.TheVariants.{StopTimes}
use Rattle.trip_events.proofs.FillFacts.{Climbs, OneIs, filled_is, filled_on, gap_within, left_at, length-filled_on}
use Rattle.trip_events.proofs.FillFacts.{rises, step, departure_before}

pub none_first : {X : Type 0} (xs : List X) → None ≡ slice_get xs 0 → xs ≡ []
none_first [] h = refl
none_first (x ∷ xs) h = cc h

pub no_parts : {X : Type 0} (xs ys : List X) → xs ++ ys ≡ [] → (xs ≡ []) × (ys ≡ [])
no_parts [] ys h = (refl, h)
no_parts (x ∷ xs) ys h = cc h

pub none_mapped : {X Y : Type 0} (f : X → Y) (xs : List X) → map f xs ≡ [] → xs ≡ []
none_mapped f [] h = refl
none_mapped f (x ∷ xs) h = cc h

-- the last event has a time
abbrev LastIsTimed : List StopTime → Type 0
LastIsTimed [] = Unit {0}
LastIsTimed (s ∷ []) = is_none s.times ≡ false
LastIsTimed (s ∷ t ∷ rest) = LastIsTimed (t ∷ rest)

-- the first event follows a neighbour, or has a time
abbrev FirstIsTimed : Option Neighbour → List StopTime → Type 0
FirstIsTimed before [] = Unit {0}
FirstIsTimed before (s ∷ rest) = OneIs s.times before

is_timed : (s : StopTime) → untimed (Some s) ≡ [] → is_none s.times ≡ false
is_timed s h = by (is_none s.times) refl h
  where
    by : (b : Bool) → is_none s.times ≡ b → (if b then s.at ∷ [] else []) ≡ [] → is_none s.times ≡ false
    by true e g = cc g
    by false e g = e

last_timed : (trip_times : List StopTime) → untimed (slice_get trip_times (length trip_times - 1)) ≡ [] →
    LastIsTimed trip_times
last_timed [] h = tt
last_timed (s ∷ []) h = is_timed s h
last_timed (s ∷ t ∷ rest) h =
    let there : length (s ∷ t ∷ rest) - 1 ≡ suc (length (t ∷ rest) - 1) = omega arith in
    last_timed (t ∷ rest) (subst (λ (k : ℕ). untimed (slice_get (s ∷ t ∷ rest) k) ≡ []) there h)

there : {X Y : Type 0} (o : Option X) (p : Option Y) → is_none o ≡ false → OneIs o p
there None p h = cc h
there (Some x) p h = tt

first_timed : (trip_times : List StopTime) → untimed (slice_get trip_times 0) ≡ [] → FirstIsTimed None trip_times
first_timed [] h = tt
first_timed (s ∷ rest) h = there s.times None (is_timed s h)

-- a timed event ahead
ahead : (s : StopTime) (rest : List StopTime) → LastIsTimed (s ∷ rest) → OneIs s.times (nearest rest)
ahead s [] last = there s.times None last
ahead s (t ∷ rest) last = swap s.times (nearer t.times (nearest rest))
    (found t.times (nearest rest) (ahead t rest last))
  where
    found : (o : Option VisitTimes) (p : Option Neighbour) → OneIs o p → is_none (nearer o p) ≡ false
    found None None h = cc h
    found None (Some n) h = refl
    found (Some t) p h = refl

    swap : {X Y : Type 0} (o : Option X) (p : Option Y) → is_none p ≡ false → OneIs o p
    swap None None h = cc h
    swap None (Some y) h = tt
    swap (Some x) p h = tt

rest_timed : (s : StopTime) (rest : List StopTime) → LastIsTimed (s ∷ rest) → LastIsTimed rest
rest_timed s [] last = tt
rest_timed s (t ∷ rest) last = last

passed : (times : Option VisitTimes) (before : Option Neighbour) →
    left_at (nearer times before) ≡ departed (left_at before) times
passed None None = refl
passed None (Some n) = refl
passed (Some t) before = refl

follows : (s t : StopTime) (before : Option Neighbour) → OneIs s.times before → OneIs t.times (nearer s.times before)
follows s t before h = by t.times s.times before h
  where
    by : {X : Type 0} (o : Option X) (times : Option VisitTimes) (n : Option Neighbour) → OneIs times n →
        OneIs o (nearer times n)
    by None None None h = cc h
    by None None (Some n) h = tt
    by None (Some t) n h = tt
    by (Some x) times n h = tt

climbs : (before : Option Neighbour) (trip_times : List StopTime) → FirstIsTimed before trip_times →
    LastIsTimed trip_times → records_back (left_at before) trip_times ≡ []
    → Climbs (departure_before before (nearest trip_times)) (filled_on before trip_times)
climbs before [] first last on = tt
climbs before (s ∷ rest) first last on =
    let (here, later) = no_parts _ _ on in
    let forth : goes_back (left_at before) s.times ≡ false = stays (goes_back (left_at before) s.times) here in
    let on_later : records_back (left_at (nearer s.times before)) rest ≡ [] =
    ap (λ (n : ℕ). records_back n rest) (passed s.times before) ∙ later in
    step s s.times before (nearest rest) (filled_on (nearer s.times before) rest) first (ahead s rest last) forth
    (climbs (nearer s.times before) rest (next rest) (rest_timed s rest last) on_later)
  where
    stays : (b : Bool) → (if b then s.at ∷ [] else []) ≡ [] → b ≡ false
    stays true h = cc h
    stays false h = refl

    next : (xs : List StopTime) → FirstIsTimed (nearer s.times before) xs
    next [] = tt
    next (t ∷ xs) = follows s t before first

-- a trip without fault
record Goes (trip_times : List StopTime) : Type 0 where
  first : FirstIsTimed None trip_times
  last : LastIsTimed trip_times
  on : records_back 0 trip_times ≡ []

goes : (trip_times : List StopTime) → is_aside trip_times ≡ false → trip_faults trip_times ≡ [] → Goes trip_times
goes trip_times here none =
    let faults : faults_of NoTime (untimed_ends trip_times) ++ faults_of TimesGoBack (records_back 0 trip_times) ≡ [] =
    rw here at none in
    let (ends, back) = no_parts _ _ faults in
    let (first, last) = no_parts (untimed (slice_get trip_times 0)) _ (none_mapped _ (untimed_ends trip_times) ends) in
    record {
      first = first_timed trip_times first;
      last = last_timed trip_times last;
      on = none_mapped _ (records_back 0 trip_times) back;
    }

abbrev InTime : Event → Type 0
InTime e = (e.arrive ≤ 604799) × (e.depart ≤ 604799)

abbrev IsTimely : Option Neighbour → Type 0
IsTimely o = IfSome o (λ n. AreTimes n.times)

nearer_timely : (times : Option VisitTimes) (beyond : Option Neighbour) → IfSome times AreTimes → IsTimely beyond →
    IsTimely (nearer times beyond)
nearer_timely None None a b = tt
nearer_timely None (Some n) a b = b
nearer_timely (Some t) beyond a b = a

nearest_timely : (n : ℕ) (trip_times : List StopTime) → All (IsSound n) trip_times → IsTimely (nearest trip_times)
nearest_timely n [] all = tt
nearest_timely n (s ∷ rest) all = nearer_timely s.times (nearest rest) (all zero s (omega arith)).times
    (nearest_timely n rest (All-tail (IsSound n) s rest all))

timely : (times : Option VisitTimes) (before after : Option Neighbour) → IfSome times AreTimes → IsTimely before →
    IsTimely after → AreTimes (unwrap_or times (between before after))
timely (Some t) before after a b c = a
timely None None after a b c = record { arrive = omega arith; depart = omega arith }
timely None (Some n) None a b c = record { arrive = omega arith; depart = omega arith }
timely None (Some n) (Some m) a b c =
    let most = gap_within n.times.depart m.times.arrive (n.untimed + 1) (n.untimed + m.untimed + 2) 604799 (omega arith)
    (omega arith) b.depart c.arrive in
    record { arrive = most; depart = most }

in_time : (n : ℕ) (before : Option Neighbour) (trip_times : List StopTime) → IsTimely before →
    All (IsSound n) trip_times → All InTime (filled_on before trip_times)
in_time n before [] early all = All-nil InTime
in_time n before (s ∷ rest) early all =
    let sound = all zero s (omega arith) in
    let more = All-tail (IsSound n) s rest all in
    let times = timely s.times before (nearest rest) sound.times early (nearest_timely n rest more) in
    All-cons InTime (event_at s (unwrap_or s.times (between before (nearest rest))))
    (filled_on (nearer s.times before) rest) (times.arrive, times.depart)
    (in_time n (nearer s.times before) rest (nearer_timely s.times before sound.times early) more)

stop_within : (n : ℕ) (o : Option ℕ) → IfSome o (λ k. k < n) → is_none o ≡ false → unwrap_or o 0 < n
stop_within n None h some = cc some
stop_within n (Some k) h some = h

at_stops : (n : ℕ) (before : Option Neighbour) (trip_times : List StopTime) → is_aside trip_times ≡ false →
    All (IsSound n) trip_times → All (λ (e : Event). e.stop.0 < n) (filled_on before trip_times)
at_stops n before [] here all = All-nil (λ (e : Event). e.stop.0 < n)
at_stops n before (s ∷ rest) here all =
    let (first, more) = or_parts (is_none s.stop) (is_aside rest) here in
    All-cons (λ (e : Event). e.stop.0 < n) (event_at s (unwrap_or s.times (between before (nearest rest))))
    (filled_on (nearer s.times before) rest)
    (stop_within n s.stop (all zero s (omega arith)).stop first)
    (at_stops n (nearer s.times before) rest more (All-tail (IsSound n) s rest all))

-- the events of one trip
record Fit (n : ℕ) (trip_times : List StopTime) (events : List Event) : Type 0 where
  few : length events ≤ length trip_times
  at_stop : All (λ (e : Event). e.stop.0 < n) events
  in_time : All InTime events
  rise : EventsRise events

fit : (n : ℕ) (trip_times : List StopTime) → All (IsSound n) trip_times → trip_faults trip_times ≡ [] →
    Fit n trip_times (events_of trip_times)
fit n trip_times all none = by (is_aside trip_times) refl
  where
    by : (b : Bool) → is_aside trip_times ≡ b → Fit n trip_times (if b then [] else filled trip_times)
    by true e = record {
      few = omega arith;
      at_stop = All-nil (λ (e : Event). e.stop.0 < n);
      in_time = All-nil InTime;
      rise = rises 0 [] tt;
    }
    by false e =
        let ok = goes trip_times e none in
        let up = climbs None trip_times ok.first ok.last ok.on in
        subst (Fit n trip_times) (filled_is trip_times)
        (record {
          few = omega (arith, length-filled_on None trip_times);
          at_stop = at_stops n None trip_times e all;
          in_time = in_time n None trip_times tt all;
          rise = rises (departure_before None (nearest trip_times)) (filled_on None trip_times) up;
        })

few_events : (n : ℕ) (trips : List (List StopTime)) → All (All (IsSound n)) trips → whole_trip_faults trips ≡ [] →
    sum_by length (map events_of trips) ≤ sum_by length trips
few_events n [] all none = omega arith
few_events n (trip_times ∷ trips) all none =
    let (first, more) = no_parts _ _ none in
    let mapped = sum_by-cons (length {A = Event}) (events_of trip_times) (map events_of trips) in
    let plain = sum_by-cons (length {A = StopTime}) trip_times trips in
    let here = (fit n trip_times (all zero trip_times (omega arith)) first).few in
    omega (arith, mapped, plain, few_events n trips (All-tail (All (IsSound n)) trip_times trips all) more, here)

all_fit : (n : ℕ) (P : List Event → Type 0) →
    ((trip_times : List StopTime) → Fit n trip_times (events_of trip_times) → P (events_of trip_times))
    → (trips : List (List StopTime)) → All (All (IsSound n)) trips → whole_trip_faults trips ≡ [] →
    All P (map events_of trips)
all_fit n P f [] all none = All-nil P
all_fit n P f (trip_times ∷ trips) all none =
    let (first, more) = no_parts _ _ none in
    All-cons P (events_of trip_times) (map events_of trips)
    (f trip_times (fit n trip_times (all zero trip_times (omega arith)) first))
    (all_fit n P f trips (All-tail (All (IsSound n)) trip_times trips all) more)

pub are_events : (n count : ℕ) (trips : List (List StopTime)) → sum_by length trips ≡ count → count ≤ 8000000 →
    All (All (IsSound n)) trips → whole_trip_faults trips ≡ []
    → AreEvents n (map events_of trips)
are_events n count trips total few all none = record {
  few = omega (arith, few_events n trips all none, total, few);
  at_stops = all_fit n (All (λ (e : Event). e.stop.0 < n)) (λ trip_times f. f.at_stop) trips all none;
  in_time = all_fit n (All InTime) (λ trip_times f. f.in_time) trips all none;
  rise = all_fit n EventsRise (λ trip_times f. f.rise) trips all none;
}

-- a trip that is not set aside and has no fault
pub sound_trip : (trip_times : List StopTime) → is_aside trip_times ≡ false → untimed_ends trip_times ≡ [] →
    records_back 0 trip_times ≡ [] → (trip_faults trip_times ≡ []) × (events_of trip_times ≡ filled trip_times)
sound_trip trip_times here ends back = (rw (here, ends, back) refl, rw here refl)

-- the first fault of a trip is that of the trips from it on
pub tells_trip : (e : FeedFault) (trip_times : List StopTime) (all left rest : List (List StopTime)) →
    whole_trip_faults left ≡ whole_trip_faults all → left ≡ trip_times ∷ rest
    → Tells e (trip_faults trip_times) → Tells e (whole_trip_faults all)
tells_trip e trip_times all left rest same is told =
    subst (Tells e) (sym (ap whole_trip_faults is)
    ∙ same) (tells_more e (trip_faults trip_times) (whole_trip_faults rest) told)

-- the fault of a trip whose first or last event has no time, and of one that goes back
module _ (trip_times : List StopTime) (here : is_aside trip_times ≡ false) (at : ℕ) (e : FeedFault) where
  pub tells_untimed : Some at ≡ slice_get (untimed_ends trip_times) 0 →
      e ≡ record { file = StopTimes; at = at; what = NoTime } → Tells e (trip_faults trip_times)
  tells_untimed first is =
      rw (here, is) (tells_more _ _ _ (inr (first_map (λ (n : ℕ). let f : FeedFault =
      record { file = StopTimes; at = n; what = NoTime } in f) (untimed_ends trip_times) at (sym first))))

  pub tells_back : untimed_ends trip_times ≡ [] → Some at ≡ slice_get (records_back 0 trip_times) 0 →
      e ≡ record { file = StopTimes; at = at; what = TimesGoBack } → Tells e (trip_faults trip_times)
  tells_back none first is =
      rw (here, none, is) (inr (first_map (λ (n : ℕ). let f : FeedFault =
      record { file = StopTimes; at = n; what = TimesGoBack } in f) (records_back 0 trip_times) at (sym first)))
