-- The trips of a feed, from the lists of their identifiers, numbers, events and departures.
use Rattle.std.proofs.Common.{◌≡◌, ◌<◌, ◌≤◌, ◌+◌, ◌∙◌, ℕ, zero, suc, List, [], ◌∷◌, ◌++◌, Some, None, drop, drop-cons}
use Rattle.std.proofs.Common.{get_or, length, map, append_assoc, arith, refl, sym, ap}
use Rattle.std.proofs.lemmas.List.{length-append}
use Rattle.std.proofs.lemmas.List.Elements.{All-cons, All-filter, All-head, All-map, All-nil, All-tail}
use Rattle.std.proofs.lemmas.List.Sums.{sum_by-cons}
use Rattle.std.specs.Prelude.{◌==◌, All, filter, slice_get, sum_by}
use Rattle.std.specs.declared.vec.Vec.{Vec}
use Rattle.std.specs.declared.alloc.Global.{Global}
use Rattle.table_files.proofs.FrequencyFacts.{all_listed}
use Rattle.table_files.specs.Frequencies.{FrequencyRow, departures_at, departures_by_trip, departures_from, of_trip}
use Rattle.table_records.specs.Identifiers.{number_in}
use Rattle.table_files.specs.declared.feed_trips.TripNumbers.{TripNumbers}
use Rattle.table_files.specs.declared.frequencies.Departures.{Departures}
use Rattle.timetable.specs.declared.trips.Event.{Event}
use Rattle.gtfs_tables.specs.Feed.{IsDeparting}
use Rattle.gtfs_tables.specs.Files.{departures_in, faults_of_frequencies, files_of, trip_ids_in, trips_of}
use Rattle.gtfs_tables.specs.declared.feed_bytes.FeedBytes.{FeedBytes}
use Rattle.gtfs_tables.specs.declared.trip.FeedTrip.{FeedTrip}

-- a trip of the four
abbrev pub trip_of : List ℕ → TripNumbers → List Event → List Departures → FeedTrip
trip_of id n e d = record { route = n.route; service = n.service; id = id; events = e; departures = d }

-- the rest of a list from a position on
pub drop_get : {X : Type 0} (xs : List X) (i : ℕ) (x : X) → Some x ≡ slice_get xs i → drop i xs ≡ x ∷ drop (suc i) xs
drop_get [] i x h = cc h
drop_get (y ∷ xs) zero x h = cc h
drop_get (y ∷ xs) (suc i) x h = drop_get xs i x h

-- one more trip
pub trips_step : (ids : List (List ℕ)) (numbers : List TripNumbers) (id : List ℕ) (n : TripNumbers) (e : List Event)
    (d : List Departures) (left now : List (List Event)) (others rest : List (List Departures))
    (done : List FeedTrip) (t : FeedTrip) (all : List FeedTrip)
    → Some id ≡ slice_get ids (length done) → length done < length numbers → n ≡ get_or numbers (length done) n →
    left ≡ e ∷ now → others ≡ d ∷ rest → t ≡ trip_of id n e d
    → done ++ trips_of (drop (length done) ids) (drop (length done) numbers) left others ≡ all
    → (done ++ t ∷ []) ++ trips_of (drop (length (done ++ t ∷ [])) ids) (drop (length (done ++ t ∷ [])) numbers) now
    rest ≡ all
trips_step ids numbers id n e d left now others rest done t all at within here next after is so =
    let first : drop (length done) ids ≡ id ∷ drop (suc (length done)) ids = drop_get ids (length done) id at in
    let second : drop (length done) numbers ≡ n ∷ drop (suc (length done)) numbers =
    drop-cons numbers (length done) n within
    ∙ ap (λ (x : TripNumbers). x ∷ drop (suc (length done)) numbers) (sym here) in
    let longer : length (done ++ t ∷ []) ≡ suc (length done) = omega (arith, length-append done (t ∷ [])) in
    let both : t ∷ trips_of (drop (length (done ++ t ∷ [])) ids) (drop (length (done ++ t ∷ [])) numbers) now rest
    ≡ trips_of (drop (length done) ids) (drop (length done) numbers) left others =
    (λ k. is k ∷ trips_of (drop (longer k) ids) (drop (longer k) numbers) now rest)
    ∙ sym (λ k. trips_of (first k) (second k) (next k) (after k)) in
    append_assoc done (t ∷ []) _ ∙ ap (λ (l : List FeedTrip). done ++ l) both ∙ so

-- as many trips as identifiers, where all four lists are as long
pub ids-trips_of : (ids : List (List ℕ)) (numbers : List TripNumbers) (events : List (List Event))
    (departures : List (List Departures))
    → length numbers ≡ length ids → length events ≡ length ids → length departures ≡ length ids →
    map (λ (t : FeedTrip). t.id) (trips_of ids numbers events departures) ≡ ids
ids-trips_of [] numbers events departures a b d = refl
ids-trips_of (id ∷ ids) [] events departures a b d = absurd (omega (arith, a))
ids-trips_of (id ∷ ids) (n ∷ numbers) [] departures a b d = absurd (omega (arith, b))
ids-trips_of (id ∷ ids) (n ∷ numbers) (e ∷ events) [] a b d = absurd (omega (arith, d))
ids-trips_of (id ∷ ids) (n ∷ numbers) (e ∷ events) (x ∷ departures) a b d =
    ap (λ (l : List (List ℕ)). id ∷ l)
    (ids-trips_of ids numbers events departures (omega (arith, a)) (omega (arith, b)) (omega (arith, d)))

-- what holds of the numbers, the events and the departures holds of the trips
module _ (N : TripNumbers → Type 0) (E : List Event → Type 0) (D : List Departures → Type 0) (P : FeedTrip → Type 0)
    (makes : (id : List ℕ) (n : TripNumbers) (e : List Event) (d : List Departures) → N n → E e → D d →
    P (trip_of id n e d)) where
  pub All-trips_of : (ids : List (List ℕ)) (numbers : List TripNumbers) (events : List (List Event))
      (departures : List (List Departures))
      → All N numbers → All E events → All D departures → All P (trips_of ids numbers events departures)
  All-trips_of (id ∷ ids) (n ∷ numbers) (e ∷ events) (x ∷ departures) a b d =
      All-cons P (trip_of id n e x) (trips_of ids numbers events departures)
      (makes id n e x (All-head N n numbers a) (All-head E e events b) (All-head D x departures d))
      (All-trips_of ids numbers events departures (All-tail N n numbers a) (All-tail E e events b)
      (All-tail D x departures d))
  All-trips_of _ _ _ _ a b d = All-nil P

-- no more events than there are
pub events-trips_of : (ids : List (List ℕ)) (numbers : List TripNumbers) (events : List (List Event))
    (departures : List (List Departures))
    → sum_by (λ (t : FeedTrip). length t.events) (trips_of ids numbers events departures) ≤ sum_by length events
events-trips_of (id ∷ ids) (n ∷ numbers) (e ∷ events) (d ∷ departures) =
    let mine = sum_by-cons (λ (t : FeedTrip). length t.events) (trip_of id n e d)
    (trips_of ids numbers events departures) in
    let its = sum_by-cons (length {A = Event}) e events in
    omega (arith, mine, its, events-trips_of ids numbers events departures)
events-trips_of _ _ _ _ = omega arith

-- each trip has a list of departures
pub length-departures_from : (trips : List (List ℕ)) (rows : List FrequencyRow) (t : ℕ) (ids : List (List ℕ)) →
    length (departures_from trips rows t ids) ≡ length ids
length-departures_from trips rows t [] = refl
length-departures_from trips rows t (id ∷ ids) = omega (arith, length-departures_from trips rows (t + 1) ids)

-- what holds of each row's departures holds of each trip's
pub all_departing : (trips : List (List ℕ)) (rows : List FrequencyRow) (t : ℕ) (ids : List (List ℕ)) →
    All (λ r. IsDeparting (departures_at r)) rows
    → All (All IsDeparting) (departures_from trips rows t ids)
all_departing trips rows t [] all = All-nil (All IsDeparting)
all_departing trips rows t (id ∷ ids) all =
    All-cons (All IsDeparting) (of_trip trips rows t) (departures_from trips rows (t + 1) ids)
    (All-map IsDeparting departures_at (filter (λ (r : FrequencyRow). number_in trips r.trip == t) rows)
    (All-filter (λ (r : FrequencyRow). number_in trips r.trip == t)
    (λ (r : FrequencyRow). IsDeparting (departures_at r)) rows all))
    (all_departing trips rows (t + 1) ids all)

-- without frequencies.txt no trip has departures
pub no_rows : (files : FeedBytes) (trips : List (List ℕ)) (items : List (Vec Departures Global)) →
    files.frequencies ≡ None → trips ≡ trip_ids_in (files_of files) → length items ≡ length trips
    → ((t : ℕ) (d : Vec Departures Global) → t < length trips → (get_or items t d).items ≡ [])
    → (faults_of_frequencies (files_of files) ≡ [])
    × (map (λ (v : Vec Departures Global). v.items) items ≡ departures_in (files_of files))
no_rows files trips items absent are size none =
    rw absent (
      refl,
      all_listed trips [] items size (λ t d lt. none t d (omega (arith, lt, size)))
          ∙ ap (λ (l : List (List ℕ)). departures_by_trip l []) are,
    )
