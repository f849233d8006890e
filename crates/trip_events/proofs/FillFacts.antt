-- The events of a trip: each at its own times or at those between its neighbours.
use Rattle.std.proofs.Common.{◌≡◌, ◌<◌, ◌≤◌, ◌+◌, ◌-◌, ◌*◌, ◌/◌, ◌||◌, ◌++◌, ◌∙◌, ℕ, zero, suc, Bool, true, false, List}
use Rattle.std.proofs.Common.{[], ◌∷◌, length, drop, length-drop, Option, Some, None, get_or, unwrap_or, arith, refl}
use Rattle.std.proofs.Common.{sym, ap, subst}
use Rattle.std.proofs.Math.Seq.{drop-cons}
use Rattle.std.proofs.Math.Nat.{div-mul-le_self, div-le_self, mul-le-mul_left, mul-div_left}
use Rattle.std.proofs.lemmas.List.{append_assoc}
use Rattle.std.proofs.lemmas.Nat.{le-div}
use Rattle.std.proofs.lemmas.Bool.Decides.{nat_tests}
use Rattle.std.proofs.lemmas.List.Elements.{All-cons, All-nil}
use Rattle.std.specs.Prelude.{All, IfSome, nat_lt, option_map, slice_get}
use Rattle.timetable.specs.Trips.{EventsRise}
use Rattle.timetable.specs.declared.trips.Event.{Event}
use Rattle.trip_events.specs.Fill.{between, event_at, events_after, filled, nearer, nearest, time_at_gap}
use Rattle.trip_events.specs.WholeTrips.{goes_back}
use Rattle.trip_events.specs.declared.fill.Neighbour.{Neighbour}
use Rattle.trip_events.specs.declared.trip_times.StopTime.{StopTime}
use Rattle.trip_events.specs.declared.trip_times.VisitTimes.{VisitTimes}

-- the events of records that follow a neighbour
abbrev pub filled_on : Option Neighbour → List StopTime → List Event
filled_on before [] = []
filled_on before (s ∷ rest) = event_at s (unwrap_or s.times (between before (nearest rest))) ∷ filled_on
    (nearer s.times before) rest

filled_after : (before trip_times : List StopTime) →
    filled_on (nearest before) trip_times ≡ events_after before trip_times
filled_after before [] = refl
filled_after before (s ∷ rest) =
    ap (λ (l : List Event). event_at s (unwrap_or s.times (between (nearest before) (nearest rest))) ∷ l)
    (filled_after (s ∷ before) rest)

pub filled_is : (trip_times : List StopTime) → filled_on None trip_times ≡ filled trip_times
filled_is trip_times = filled_after [] trip_times

pub length-filled_on : (before : Option Neighbour) (trip_times : List StopTime) →
    length (filled_on before trip_times) ≡ length trip_times
length-filled_on before [] = refl
length-filled_on before (s ∷ rest) = omega (arith, length-filled_on (nearer s.times before) rest)

-- a later gap ends no earlier
later_gap : (d a i j n : ℕ) → 0 < n → i ≤ j → time_at_gap d a i n ≤ time_at_gap d a j n
later_gap d a i j n some le =
    let low = div-mul-le_self ((a - d) * i) n in
    let more = mul-le-mul_left (a - d) le in
    let part = le-div ((a - d) * i / n) ((a - d) * j) n some (omega (arith, low, more)) in
    omega (arith, part)

-- no gap has passed
no_gap : (d a n : ℕ) → 0 < n → time_at_gap d a 0 n ≡ d
no_gap d a n some =
    let nothing : (a - d) * 0 ≡ 0 = omega arith in
    let none : (a - d) * 0 / n ≤ (a - d) * 0 = div-le_self ((a - d) * 0) n in
    omega (arith, none, nothing)

-- times within a limit, and so are those between them
pub gap_within : (d a j n most : ℕ) → 0 < n → j ≤ n → d ≤ most → a ≤ most → time_at_gap d a j n ≤ most
gap_within d a j n most some le low high =
    let up = later_gap d a j n n some le in
    let whole = mul-div_left (a - d) some in
    omega (arith, up, whole, low, high)

-- events that arrive no earlier than a time, and of which none goes back
abbrev pub Climbs : ℕ → List Event → Type 0
Climbs low [] = Unit {0}
Climbs low (e ∷ rest) = (low ≤ e.arrive) × (e.arrive ≤ e.depart) × Climbs e.depart rest

stays : (low : ℕ) (events : List Event) → Climbs low events → All (λ (e : Event). e.arrive ≤ e.depart) events
stays low [] up = All-nil (λ (e : Event). e.arrive ≤ e.depart)
stays low (e ∷ rest) up = All-cons (λ (e : Event). e.arrive ≤ e.depart) e rest up.1 (stays e.depart rest up.2)

moves : (low : ℕ) (events : List Event) → Climbs low events
    → (k : ℕ) (e f : Event) → slice_get events k ≡ Some e → slice_get events (k + 1) ≡ Some f → e.depart ≤ f.arrive
moves low [] up k e f a b = cc a
moves low (x ∷ []) up zero e f a b = cc b
moves low (x ∷ y ∷ rest) up zero e f a b =
    let one : x ≡ e = cc a in
    let two : y ≡ f = cc b in
    let le : x.depart ≤ y.arrive = up.2.0 in
    let left = ap (λ (t : Event). t.depart) one in
    let right = ap (λ (t : Event). t.arrive) two in
    omega (arith, le, left, right)
moves low (x ∷ rest) up (suc k) e f a b =
    let next : suc k + 1 ≡ suc (k + 1) = omega arith in
    moves x.depart rest up.2 k e f a (sym (ap (slice_get (x ∷ rest)) next) ∙ b)

pub rises : (low : ℕ) (events : List Event) → Climbs low events → EventsRise events
rises low events up = record { stays = stays low events up; moves = moves low events up }

-- the departure that stands before an event between neighbours
abbrev pub departure_before : Option Neighbour → Option Neighbour → ℕ
departure_before None after = 0
departure_before (Some b) None = b.times.depart
departure_before (Some b) (Some a) = time_at_gap b.times.depart a.times.arrive b.untimed (b.untimed + a.untimed + 1)

-- the last departure, of a neighbour
abbrev pub left_at : Option Neighbour → ℕ
left_at None = 0
left_at (Some b) = b.times.depart

-- one of two is there
abbrev pub OneIs : {X Y : Type 0} → Option X → Option Y → Type 0
OneIs None None = zero ≡ suc zero
OneIs None (Some y) = Unit {0}
OneIs (Some x) o = Unit {0}

onward : (low : ℕ) (t : VisitTimes) → goes_back low (Some t) ≡ false → (low ≤ t.arrive) × (t.arrive ≤ t.depart)
onward low t h = by (nat_lt t.arrive low) (nat_lt t.depart t.arrive) refl refl h
  where
    by : (b c : Bool) → nat_lt t.arrive low ≡ b → nat_lt t.depart t.arrive ≡ c → (b || c) ≡ false →
        (low ≤ t.arrive) × (t.arrive ≤ t.depart)
    by true c e f g = cc g
    by false true e f g = cc g
    by false false e f g = (grind (arith, nat_tests), grind (arith, nat_tests))

after_first : (t : VisitTimes) (after : Option Neighbour) → departure_before (nearer (Some t) None) after ≡ t.depart
after_first t None = refl
after_first t (Some a) = no_gap t.depart a.times.arrive (0 + a.untimed + 1) (omega arith)

after_timed : (t : VisitTimes) (before after : Option Neighbour) →
    departure_before (nearer (Some t) before) after ≡ t.depart
after_timed t before after = after_first t after

-- one event goes on from those before it
pub step : (s : StopTime) (times : Option VisitTimes) (before after : Option Neighbour) (xs : List Event) →
    OneIs times before → OneIs times after → goes_back (left_at before) times ≡ false
    → Climbs (departure_before (nearer times before) after) xs →
    Climbs (departure_before before (nearer times after)) (event_at s (unwrap_or times (between before after)) ∷ xs)
step s (Some t) None after xs b a on up =
    let (first, second) = onward 0 t on in
    (omega arith, second, subst (λ (n : ℕ). Climbs n xs) (after_timed t None after) up)
step s (Some t) (Some n) after xs b a on up =
    let (first, second) = onward n.times.depart t on in
    let most = gap_within n.times.depart t.arrive n.untimed (n.untimed + 0 + 1) t.arrive (omega arith) (omega arith)
    first (omega arith) in
    (most, second, subst (λ (n : ℕ). Climbs n xs) (after_timed t (Some n) after) up)
step s None None after xs b a on up = cc b
step s None (Some n) None xs b a on up = cc a
step s None (Some n) (Some m) xs b a on up =
    let gaps : n.untimed + (m.untimed + 1) + 1 ≡ n.untimed + m.untimed + 2 = omega arith in
    let same : n.untimed + 1 + m.untimed + 1 ≡ n.untimed + m.untimed + 2 = omega arith in
    let more = later_gap n.times.depart m.times.arrive n.untimed (n.untimed + 1) (n.untimed + m.untimed + 2)
    (omega arith) (omega arith) in
    let le : time_at_gap n.times.depart m.times.arrive n.untimed (n.untimed + (m.untimed + 1) + 1)
    ≤ time_at_gap n.times.depart m.times.arrive (n.untimed + 1) (n.untimed + m.untimed + 2) =
    rw gaps more in (
      le,
      omega arith,
      subst (λ (k : ℕ). Climbs (time_at_gap n.times.depart m.times.arrive (n.untimed + 1) k) xs) same
          up,
    )

-- a neighbour is at most as far as there are events
abbrev pub IsNear : Option Neighbour → ℕ → Type 0
IsNear o most = IfSome o (λ n. n.untimed ≤ most)

pub nearest_near : (trip_times : List StopTime) → IsNear (nearest trip_times) (length trip_times)
nearest_near [] = tt
nearest_near (s ∷ rest) = by s.times (nearest rest) (nearest_near rest)
  where
    by : (times : Option VisitTimes) (o : Option Neighbour) → IsNear o (length rest) →
        IsNear (nearer times o) (suc (length rest))
    by None None h = tt
    by None (Some n) h = omega (arith, h)
    by (Some t) o h = omega arith

pub near_within : (o : Option Neighbour) (n most : ℕ) → n ≤ most → IsNear o n → IsNear o most
near_within None n most le h = tt
near_within (Some x) n most le h = omega (arith, h, le)

pub approached_near : (o : Option Neighbour) (most : ℕ) → IsNear o most →
    IsNear (option_map (λ (n : Neighbour). record { times = n.times; untimed = n.untimed - 1 }) o) most
approached_near None most h = tt
approached_near (Some x) most h = omega (arith, h)

-- a record with times goes on from those before it, whatever these are
pub one_timed : (before : Option Neighbour) (xs : List StopTime) (i : ℕ) (d : StopTime) (t : VisitTimes)
    (done all : List Event) → i < length xs
    → (get_or xs i d).times ≡ Some t → done ++ filled_on before (drop i xs) ≡ all
    → (done ++ event_at (get_or xs i d) t ∷ []) ++ filled_on (Some (record { times = t; untimed = 0 }))
    (drop (i + 1) xs) ≡ all
one_timed before xs i d t done all within timed is =
    append_assoc done (event_at (get_or xs i d) t ∷ []) (after (i + 1))
    ∙ ap (λ (l : List Event). done ++ l) (sym goes_on) ∙ is
  where
    after : ℕ → List Event
    after k = filled_on (Some (record { times = t; untimed = 0 })) (drop k xs)

    first : (s : StopTime) (rest : List StopTime) → s.times ≡ Some t
        → filled_on before (s ∷ rest) ≡ event_at s t ∷ filled_on (Some (record { times = t; untimed = 0 })) rest
    first s rest h = rw h refl

    next : suc i ≡ i + 1
    next = omega arith

    goes_on : filled_on before (drop i xs) ≡ event_at (get_or xs i d) t ∷ after (i + 1)
    goes_on =
        ap (filled_on before) (drop-cons xs i d within) ∙ first (get_or xs i d) (drop (suc i) xs) timed
        ∙ ap (λ (k : ℕ). event_at (get_or xs i d) t ∷ after k) next

-- no event is left after the last
pub none_left : (before : Option Neighbour) (i : ℕ) (trip_times : List StopTime) → length trip_times ≤ i →
    filled_on before (drop i trip_times) ≡ []
none_left before i trip_times le = by (drop i trip_times) (omega (arith, length-drop i trip_times))
  where
    by : (xs : List StopTime) → length xs ≡ 0 → filled_on before xs ≡ []
    by [] e = refl
    by (x ∷ xs) e = absurd (omega (arith, e))
