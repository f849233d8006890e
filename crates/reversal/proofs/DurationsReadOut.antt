-- The least durations that follow from searches over the mirrored network.
use Rattle.std.proofs.Common.{◌≡◌, ◌⊎◌, inl, inr, ℕ, zero, suc, ◌+◌, ◌-◌, ◌<◌, ◌≤◌, min, List, [], ◌∷◌, length}
use Rattle.std.proofs.Common.{get_or, slice_get, slice_index, Some, All, cond, refl, sym, ◌∙◌, ap, subst, arith}
use Rattle.std.specs.List.Sorted.{IsNonDecreasing}
use Rattle.std.proofs.lemmas.Bool.{cases_eq, cases_lt, le-leb, lt-leb}
use Rattle.std.proofs.lemmas.Grind.{get_or_default_zero}
use Rattle.std.proofs.lemmas.List.Elements.{All-map}
use Rattle.std.proofs.lemmas.Option.{slice_get-get_or, slice_get_within}
use Rattle.timetable.specs.declared.least.TheConstants.{NEVER}
use Rattle.timetable.specs.declared.trips.Event.{Event}
use Rattle.timetable.specs.declared.trips.Trip.{Trip}
use Rattle.timetable.specs.Trips.{EventsRise}
use Rattle.timetable.specs.Least.{IsLeastOrNever}
use Rattle.timetable.specs.Networks.{Net, IsNet}
use Rattle.timetable.specs.Journeys.{IsDuration, IsReached, Journey, Leg, Ride, Walk, Whereabouts, ready_at}
use Rattle.timetable.proofs.KnownParts.{all_at, foot_short}
use Rattle.reversal.specs.Mirror.{IsHorizon, IsMirrored, mirrored_trip}
use Rattle.reversal.specs.Deadlines.{IsDeadline, IsWalkAlone}
use Rattle.reversal.specs.ReadOut.{AreSearched, IsDeadlineLabel, IsEnough, IsServedBy, until_served}
use Rattle.reversal.specs.Laws.{LeastDurationsAreReadOut, IsReachedBy, LaterDeadlinesServe, LabelsAreLeastUpTo}
use Rattle.reversal.proofs.DeadlinesMet.{met, walks_there}
use Rattle.reversal.proofs.MirroredNetworks.{events_rise}
use Rattle.reversal.proofs.JourneysReversed.{journeys_reverse}

-- times never fall from one event to a later one
rises : (events : List Event) → EventsRise events → (d j i : ℕ) (on off : Event) → i ≡ j + 1 + d →
    slice_get events j ≡ Some on → slice_get events i ≡ Some off → on.depart ≤ off.arrive
rises events rise zero j i on off at from to =
    let next : i ≡ j + 1 = omega (arith, at) in
    rise.moves j on off from (subst (λ (k : ℕ). slice_get events k ≡ Some off) next to)
rises events rise (suc d) j i on off at from to =
    let l = slice_get_within events i off to in
    let mid : Event = get_or events (j + 1) on in
    let here : slice_get events (j + 1) ≡ Some mid = slice_get-get_or events (j + 1) on (omega (arith, at, l)) in
    let first = rise.moves j on mid from here in
    let stays : mid.arrive ≤ mid.depart =
    all_at (λ (e : Event). e.arrive ≤ e.depart) events (j + 1) mid rise.stays here in
    let rest = rises events rise d (j + 1) i mid off (omega (arith, at)) here to in
    omega (arith, first, stays, rest)

-- a traveller is not ready before the last leg ends
not_early : (n : Net) (legs : List Leg) (a : Whereabouts) → a.time ≤ ready_at n legs a
not_early n [] a = omega arith
not_early n (Ride trip j i ∷ before) a = omega arith
not_early n (Walk ∷ before) a = omega arith

-- no journey ends before it begins
not_before : (n : Net) → All (λ (t : Trip). EventsRise t.events) n.trips → (o : Whereabouts) (legs : List Leg)
    (b : Whereabouts) → Journey n o legs b → o.time ≤ b.time
not_before n rise o [] b j = rw j (omega arith)
not_before n rise o (Ride trip j i ∷ before) b (a, was, r) =
    let early = not_before n rise o before a was in
    let ready = not_early n before a in
    let up = rises r.t.events (all_at (λ (t : Trip). EventsRise t.events) n.trips trip r.t rise r.runs) (i - j - 1) j i
    r.on r.off (omega (arith, r.ride.later)) r.ride.from r.ride.to in
    omega (arith, early, ready, r.in_time, up, ap (λ (v : Whereabouts). v.time) r.there)
not_before n rise o (Walk ∷ before) b (a, was, no_walk, w) =
    let early = not_before n rise o before a was in
    omega (arith, early, w.there)

-- two kinds of numbers have the same least number if each number is matched by one of the other kind that is no larger
alike : (P Q : ℕ → Type 0) → ((d : ℕ) → P d → (e : ℕ) × Q e × (e ≤ d)) → ((d : ℕ) → Q d → (e : ℕ) × P e × (e ≤ d)) →
    (label : ℕ) → IsLeastOrNever P label → IsLeastOrNever Q label
alike P Q forth back label one =
    record {
      holds = λ some.
          let q = forth label (one.holds some) in
          let p = back q.0 q.1 in
          let low = one.least p.0 p.1 in
          let same : q.0 ≡ label = omega (arith, q.2, p.2, low) in
          subst Q same q.1;
      least = λ d q.
          let p = back d q in
          let low = one.least p.0 p.1 in
          omega (arith, low, p.2);
      none = λ never d q.
          let p = back d q in
          one.none never p.0 p.1;
    }

-- the least number of two kinds is the lesser of the least numbers of each
least_of_both : (P Q : ℕ → Type 0) (a b : ℕ) → a ≤ NEVER → b ≤ NEVER → IsLeastOrNever P a → IsLeastOrNever Q b →
    IsLeastOrNever (λ d. P d ⊎ Q d) (min a b)
least_of_both P Q a b fits fits_too one other = elim (cases_lt b a) [
  | inl l ↦
      let same : min a b ≡ b = omega arith in
      subst (IsLeastOrNever (λ d. P d ⊎ Q d)) (sym same) (record {
        holds = λ some. inr (other.holds some);
        least = λ d h. elim h [ inl p ↦ let low = one.least d p in omega (arith, low, l) | inr q ↦ other.least d q ];
        none = λ never d h. elim h [
          | inl p ↦ omega (arith, never, l, fits)
          | inr q ↦ other.none never d q
        ];
      })
  | inr g ↦
      let same : min a b ≡ a = omega arith in
      subst (IsLeastOrNever (λ d. P d ⊎ Q d)) (sym same) (record {
        holds = λ some. inl (one.holds some);
        least = λ d h. elim h [ inl p ↦ one.least d p | inr q ↦ let low = other.least d q in omega (arith, low, g) ];
        none = λ never d h. elim h [
          | inl p ↦ one.none never d p
          | inr q ↦ let both : b ≡ NEVER = omega (arith, never, g, fits_too) in other.none both d q
        ];
      })
]

-- the seconds until a searched deadline that serves
abbrev IsUntil : List ℕ → List ℕ → ℕ → ℕ → Type 0
IsUntil times labels start d = (j : ℕ) × IsServedBy times labels j start × (start + d ≡ slice_index times j)

pub first_serves : (time label : ℕ) (times labels : List ℕ) (start : ℕ) → start + label ≤ time →
    until_served (time ∷ times) (label ∷ labels) start ≡ time - start
first_serves time label times labels start l =
    ap (λ t. cond t (time - start) (until_served times labels start)) (le-leb (start + label) time l)

pub first_is_late : (time label : ℕ) (times labels : List ℕ) (start : ℕ) → time < start + label →
    until_served (time ∷ times) (label ∷ labels) start ≡ until_served times labels start
first_is_late time label times labels start l =
    ap (λ t. cond t (time - start) (until_served times labels start)) (lt-leb (start + label) time l)

-- if the first deadline doesn't serve, a later one does
until_later : (time label : ℕ) (times labels : List ℕ) (start : ℕ) → time < start + label → (d : ℕ) →
    IsUntil (time ∷ times) (label ∷ labels) start d → IsUntil times labels start d
until_later time label times labels start late d (zero, s, e) = absurd (omega (arith, late, s.1))
until_later time label times labels start late d (suc j, s, e) = (j, (omega (arith, s.0), s.1), e)

until_fits : (times labels : List ℕ) (start : ℕ) → All (λ time. time < NEVER) times →
    until_served times labels start ≤ NEVER
until_fits [] labels start low = omega arith
until_fits (time ∷ times) [] start low = omega arith
until_fits (time ∷ times) (label ∷ labels) start low =
    let here : time < NEVER = low 0 0 (omega arith) in
    let rest = until_fits times labels start (λ i d l. low (suc i) d (omega (arith, l))) in
    elim (cases_lt time (start + label)) [
      | inr serves ↦ omega (arith, first_serves time label times labels start serves, here)
      | inl late ↦ omega (arith, first_is_late time label times labels start late, rest)
    ]

until_is_least : (times labels : List ℕ) (start : ℕ) → length labels ≡ length times → IsNonDecreasing times →
    All (λ time. time < NEVER) times → IsLeastOrNever (IsUntil times labels start) (until_served times labels start)
until_is_least [] labels start count rising low =
    record {
      holds = λ some. absurd (some refl);
      least = λ d u. omega (arith, u.1.0);
      none = λ never d u. omega (arith, u.1.0);
    }
until_is_least (time ∷ times) [] start count rising low = absurd (omega (arith, count))
until_is_least (time ∷ times) (label ∷ labels) start count rising low =
    let Until = IsUntil (time ∷ times) (label ∷ labels) start in
    let here : time < NEVER = low 0 0 (omega arith) in
    elim (cases_lt time (start + label)) [
      | inr serves ↦
          subst (IsLeastOrNever Until) (sym (first_serves time label times labels start serves)) (record {
            holds = λ some. (0, (omega arith, serves), omega (arith, serves));
            least = λ d u.
                let up = rising 0 u.0 0 (omega arith) u.1.0 in
                omega (arith, up, u.2);
            none = λ never. absurd (omega (arith, never, here));
          })
      | inl late ↦
          let rest = until_is_least times labels start (omega (arith, count))
          (λ i j d le l. rising (suc i) (suc j) d (omega (arith, le)) (omega (arith, l)))
          (λ i d l. low (suc i) d (omega (arith, l))) in
          subst (IsLeastOrNever Until) (sym (first_is_late time label times labels start late)) (record {
            holds = λ some.
                let u = rest.holds some in
                (suc u.0, (omega (arith, u.1.0), u.1.1), u.2);
            least = λ d u. rest.least d (until_later time label times labels start late d u);
            none = λ never d u. rest.none never d (until_later time label times labels start late d u);
          })
    ]

-- a label that is right is right up to every limit below NEVER
pub least_up_to : LabelsAreLeastUpTo
least_up_to n origin depart k p most label low one =
    record { holds = λ l. one.holds (λ never. omega (arith, never, l, low)); least = λ d r l. one.least d r }

module _ (h : ℕ) (n m : Net) (first origin start k p : ℕ) (ok : IsNet n) (ends : IsHorizon h n.trips)
    (is : IsMirrored h n m) (begun : first ≤ start) (early : start ≤ h) where
  rise : All (λ (t : Trip). EventsRise t.events) m.trips
  rise = subst (All (λ (t : Trip). EventsRise t.events)) (sym is.trips)
      (All-map (λ (t : Trip). EventsRise t.events) (mirrored_trip h) n.trips
      (λ i d l. events_rise h (get_or n.trips i d).events (ok.rise i d l)))

  after_start : (end : ℕ) → IsReached n (record { stop = origin; time = start }) k p end → start ≤ end
  after_start end r =
      not_before n ok.rise (record { stop = origin; time = start }) r.legs (record { stop = p; time = end }) r.journey

  -- a traveller who is at p by the time can leave no later than the label says
  served : (time label : ℕ) → time ≤ h → IsDeadlineLabel h m first p k origin time label →
      IsReachedBy n origin start k p time → start + label ≤ time
  served time label by told r =
      let back = (journeys_reverse h n m origin start k p time ends is early by).0 r in
      let after = not_before m rise (record { stop = p; time = h - time }) back.reached.legs
      (record { stop = origin; time = back.time }) back.reached.journey in
      let d : ℕ = back.time - (h - time) in
      let split : back.time ≡ h - time + d = omega (arith, after) in
      let long : d ≤ time - first = omega (arith, split, back.in_time, by, early, begun) in
      let least = told.least d
      (subst (λ (t : ℕ). IsReached m (record { stop = p; time = h - time }) k origin t) split back.reached) long in
      omega (arith, least, split, back.in_time, by, early)

  serves : (time label : ℕ) → time ≤ h → IsDeadlineLabel h m first p k origin time label → start + label ≤ time →
      IsReachedBy n origin start k p time
  serves time label by told s =
      let back : IsReachedBy m p (h - time) k origin (h - start) = record {
        time = h - time + label;
        reached = told.holds (omega (arith, s, begun));
        in_time = omega (arith, s, by, early);
      } in
      (journeys_reverse h n m origin start k p time ends is early by).1 back

  module _ (through : ℕ) (times labels : List ℕ) (are : AreSearched h n m first through p k origin times labels) where
    in_time : (j : ℕ) → j < length times → (slice_index times j ≤ through) × (slice_index times j ≤ h)
    in_time j l = are.range j 0 l

    served_at : (j : ℕ) → j < length times → IsReachedBy n origin start k p (slice_index times j) →
        IsServedBy times labels j start
    served_at j l r = (l, served (slice_index times j) (slice_index labels j) (in_time j l).1 (are.label j l) r)

    serves_at : (j : ℕ) → IsServedBy times labels j start → IsReachedBy n origin start k p (slice_index times j)
    serves_at j s = serves (slice_index times j) (slice_index labels j) (in_time j s.0).1 (are.label j s.0) s.1

    -- a deadline up to `through` is among those that were searched
    found : (end : ℕ) → IsDeadline n p end → IsReached n (record { stop = origin; time = start }) k p end →
        end ≤ through → IsUntil times labels start (end - start)
    found end deadline r low =
        let after = after_start end r in
        let place = are.each end deadline (omega (arith, after, begun)) low in
        let at : slice_index times place.0 ≡ end = sym (get_or_default_zero times place.0 end place.1) ∙ place.2 in
        let s = served_at place.0 place.1 (record { time = end; reached = r; in_time = omega (arith, at) }) in
        (place.0, s, omega (arith, after, at))

    -- each deadline is matched by a searched one that serves no later
    matched : IsEnough h n m first through p k origin start times labels → (end : ℕ) → IsDeadline n p end →
        IsReached n (record { stop = origin; time = start }) k p end →
        (e : ℕ) × IsUntil times labels start e × (start + e ≤ end)
    matched enough end deadline r = elim (cases_lt through end) [
      | inr low ↦
          let after = after_start end r in
          (end - start, found end deadline r low, omega (arith, after))
      | inl past ↦ elim enough [
        | inl all ↦ absurd (let low = all end deadline in omega (arith, low, past))
        | inr more ↦ elim more [
          | inl s ↦
              let range = in_time s.0 s.1.0 in (
                slice_index times s.0 - start,
                (s.0, s.1, omega (arith, s.1.1)),
                omega (arith, range.0, past, s.1.1),
              )
          | inr u ↦
              let by = u.last end deadline in
              let late = served u.end u.label u.range u.labelled
              (record { time = end; reached = r; in_time = by }) in
              absurd (omega (arith, late, u.unserved))
        ]
      ]
    ]

    offered : IsEnough h n m first through p k origin start times labels → (d : ℕ) → IsDuration n origin start k p d →
        (e : ℕ) × (IsWalkAlone n.feet.walks origin p e ⊎ IsUntil times labels start e) × (e ≤ d)
    offered enough d r =
        let was = met n origin start k p (start + d) r in
        elim was.how [
          | inl w ↦ (w.0, inl w.1, omega (arith, w.2, was.low))
          | inr y ↦
              let u = matched enough was.end y.0 y.1 in
              (u.0, inr u.1, omega (arith, u.2, was.low))
        ]

    taken : (d : ℕ) → IsWalkAlone n.feet.walks origin p d ⊎ IsUntil times labels start d →
        (e : ℕ) × IsDuration n origin start k p e × (e ≤ d)
    taken d (inl w) = (d, walks_there n origin start k p d w, omega arith)
    taken d (inr u) =
        let r = serves_at u.0 u.1 in
        let after = after_start r.time r.reached in
        let split : r.time ≡ start + (r.time - start) = omega (arith, after) in (
          r.time - start,
          subst (λ (t : ℕ). IsReached n (record { stop = origin; time = start }) k p t) split r.reached,
          omega (arith, u.2, r.in_time),
        )

-- the seconds of a walk alone are at most NEVER
walk_fits : (n : Net) (a b walk : ℕ) → IsNet n → IsLeastOrNever (IsWalkAlone n.feet.walks a b) walk → walk ≤ NEVER
walk_fits n a b walk ok one = elim (cases_eq walk NEVER) [
  | inl e ↦ omega (arith, e)
  | inr some ↦ elim (one.holds some) [
    | inl z ↦ omega (arith, z.1)
    | inr f ↦ let short = foot_short n.feet ok.feet a b walk f in omega (arith, short)
  ]
]

pub read_out : LeastDurationsAreReadOut
read_out h n m times labels first through origin start k p walk ok low ends is begun early are enough walks =
    let P : ℕ → Type 0 = IsDuration n origin start k p in
    let Q : ℕ → Type 0 = λ d. IsWalkAlone n.feet.walks origin p d ⊎ IsUntil times labels start d in
    let fits : All (λ time. time < NEVER) times = λ i d l. let r = are.range i d l in omega (arith, r.1, low) in
    let until = until_is_least times labels start are.count are.ascending fits in
    let both =
    least_of_both (IsWalkAlone n.feet.walks origin p) (IsUntil times labels start) walk
    (until_served times labels start) (walk_fits n origin p walk ok walks)
    (until_fits times labels start fits) walks until in
    alike Q P (taken h n m first origin start k p ok ends is begun early through times labels are)
    (offered h n m first origin start k p ok ends is begun early through times labels are enough)
    (min walk (until_served times labels start)) both

pub later_times_serve : LaterDeadlinesServe
later_times_serve h n m times labels first through origin start k p j l ok low ends is begun early are within up s =
    let r = serves_at h n m first origin start k p ok ends is begun early through times labels are j s in
    served_at h n m first origin start k p ok ends is begun early through times labels are l within
    (record { time = r.time; reached = r.reached; in_time = omega (arith, r.in_time, up) })
