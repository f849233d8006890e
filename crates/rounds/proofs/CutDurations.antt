-- The least durations that the labels of the cut network tell.
use Rattle.std.proofs.Common.{◌≡◌, ◌≢◌, ℕ, ◌+◌, ◌-◌, ◌<◌, ◌≤◌, ◌⊎◌, inl, inr, List, [], ◌∷◌, slice_index, refl, sym}
use Rattle.std.proofs.Common.{subst, arith}
use Rattle.std.proofs.lemmas.Bool.{cases_lt}
use Rattle.timetable.specs.declared.least.TheConstants.{NEVER}
use Rattle.timetable.specs.Least.{IsLeast, IsLeastOrNever}
use Rattle.timetable.specs.Networks.{Net, IsNet}
use Rattle.timetable.specs.Journeys.{Whereabouts, Leg, Ride, Walk, Journey, rides, IsReached, IsDuration}
use Rattle.rounds.specs.Cut.{cut_net}
use Rattle.rounds.specs.CappedLabels.{LaneStateTo}
use Rattle.rounds.specs.State.{arrival}
use Rattle.rounds.proofs.EveryJourney.{not_before, not_early}
use Rattle.rounds.proofs.CutJourneys.{reached_cut, reached_whole}

-- labels to never say by when a stop is reached
module _ (never : ℕ) (n : Net) (o : Whereabouts) (k : ℕ) (ride ready : List ℕ) (s : LaneStateTo never n o k ride ready)
    (p : ℕ) (there : p < n.stops) where
  pub arrival_fits_to : arrival ride ready p ≤ never
  arrival_fits_to = let f = s.ride_fits p in omega (arith, f)

  by_legs : (legs : List Leg) (time : ℕ) → Journey n o legs (record { stop = p; time = time }) → rides legs ≤ k →
      arrival ride ready p ≤ time
  by_legs [] time j few =
      let low = s.rides.least p time (omega (arith, s.ride_len)) (record {
        legs = [];
        journey = j;
        few = few;
        no_walk = tt;
      }) in
      omega arith
  by_legs (Ride trip i m ∷ before) time j few =
      let low = s.rides.least p time (omega (arith, s.ride_len)) (record {
        legs = Ride trip i m ∷ before;
        journey = j;
        few = few;
        no_walk = tt;
      }) in
      omega arith
  by_legs (Walk ∷ before) time j few =
      let low = s.readies.least p time (omega (arith, s.ready_len)) (record {
        legs = Walk ∷ before;
        end = time;
        journey = j;
        few = few;
        ready = refl;
      }) in
      omega arith

  -- none ends earlier
  pub arrival_least_to : (time : ℕ) → IsReached n o k p time → arrival ride ready p ≤ time
  arrival_least_to time r = by_legs r.legs time r.journey r.few

  -- some journey ends by then
  met : arrival ride ready p < never → (time : ℕ) × IsReached n o k p time × (time ≤ arrival ride ready p)
  met reached = elim (cases_lt (slice_index ride p) (slice_index ready p)) [
    | inl l ↦
        let r = s.rides.found p (omega (arith, s.ride_len)) (λ z. omega arith) in
        (slice_index ride p, record { legs = r.legs; journey = r.journey; few = r.few }, omega arith)
    | inr g ↦
        let r = s.readies.found p (omega (arith, s.ready_len)) (λ z. omega arith) in
        let soon = not_early n o r.legs (record { stop = p; time = r.end }) in
        (r.end, record { legs = r.legs; journey = r.journey; few = r.few }, omega (arith, soon, r.ready))
  ]

  -- so one ends then
  pub arrival_found_to : arrival ride ready p < never → IsReached n o k p (arrival ride ready p)
  arrival_found_to reached =
      let m = met reached in
      let low = arrival_least_to m.0 m.1 in
      let e : m.0 ≡ arrival ride ready p = omega (arith, m.2) in
      subst (IsReached n o k p) e m.1

module _ (n : Net) (ok : IsNet n) (base cap origin since depart : ℕ) (counted : since + base
    ≡ depart) (live : (0 < since) ⊎ (base ≡ 0)) (k : ℕ) (ride ready : List ℕ)
    (s : LaneStateTo cap (cut_net base cap n) (record { stop = origin; time = since }) k ride ready) (p : ℕ)
    (there : p < n.stops) where
  -- a label below never is, counted from the base, when a journey ends
  pub cut_found : arrival ride ready p < cap →
      IsReached n (record { stop = origin; time = depart }) k p (arrival ride ready p + base)
  cut_found reached =
      reached_whole n ok base cap origin since depart counted live k p (arrival ride ready p)
      (arrival_found_to cap (cut_net base cap n)
      (record { stop = origin; time = since }) k ride ready s p there reached) reached

  -- and none ends earlier than any label
  pub cut_least : (time : ℕ) → IsReached n (record { stop = origin; time = depart }) k p time →
      arrival ride ready p + base ≤ time
  cut_least time r =
      let early = not_before n ok (record { stop = origin; time = depart }) r.legs
      (record { stop = p; time = time }) r.journey in
      let fits = arrival_fits_to cap (cut_net base cap n) (record { stop = origin; time = since }) k ride
      ready s p there in
      let x = time - base in
      let same : x + base ≡ time = omega arith in
      elim (cases_lt x cap) [
        | inl l ↦
            let whole = subst (IsReached n (record { stop = origin; time = depart }) k p) (sym same) r in
            let low = arrival_least_to cap (cut_net base cap n) (record { stop = origin; time = since }) k ride
            ready s p there x
            (reached_cut n ok base cap origin since depart counted live k p x whole l) in
            omega arith
        | inr g ↦ omega arith
      ]

  -- where the label is never, no journey ends before base + never
  pub cut_never : arrival ride ready p ≡ cap → (time : ℕ) →
      IsReached n (record { stop = origin; time = depart }) k p time → base + cap ≤ time
  cut_never never time r = let low = cut_least time r in omega arith

  -- no label is below the departure
  pub cut_since : arrival ride ready p < cap → since ≤ arrival ride ready p
  cut_since reached =
      let r = cut_found reached in
      let early = not_before n ok (record { stop = origin; time = depart }) r.legs
      (record { stop = p; time = arrival ride ready p + base }) r.journey in
      omega arith

  -- a label below never tells the least duration
  pub cut_least_duration : (new : ℕ) → arrival ride ready p < cap → new + since ≡ arrival ride ready p →
      IsLeast (IsDuration n origin depart k p) new
  cut_least_duration new reached e =
      let at : arrival ride ready p + base ≡ depart + new = omega (arith, e) in
      record {
        holds = subst (IsReached n (record { stop = origin; time = depart }) k p) at (cut_found reached);
        least = λ m r. let low = cut_least (depart + m) r in omega (arith, at);
      }

  -- and a label of never that there is none, if none is so late that labels can't tell it
  pub cut_duration : (new : ℕ) → cap ≤ NEVER → (arrival ride ready p ≡ cap → new ≡ NEVER) →
      (arrival ride ready p ≢ cap → new + since ≡ arrival ride ready p) →
      (arrival ride ready p ≡ cap → (time : ℕ) → IsReached n (record { stop = origin; time = depart }) k p time →
      time < base + cap) → IsLeastOrNever (IsDuration n origin depart k p) new
  cut_duration new small never later late =
      let fits = arrival_fits_to cap (cut_net base cap n) (record { stop = origin; time = since }) k ride
      ready s p there in
      elim (cases_lt (arrival ride ready p) cap) [
        | inl l ↦
            let e = later (λ z. omega arith) in
            let d = cut_least_duration new l e in
            record { holds = λ some. d.holds; least = d.least; none = λ none m r. omega (arith, e) }
        | inr g ↦
            let z : arrival ride ready p ≡ cap = omega arith in
            let e = never z in
            let no : (m : ℕ) → IsDuration n origin depart k p m → ⊥ = λ m r. (let low = cut_never z (depart + m) r in
            let high = late z (depart + m) r in omega arith) in
            record { holds = λ some. absurd (some e); least = λ m r. absurd (no m r); none = λ none m r. no m r }
      ]

  -- who leaves at never, or later, reaches nothing before it
  pub cut_dead : cap ≤ since → arrival ride ready p ≡ cap
  cut_dead late =
      let fits = arrival_fits_to cap (cut_net base cap n) (record { stop = origin; time = since }) k ride
      ready s p there in
      elim (cases_lt (arrival ride ready p) cap) [ inl l ↦ let low = cut_since l in omega arith | inr g ↦ omega arith ]
