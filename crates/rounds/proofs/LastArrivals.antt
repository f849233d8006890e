-- No journey ends at a stop after its last arrival, or the longest walk from its start.
use Rattle.std.proofs.Common.{ℕ, ◌+◌, ◌<◌, ◌≤◌, ◌⊎◌, inl, inr, List, [], ◌∷◌, slice_index, sym, ap, refl, ◌∙◌, arith}
use Rattle.std.proofs.lemmas.Bool.{cases_lt}
use Rattle.timetable.specs.declared.trips.Trip.{Trip}
use Rattle.timetable.specs.declared.limits.TheConstants.{MOST_FOOT_SECONDS}
use Rattle.timetable.specs.Networks.{Net, IsNet}
use Rattle.timetable.specs.Journeys.{Whereabouts, Leg, Ride, Walk, Journey, Rides, rides, IsReached}
use Rattle.timetable.specs.LastArrivals.{Arrives, AreLastArrivals}
use Rattle.timetable.proofs.KnownParts.{foot_short}
use Rattle.rounds.specs.Last.{AreLastFrom}

-- a last leg that is a ride arrives where the journey ends
arrives : {trips : List Trip} {trip j i ready : ℕ} {a b : Whereabouts} → Rides trips trip j i a ready b →
    Arrives trips b.stop b.time
arrives {trips} {trip} {j} {i} r =
    record {
      trip = trip;
      t = r.t;
      k = i;
      off = r.off;
      runs = r.runs;
      at = r.ride.to;
      may_alight = r.ride.may_alight;
      stop = sym (ap (λ (v : Whereabouts). v.stop) r.there);
      time_is = sym (ap (λ (v : Whereabouts). v.time) r.there);
    }

module _ (n : Net) (o : Whereabouts) where
  -- a journey with a ride ends by the last arrival
  pub ends_by_last : (last : List ℕ) → AreLastArrivals n.trips n.feet last → (legs : List Leg) (b : Whereabouts) →
      Journey n o legs b → 0 < rides legs → b.time ≤ slice_index last b.stop
  ends_by_last last ok [] b j some = absurd (omega (arith, some))
  ends_by_last last ok (Ride trip j i ∷ before) b (a, jo, r) some =
      ok.comes b.stop b.time (inr (arrives r))
  ends_by_last last ok (Walk ∷ []) b j some = absurd (omega (arith, some))
  ends_by_last last ok (Walk ∷ Ride trip j i ∷ before) b (a, (c, jo, r), no_walk, w) some =
      let late = ok.walks b.stop (a.time + w.seconds) (record {
        from = a.stop;
        arrival = a.time;
        seconds = w.seconds;
        comes = inr (arrives r);
        foot = w.foot;
        time_is = refl;
      }) in
      omega (arith, w.there)
  ends_by_last last ok (Walk ∷ Walk ∷ before) b (a, jo, no_walk, w) some = absurd no_walk

  -- one without a ride ends after the longest walk
  pub ends_by_walk : IsNet n → (legs : List Leg) (b : Whereabouts) → Journey n o legs b → rides legs ≤ 0 →
      b.time ≤ o.time + MOST_FOOT_SECONDS
  ends_by_walk ok [] b j none = let same = ap (λ (v : Whereabouts). v.time) j in omega arith
  ends_by_walk ok (Ride trip j i ∷ before) b j' none = absurd (omega (arith, none))
  ends_by_walk ok (Walk ∷ []) b (a, jo, no_walk, w) none =
      let same = ap (λ (v : Whereabouts). v.time) jo in
      let short = foot_short n.feet ok.feet a.stop b.stop w.seconds w.foot in
      omega (arith, w.there)
  ends_by_walk ok (Walk ∷ Ride trip j i ∷ before) b j' none = absurd (omega (arith, none))
  ends_by_walk ok (Walk ∷ Walk ∷ before) b (a, jo, no_walk, w) none = absurd no_walk

  -- so each ends by one of both
  pub ends_early : IsNet n → (last : List ℕ) → AreLastArrivals n.trips n.feet last → (k p time : ℕ) →
      IsReached n o k p time → (time ≤ slice_index last p) ⊎ (time ≤ o.time + MOST_FOOT_SECONDS)
  ends_early ok last are k p time r =
      elim (cases_lt 0 (rides r.legs)) [
        | inl some ↦ inl (ends_by_last last are r.legs (record { stop = p; time = time }) r.journey some)
        | inr none ↦ inr (ends_by_walk ok r.legs (record { stop = p; time = time }) r.journey none)
      ]

-- whatever the origin and the departure
pub last_from : (n : Net) → IsNet n → (origin first k : ℕ) (last : List ℕ) → AreLastArrivals n.trips n.feet last →
    AreLastFrom n origin first k last
last_from n ok origin first k last are =
    record {
      size = are.size ∙ ok.in_range.lists;
      none_later = λ depart p time le there r. ends_early n (record {
        stop = origin;
        time = depart;
      }) ok last are k p time r;
    }

-- where both are early, no journey is late
pub none_late : (n : Net) (origin first k : ℕ) (last : List ℕ) → AreLastFrom n origin first k last →
    (depart end p : ℕ) → first ≤ depart → p < n.stops → slice_index last p < end → depart + MOST_FOOT_SECONDS < end →
    (time : ℕ) → IsReached n (record { stop = origin; time = depart }) k p time → time < end
none_late n origin first k last are depart end p le there early soon time r =
    elim (are.none_later depart p time le there r) [ inl low ↦ omega arith | inr low ↦ omega arith ]
