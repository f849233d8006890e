-- What is true of each journey, whenever it begins.
use Rattle.std.proofs.Common.{◌≡◌, ℕ, ◌+◌, ◌-◌, ◌<◌, ◌≤◌, List, [], ◌∷◌, slice_index}
use Rattle.std.proofs.Common.{refl, sym, ◌∙◌, arith}
use Rattle.timetable.proofs.KnownParts.{event_stop, foot_in_range}
use Rattle.timetable.specs.Networks.{Net, IsNet, IsEvent}
use Rattle.timetable.specs.Journeys.{Whereabouts, Leg, Ride, Walk, Journey, EndsInNoWalk, ready_at, rides, IsReached}
use Rattle.useful_minutes.proofs.LineEvents.{rises}
use Rattle.rounds.specs.Minutes.{IsRidden, IsReady}

module _ (n : Net) (o : Whereabouts) where
  -- who was here before is here with more rides
  pub ridden_more : {k p time : ℕ} → IsRidden n o k p time → IsRidden n o (k + 1) p time
  ridden_more r = record { legs = r.legs; journey = r.journey; few = omega (arith, r.few); no_walk = r.no_walk }

  pub ready_more : {k p time : ℕ} → IsReady n o k p time → IsReady n o (k + 1) p time
  ready_more r = record { legs = r.legs; end = r.end; journey = r.journey; few = omega (arith, r.few); ready = r.ready }

  -- nobody is ready to board before the last leg ends
  pub not_early : (legs : List Leg) (a : Whereabouts) → a.time ≤ ready_at n legs a
  not_early [] a = omega arith
  not_early (Ride trip j i ∷ before) a = omega arith
  not_early (Walk ∷ before) a = omega arith

  -- without a ride everybody is ready at once
  pub at_once : (legs : List Leg) (a : Whereabouts) → rides legs ≤ 0 → ready_at n legs a ≡ a.time
  at_once [] a few = refl
  at_once (Ride trip j i ∷ before) a few = absurd (omega (arith, few))
  at_once (Walk ∷ before) a few = refl

  pub reached_first : {p time : ℕ} → IsReady n o 0 p time → IsReached n o 0 p time
  reached_first {p} {time} r =
      let once = at_once r.legs (record { stop = p; time = r.end }) r.few in
      let e : r.end ≡ time = sym once ∙ r.ready in
      record { legs = r.legs; journey = rw (← e) r.journey; few = r.few }

  -- who came by no walk is ready to board by the end of a change
  pub ready_by_change : (k : ℕ) (legs : List Leg) (p end : ℕ) → Journey n o legs (record { stop = p; time = end }) →
      rides legs ≤ k → EndsInNoWalk legs → (time : ℕ) × IsReady n o k p time
      × (time ≤ end + slice_index n.feet.changes p)
  ready_by_change k [] p end j few no_walk =
      (end, record { legs = []; end = end; journey = j; few = few; ready = refl }, omega arith)
  ready_by_change k (Ride trip i m ∷ before) p end j few no_walk = (
    end + slice_index n.feet.changes p,
    record {
      legs = Ride trip i m ∷ before;
      end = end;
      journey = j;
      few = few;
      ready = refl;
    },
    omega arith,
  )
  ready_by_change k (Walk ∷ before) p end j few no_walk = absurd no_walk

module _ (n : Net) (ok : IsNet n) (o : Whereabouts) where
  -- each journey ends at a stop of the network
  pub on_network : o.stop < n.stops → (legs : List Leg) (b : Whereabouts) → Journey n o legs b → b.stop < n.stops
  on_network at_stop [] b j = rw j at_stop
  on_network at_stop (Ride trip i k ∷ before) b (a, j, r) =
      let off : IsEvent n.trips trip k r.off = (r.t, r.runs, r.ride.to) in
      let stop = event_stop n ok trip k r.off off in
      rw r.there stop
  on_network at_stop (Walk ∷ before) b (a, j, no_walk, w) =
      let target = foot_in_range n.feet ok.feet a.stop b.stop w.seconds w.foot in
      omega (arith, ok.in_range.lists)

  -- and none before it begins
  pub not_before : (legs : List Leg) (b : Whereabouts) → Journey n o legs b → o.time ≤ b.time
  not_before [] b j = rw j (omega arith)
  not_before (Ride trip k i ∷ before) b (a, j, r) =
      let early = not_before before a j in
      let on = r.in_time in
      let late = not_early n o before a in
      let rise = rises n ok trip r.t r.runs (i - k - 1) k i r.on r.off (omega (arith, r.ride.later))
      r.ride.from r.ride.to in
      rw r.there (omega arith)
  not_before (Walk ∷ before) b (a, j, no_walk, w) =
      let early = not_before before a j in
      omega (arith, w.there)
