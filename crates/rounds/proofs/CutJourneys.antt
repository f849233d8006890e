-- The journeys of the cut network that end before never are those of the network that end before base + never.
use Rattle.std.proofs.Common.{◌≡◌, ℕ, ◌+◌, ◌-◌, ◌<◌, ◌≤◌, ◌⊎◌, inl, inr, List, [], ◌∷◌, refl, ap, arith}
use Rattle.timetable.specs.Networks.{Net, IsNet}
use Rattle.timetable.specs.Journeys.{Whereabouts, Leg, Ride, Walk, Journey, ready_at, IsReached}
use Rattle.trip_lanes.specs.Cut.{cut}
use Rattle.rounds.specs.Cut.{cut_net}
use Rattle.rounds.specs.Minutes.{IsRidden, IsReady}
use Rattle.rounds.proofs.CutNetworks.{cut_net_is_net}
use Rattle.rounds.proofs.EveryJourney.{not_before, not_early}
use Rattle.rounds.proofs.CutRides.{cut_ride, from_cut, ride_rises}

-- the same stop at the same time
same_position : (p q x y : ℕ) → p ≡ q → x ≡ y → let v : Whereabouts = record { stop = p; time = x } in
    let w : Whereabouts = record { stop = q; time = y } in v ≡ w
same_position p q x y e f = rw (e, f) refl

module _ (n : Net) (ok : IsNet n) (base cap origin since depart : ℕ) (counted : since + base
    ≡ depart) (live : (0 < since) ⊎ (base ≡ 0)) where
  -- who is somewhere so much later is ready there so much later
  ready_shift : (legs : List Leg) (p x : ℕ) →
      ready_at n legs (record { stop = p; time = x + base })
      ≡ ready_at (cut_net base cap n) legs (record { stop = p; time = x }) + base
  ready_shift [] p x = refl
  ready_shift (Ride trip j i ∷ before) p x = omega arith
  ready_shift (Walk ∷ before) p x = refl

  -- the legs of a journey that ends before base + never lead as far in the cut network
  pub journey_cut : (legs : List Leg) (p time : ℕ) →
      Journey n (record { stop = origin; time = depart }) legs (record { stop = p; time = time + base }) → time < cap →
      Journey (cut_net base cap n) (record { stop = origin; time = since }) legs (record { stop = p; time = time })
  journey_cut [] p time j soon =
      let stop : p ≡ origin = ap (λ (v : Whereabouts). v.stop) j in
      let at : time + base ≡ depart = ap (λ (v : Whereabouts). v.time) j in
      let t : time ≡ since = omega (arith, at) in
      rw (stop, t) refl
  journey_cut (Ride trip k i ∷ before) p time (a, jo, r) soon =
      let early = not_before n ok (record { stop = origin; time = depart }) before a jo in
      let ready = not_early n (record { stop = origin; time = depart }) before a in
      let rise = ride_rises n ok trip k i r.t r.on r.off r.runs r.ride in
      let end : time + base ≡ r.off.arrive = ap (λ (v : Whereabouts). v.time) r.there in
      let x = a.time - base in
      let same : x + base ≡ a.time = omega arith in
      let led = journey_cut before a.stop x (rw same jo) (omega (arith, r.in_time)) in
      let shift = ready_shift before a.stop x in (
        record { stop = a.stop; time = x },
        led,
        cut_ride base cap n.trips trip k i (record { stop = a.stop; time = x })
            (ready_at (cut_net base cap n) before (record { stop = a.stop; time = x }))
            (record { stop = p; time = time }) (record {
              t = r.t;
              on = r.on;
              off = r.off;
              runs = r.runs;
              ride = r.ride;
              here = r.here;
              in_time = let now = rw same at shift in omega (arith, r.in_time, now);
              there =
                  let stop : p ≡ r.off.stop.0 = ap (λ (v : Whereabouts). v.stop) r.there in
                  let t : time ≡ cut base cap r.off.arrive = omega (arith, end) in
                  rw (stop, t) refl;
            }),
      )
  journey_cut (Walk ∷ before) p time (a, jo, no_walk, w) soon =
      let early = not_before n ok (record { stop = origin; time = depart }) before a jo in
      let x = a.time - base in
      let same : x + base ≡ a.time = omega arith in
      let led = journey_cut before a.stop x (rw same jo) (omega (arith, w.there)) in (
        record { stop = a.stop; time = x },
        led,
        no_walk,
        record { seconds = w.seconds; foot = w.foot; there = omega (arith, w.there) },
      )

  -- and those of a journey of the cut network that ends before never lead as far in the network
  pub journey_whole : (legs : List Leg) (p time : ℕ) →
      Journey (cut_net base cap n) (record { stop = origin; time = since }) legs (record { stop = p; time = time }) →
      time < cap → Journey n (record { stop = origin; time = depart }) legs (record { stop = p; time = time + base })
  journey_whole [] p time j soon =
      let stop : p ≡ origin = ap (λ (v : Whereabouts). v.stop) j in
      let at : time ≡ since = ap (λ (v : Whereabouts). v.time) j in
      let t : time + base ≡ depart = omega (arith, at) in
      rw (stop, t) refl
  journey_whole (Ride trip k i ∷ before) p time (a, jo, r) soon =
      let early = not_before (cut_net base cap n) (cut_net_is_net base cap n ok)
      (record { stop = origin; time = since }) before a jo in
      let ready = not_early (cut_net base cap n) (record { stop = origin; time = since }) before a in
      let c = from_cut base cap n.trips trip k i a (ready_at (cut_net base cap n) before a)
      (record { stop = p; time = time }) r in
      let rise = ride_rises n ok trip k i c.t c.on c.off c.runs c.ride in
      let end : time ≡ cut base cap c.off.arrive = ap (λ (v : Whereabouts). v.time) c.there in
      let led = journey_whole before a.stop a.time jo (omega (arith, c.in_time, end)) in
      let shift = ready_shift before a.stop a.time in
      let in_time : ready_at (cut_net base cap n) before a + base ≤ c.on.depart = elim live [
        | inl after ↦ omega (arith, c.in_time, end)
        | inr zero_base ↦ omega (arith, c.in_time, end)
      ] in (
        record { stop = a.stop; time = a.time + base },
        led,
        record {
          t = c.t;
          on = c.on;
          off = c.off;
          runs = c.runs;
          ride = c.ride;
          here = c.here;
          in_time = omega (arith, in_time, shift);
          there =
              same_position p c.off.stop.0 (time + base) c.off.arrive (ap (λ (v : Whereabouts). v.stop) c.there)
              (omega (arith, end, in_time, rise));
        },
      )
  journey_whole (Walk ∷ before) p time (a, jo, no_walk, w) soon =
      let led = journey_whole before a.stop a.time jo (omega (arith, w.there)) in (
        record { stop = a.stop; time = a.time + base },
        led,
        no_walk,
        record { seconds = w.seconds; foot = w.foot; there = omega (arith, w.there) },
      )

  -- so the same stops are reached
  pub reached_cut : (k p time : ℕ) → IsReached n (record { stop = origin; time = depart }) k p (time + base) →
      time < cap → IsReached (cut_net base cap n) (record { stop = origin; time = since }) k p time
  reached_cut k p time r soon = record {
    legs = r.legs;
    journey = journey_cut r.legs p time r.journey soon;
    few = r.few;
  }

  pub reached_whole : (k p time : ℕ) → IsReached (cut_net base cap n) (record {
    stop = origin;
    time = since;
  }) k p time → time < cap → IsReached n (record { stop = origin; time = depart }) k p (time + base)
  reached_whole k p time r soon = record {
    legs = r.legs;
    journey = journey_whole r.legs p time r.journey soon;
    few = r.few;
  }

  -- by rides
  pub ridden_cut : (k p time : ℕ) → IsRidden n (record { stop = origin; time = depart }) k p (time + base) →
      time < cap → IsRidden (cut_net base cap n) (record { stop = origin; time = since }) k p time
  ridden_cut k p time r soon = record {
    legs = r.legs;
    journey = journey_cut r.legs p time r.journey soon;
    few = r.few;
    no_walk = r.no_walk;
  }

  pub ridden_whole : (k p time : ℕ) → IsRidden (cut_net base cap n) (record { stop = origin; time = since }) k p time →
      time < cap → IsRidden n (record { stop = origin; time = depart }) k p (time + base)
  ridden_whole k p time r soon = record {
    legs = r.legs;
    journey = journey_whole r.legs p time r.journey soon;
    few = r.few;
    no_walk = r.no_walk;
  }

  -- and by who is ready to board
  pub ready_cut : (k p time : ℕ) → IsReady n (record { stop = origin; time = depart }) k p (time + base) → time < cap →
      IsReady (cut_net base cap n) (record { stop = origin; time = since }) k p time
  ready_cut k p time r soon =
      let early = not_before n ok (record { stop = origin; time = depart }) r.legs
      (record { stop = p; time = r.end }) r.journey in
      let ready = not_early n (record { stop = origin; time = depart }) r.legs (record { stop = p; time = r.end }) in
      let x = r.end - base in
      let same : x + base ≡ r.end = omega arith in
      let now = rw same at (ready_shift r.legs p x) in
      record {
        legs = r.legs;
        end = x;
        journey = journey_cut r.legs p x (rw same r.journey) (omega (arith, r.ready));
        few = r.few;
        ready = omega (arith, r.ready, now);
      }

  pub ready_whole : (k p time : ℕ) → IsReady (cut_net base cap n) (record { stop = origin; time = since }) k p time →
      time < cap → IsReady n (record { stop = origin; time = depart }) k p (time + base)
  ready_whole k p time r soon =
      let ready = not_early (cut_net base cap n) (record { stop = origin; time = since }) r.legs
      (record { stop = p; time = r.end }) in
      let shift = ready_shift r.legs p r.end in
      record {
        legs = r.legs;
        end = r.end + base;
        journey = journey_whole r.legs p r.end r.journey (omega (arith, r.ready));
        few = r.few;
        ready = omega (arith, r.ready, shift);
      }
