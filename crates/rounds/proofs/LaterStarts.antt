-- Who leaves later arrives no earlier.
use Rattle.std.proofs.Common.{◌≡◌, ◌≢◌, ℕ, ◌+◌, ◌<◌, ◌≤◌, List, [], ◌∷◌, length, slice_index, refl, sym, ◌∙◌, ap, arith}
use Rattle.timetable.specs.declared.least.TheConstants.{NEVER}
use Rattle.timetable.specs.Networks.{Net}
use Rattle.timetable.specs.Journeys.{Whereabouts, Leg, Ride, Walk, Journey, ready_at}
use Rattle.rounds.specs.Minutes.{IsRidden, IsReady, IsTable}
use Rattle.rounds.specs.State.{AreMet}

module _ (n : Net) (o later : Whereabouts) (here : o.stop ≡ later.stop) (sooner : o.time ≤ later.time) where
  -- who was led somewhere earlier by the same legs is ready there no later
  ready_sooner : (legs : List Leg) (p x y : ℕ) → x ≤ y →
      ready_at n legs (record { stop = p; time = x }) ≤ ready_at n legs (record { stop = p; time = y })
  ready_sooner [] p x y le = le
  ready_sooner (Ride trip i k ∷ before) p x y le = omega arith
  ready_sooner (Walk ∷ before) p x y le = le

  -- the same legs can be made from an earlier start, and end no later
  pub same_legs : (legs : List Leg) (b : Whereabouts) → Journey n later legs b →
      (time : ℕ) × Journey n o legs (record { stop = b.stop; time = time }) × (time ≤ b.time)
  same_legs [] b j = (
    o.time,
    ap (λ (s : ℕ). record { stop = s; time = o.time }) (ap (λ (v : Whereabouts). v.stop) j ∙ sym here),
    let e = ap (λ (v : Whereabouts). v.time) j in omega (arith, sooner),
  )
  same_legs (Ride trip i k ∷ before) b (a, j, r) =
      let s = same_legs before a j in (
        b.time,
        (
          record { stop = a.stop; time = s.0 },
          s.1,
          record {
            t = r.t;
            on = r.on;
            off = r.off;
            runs = r.runs;
            ride = r.ride;
            here = r.here;
            in_time = let le = ready_sooner before a.stop s.0 a.time s.2 in
                omega (arith, le, r.in_time);
            there = r.there;
          },
        ),
        omega arith,
      )
  same_legs (Walk ∷ before) b (a, j, no_walk, w) =
      let s = same_legs before a j in (
        s.0 + w.seconds,
        (
          record { stop = a.stop; time = s.0 },
          s.1,
          no_walk,
          record { seconds = w.seconds; foot = w.foot; there = refl },
        ),
        omega (arith, s.2, w.there),
      )

  pub sooner_ready : (k p time : ℕ) → IsReady n later k p time → (x : ℕ) × IsReady n o k p x × (x ≤ time)
  sooner_ready k p time r =
      let s = same_legs r.legs (record { stop = p; time = r.end }) r.journey in
      let le = ready_sooner r.legs p s.0 r.end s.2 in (
        ready_at n r.legs (record { stop = p; time = s.0 }),
        record { legs = r.legs; end = s.0; journey = s.1; few = r.few; ready = refl },
        omega (arith, le, r.ready),
      )

  pub sooner_ridden : (k p time : ℕ) → IsRidden n later k p time → (x : ℕ) × IsRidden n o k p x × (x ≤ time)
  sooner_ridden k p time r =
      let s = same_legs r.legs (record { stop = p; time = time }) r.journey in
      (s.0, record { legs = r.legs; journey = s.1; few = r.few; no_walk = r.no_walk }, s.2)

  -- the labels of a later start are met from an earlier one
  pub ready_bound : (k : ℕ) (bound : List ℕ) → IsTable (IsReady n later k) bound → AreMet (IsReady n o k) bound
  ready_bound k bound h =
      record { met = λ p l reached. sooner_ready k p (slice_index bound p) (h.found p l reached) }

  pub ridden_bound : (k : ℕ) (bound : List ℕ) → IsTable (IsRidden n later k) bound → AreMet (IsRidden n o k) bound
  ridden_bound k bound h =
      record { met = λ p l reached. sooner_ridden k p (slice_index bound p) (h.found p l reached) }

  -- so they bound the labels of the earlier start from above
  pub later_ready_no_earlier : (k : ℕ) (own bound : List ℕ) → length bound ≡ length own → IsTable (IsReady n o k) own →
      IsTable (IsReady n later k) bound → (p : ℕ) → p < length own → slice_index bound p ≢ NEVER →
      slice_index own p ≤ slice_index bound p
  later_ready_no_earlier k own bound same is_own is_bound p l reached =
      let s = (ready_bound k bound is_bound).met p (omega (arith, same)) reached in
      let low = is_own.least p s.0 l s.1 in
      omega (arith, s.2)

  pub later_ridden_no_earlier : (k : ℕ) (own bound : List ℕ) → length bound ≡ length own →
      IsTable (IsRidden n o k) own → IsTable (IsRidden n later k) bound → (p : ℕ) → p < length own →
      slice_index bound p ≢ NEVER → slice_index own p ≤ slice_index bound p
  later_ridden_no_earlier k own bound same is_own is_bound p l reached =
      let s = (ridden_bound k bound is_bound).met p (omega (arith, same)) reached in
      let low = is_own.least p s.0 l s.1 in
      omega (arith, s.2)
