-- Each journey is matched by one that ends no later, and that is a walk alone or ends at a deadline.
use Rattle.std.proofs.Common.{◌≡◌, ◌⊎◌, inl, inr, ℕ, ◌+◌, ◌≤◌, List, [], ◌∷◌, length, refl, sym}
use Rattle.std.proofs.Common.{ap, ap₂, subst, arith}
use Rattle.timetable.specs.Footpaths.{IsFoot}
use Rattle.timetable.specs.Networks.{Net}
use Rattle.timetable.specs.Journeys.{IsReached, Journey, Leg, Ride, Rides, Walk, Whereabouts, ready_at, rides}
use Rattle.reversal.specs.Deadlines.{ArrivesFrom, IsDeadline, IsWalkAlone}
use Rattle.reversal.proofs.AlightingChosen.{last_stop}

-- a walk alone or a journey to a deadline, which ends by the time
pub record IsMatched (n : Net) (origin start k p time : ℕ) : Type 0 where
  pub end : ℕ
  pub low : end ≤ time
  pub how : ((s : ℕ) × IsWalkAlone n.feet.walks origin p s × (end ≡ start + s))
      ⊎ (IsDeadline n p end × IsReached n (record { stop = origin; time = start }) k p end)

module _ (n : Net) (origin start k p : ℕ) where
  -- a journey whose last ride is followed by a walk, or by none
  rode : (time trip j i : ℕ) (before : List Leg) (a b : Whereabouts) (s : ℕ) →
      Journey n (record { stop = origin; time = start }) before a → Rides n.trips trip j i a (ready_at n before a) b →
      rides before + 1 ≤ k → IsWalkAlone n.feet.walks b.stop p s → time ≡ b.time + s → IsMatched n origin start k p time
  rode time trip j i before a b s was r few walk at =
      let stop : b.stop ≡ r.off.stop.0 = ap (λ (v : Whereabouts). v.stop) r.there in
      let arrives : b.time ≡ r.off.arrive = ap (λ (v : Whereabouts). v.time) r.there in
      let arrives : ArrivesFrom n.feet.walks r.t i p time = record {
        off = r.off;
        event = r.ride.to;
        arrives = record {
          may_alight = r.ride.may_alight;
          seconds = s;
          walk = subst (λ (q : ℕ). IsWalkAlone n.feet.walks q p s) stop walk;
          at = omega (arith, at, arrives);
        };
      } in
      let l = last_stop n r.t p (length r.t.events) i time (omega arith) arrives in
      let off = l.arrives.off in
      let ride : (end : Whereabouts) → end ≡ record { stop = off.stop.0; time = off.arrive } →
      Rides n.trips trip j l.x a (ready_at n before a) end = λ end e. record {
        t = r.t;
        on = r.on;
        off = off;
        runs = r.runs;
        ride = record {
          from = r.ride.from;
          to = l.arrives.event;
          later = omega (arith, r.ride.later, l.later);
          may_board = r.ride.may_board;
          may_alight = l.arrives.arrives.may_alight;
        };
        here = r.here;
        in_time = r.in_time;
        there = e;
      } in
      let reached : IsReached n (record { stop = origin; time = start }) k p l.end = elim l.arrives.arrives.walk [
        | inl z ↦
            let end : l.end ≡ off.arrive = omega (arith, l.arrives.arrives.at, z.1) in
            record {
              legs = Ride trip j l.x ∷ before;
              journey = (
                a,
                was,
                ride (record { stop = p; time = l.end })
                    (ap₂ (λ (q t : ℕ). record { stop = q; time = t }) (sym z.0) end),
              );
              few = few;
            }
        | inr foot ↦
            let mid : Whereabouts = record { stop = off.stop.0; time = off.arrive } in
            record {
              legs = Walk ∷ Ride trip j l.x ∷ before;
              journey = (
                mid,
                (a, was, ride mid (refl {a = mid})),
                tt,
                record { seconds = l.arrives.arrives.seconds; foot = foot; there = l.arrives.arrives.at },
              );
              few = few;
            }
      ] in
      record {
        end = l.end;
        low = l.low;
        how = inr (
          record {
            trip = trip;
            t = r.t;
            runs = r.runs;
            deadline = record {
              i = l.x;
              ridden = omega (arith, r.ride.later, l.later);
              best = record { arrives = l.arrives; later = l.last };
            };
          },
          reached,
        );
      }

  by_legs : (legs : List Leg) (time : ℕ) →
      Journey n (record { stop = origin; time = start }) legs (record { stop = p; time = time }) → rides legs ≤ k →
      IsMatched n origin start k p time
  by_legs [] time j few =
      let stop : p ≡ origin = ap (λ (v : Whereabouts). v.stop) j in
      let end : time ≡ start = ap (λ (v : Whereabouts). v.time) j in
      record { end = time; low = omega arith; how = inl (0, inl (sym stop, refl), omega (arith, end)) }
  by_legs (Ride trip j i ∷ before) time (a, was, r) few =
      rode time trip j i before a (record { stop = p; time = time }) 0 was r few (inl (refl, refl)) (omega arith)
  by_legs (Walk ∷ []) time (a, was, no_walk, w) few =
      let stop : a.stop ≡ origin = ap (λ (v : Whereabouts). v.stop) was in
      let begins : a.time ≡ start = ap (λ (v : Whereabouts). v.time) was in
      record {
        end = time;
        low = omega arith;
        how = inl (
          w.seconds,
          inr (subst (λ (q : ℕ). IsFoot n.feet.walks q p w.seconds) stop w.foot),
          omega (arith, w.there, begins),
        );
      }
  by_legs (Walk ∷ (Ride trip j i ∷ before)) time (b, (a, was, r), no_walk, w) few =
      rode time trip j i before a b w.seconds was r few (inr w.foot) w.there
  by_legs (Walk ∷ (Walk ∷ before)) time (b, was, no_walk, w) few = absurd no_walk

  pub met : (time : ℕ) → IsReached n (record { stop = origin; time = start }) k p time →
      IsMatched n origin start k p time
  met time r = by_legs r.legs time r.journey r.few

  -- a walk alone is a journey
  pub walks_there : (s : ℕ) → IsWalkAlone n.feet.walks origin p s →
      IsReached n (record { stop = origin; time = start }) k p (start + s)
  walks_there s (inl z) =
      record {
        legs = [];
        journey = ap₂ (λ (q t : ℕ). record { stop = q; time = t }) (sym z.0) (omega (arith, z.1));
        few = omega arith;
      }
  walks_there s (inr foot) =
      record {
        legs = Walk ∷ [];
        journey = (
          record { stop = origin; time = start },
          refl,
          tt,
          record { seconds = s; foot = foot; there = refl },
        );
        few = omega arith;
      }
