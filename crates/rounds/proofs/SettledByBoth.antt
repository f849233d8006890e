-- What has nothing lower to offer to labels has not to the lower of these and others.
use Rattle.std.proofs.Common.{◌≡◌, ℕ, ◌<◌, ◌≤◌, inl, inr, List, length, slice_index, slice_get, Some, refl, arith}
use Rattle.timetable.specs.declared.trips.Event.{Event}
use Rattle.timetable.specs.declared.trips.Trip.{Trip}
use Rattle.timetable.specs.RoundSteps.{Lowers, Carries, CarriesAny}
use Rattle.trip_lanes.specs.Scan.{NothingLower}
use Rattle.rounds.specs.State.{Bounds}

-- what two tables had nothing lower to offer to, their lower labels have not either
pub settled_by_both : (t : Trip) (a b low ride bound lowered : List ℕ) →
    ((k : ℕ) (e : Event) → slice_get t.events k ≡ Some e → e.stop.0 < length a) → length bound ≡ length ride →
    Lowers (Bounds b) a low → Lowers (Bounds bound) ride lowered → NothingLower (Carries a t) ride →
    NothingLower (Carries b t) bound → NothingLower (Carries low t) lowered
settled_by_both t a b low ride bound lowered stops same h k by_a by_b p x l c =
    let s = stops c.j c.on c.ride.from in
    let m : p < length ride = omega (arith, k.same_length) in
    let low_own = (k.label p m).least (slice_index ride p) (inl refl) in
    let low_bound = (k.label p m).least (slice_index bound p) (inr refl) in
    elim (h.label c.on.stop.0 s).holds [
      | inl e ↦
          let soon : slice_index a c.on.stop.0 ≤ c.on.depart = omega (arith, e, c.in_time) in
          let e' = by_a p x m (record {
            j = c.j;
            i = c.i;
            on = c.on;
            off = c.off;
            ride = c.ride;
            in_time = soon;
            stop = c.stop;
            time = c.time;
          }) in
          omega arith
      | inr e ↦
          let soon : slice_index b c.on.stop.0 ≤ c.on.depart = omega (arith, e, c.in_time) in
          let e' = by_b p x (omega (arith, same)) (record {
            j = c.j;
            i = c.i;
            on = c.on;
            off = c.off;
            ride = c.ride;
            in_time = soon;
            stop = c.stop;
            time = c.time;
          }) in
          omega arith
    ]

-- what all trips were carried into, none has anything lower to offer to
pub carried_settles : (trips : List Trip) (trip : ℕ) (t : Trip) → slice_get trips trip ≡ Some t →
    (ready ride ridden : List ℕ) → Lowers (CarriesAny ready trips) ride ridden → NothingLower (Carries ready t) ridden
carried_settles trips trip t runs ready ride ridden h p x l c =
    (h.label p (omega (arith, h.same_length))).least x (inr (record { trip = trip; t = t; runs = runs; carries = c }))
