-- What the labels of a round say of journeys.
use Rattle.std.proofs.Common.{◌≡◌, ◌≢◌, ℕ, ◌^◌, replicate, ◌+◌, ◌<◌, ◌≤◌, inl, inr, List, []}
use Rattle.std.proofs.Common.{◌∷◌, length, slice_index, refl, sym, ◌∙◌, ap, arith}
use Rattle.std.proofs.lemmas.Bool.{cases_lt}
use Rattle.std.proofs.lemmas.Option.{slice_get_within}
use Rattle.std.proofs.lemmas.List.{get_or-replicate, length-replicate, get_or_past}
use Rattle.timetable.proofs.KnownParts.{event_stop, event_axis, event_stays, foot_in_range, foot_short}
use Rattle.rounds.proofs.EveryJourney.{ridden_more, ready_more, at_once, not_before}
use Rattle.rounds.specs.Minutes.{IsRidden, IsReady, IsTable, IsSince}
use Rattle.timetable.specs.declared.limits.TheConstants.{END_OF_AXIS, MOST_FOOT_SECONDS}
use Rattle.timetable.specs.declared.least.TheConstants.{NEVER}
use Rattle.timetable.specs.Networks.{Net, IsNet, IsEvent}
use Rattle.timetable.specs.Least.{IsLeastOrNever}
use Rattle.timetable.specs.RoundSteps.{Lowers, CarriesAny, ChangedOrWalked, WalkedOrStayed}
use Rattle.timetable.specs.Journeys.{Whereabouts, Leg, Ride, Walk, Journey, EndsInNoWalk, ready_at, rides, IsReached}

module _ (n : Net) (ok : IsNet n) (o : Whereabouts) (at_stop : o.stop < n.stops) (in_time : o.time < END_OF_AXIS) where
  -- each journey ends at a stop of the network, at a time that fits; earlier, where it ends in no walk
  pub in_bounds : (legs : List Leg) (b : Whereabouts) → Journey n o legs b →
      (b.stop < n.stops) × (b.time < END_OF_AXIS + MOST_FOOT_SECONDS) × (EndsInNoWalk legs → b.time < END_OF_AXIS)
  in_bounds [] b j = (rw j at_stop, rw j (omega arith), λ _. rw j in_time)
  in_bounds (Ride trip i k ∷ before) b (a, j, r) =
      let off : IsEvent n.trips trip k r.off = (r.t, r.runs, r.ride.to) in
      let stop = event_stop n ok trip k r.off off in
      let stay = event_stays n ok trip k r.off off in
      let axis = event_axis n ok trip k r.off off in
      (rw r.there stop, rw r.there (omega arith), λ _. rw r.there (omega arith))
  in_bounds (Walk ∷ before) b (a, j, no_walk, w) =
      let early = (in_bounds before a j).2 no_walk in
      let target = foot_in_range n.feet ok.feet a.stop b.stop w.seconds w.foot in
      let short = foot_short n.feet ok.feet a.stop b.stop w.seconds w.foot in
      (omega (arith, ok.in_range.lists), omega (arith, w.there), λ h. absurd h)

  pub ready_first : (new : List ℕ) → IsTable (IsReached n o 0) new → IsTable (IsReady n o 0) new
  ready_first new table =
      record {
        found = λ p l reached.
            let r = table.found p l reached in
            record {
              legs = r.legs;
              end = slice_index new p;
              journey = r.journey;
              few = r.few;
              ready = at_once n o r.legs (record { stop = p; time = slice_index new p }) r.few;
            };
        least = λ p time l r.
            let low = table.least p r.end l (record { legs = r.legs; journey = r.journey; few = r.few }) in
            let once = at_once n o r.legs (record { stop = p; time = r.end }) r.few in
            omega (arith, low, once, r.ready);
      }

  -- the labels of rides, and then of walks
  module _ (k : ℕ) (ride ready new : List ℕ) (ride_len : length ride ≡ n.stops) (ready_len : length ready
      ≡ n.stops) (table : IsTable (IsRidden n o k) ride)
      (low : Lowers (WalkedOrStayed n.feet.walks ride) ready new) where
    no_earlier_walk : (legs : List Leg) (p time : ℕ) → p < length ready →
        Journey n o legs (record { stop = p; time = time }) → rides legs ≤ k → slice_index new p ≤ time
    no_earlier_walk [] p time l j few =
        let here = table.least p time (omega arith) (record { legs = []; journey = j; few = few; no_walk = tt }) in
        let lower = (low.label p l).least (slice_index ride p) (inr (inl refl)) in
        omega arith
    no_earlier_walk (Ride trip i m ∷ before) p time l j few =
        let here = table.least p time (omega arith) (record {
          legs = Ride trip i m ∷ before;
          journey = j;
          few = few;
          no_walk = tt;
        }) in
        let lower = (low.label p l).least (slice_index ride p) (inr (inl refl)) in
        omega arith
    no_earlier_walk (Walk ∷ before) p time l (a, j, no_walk, w) few =
        let bounds = in_bounds before a j in
        let early = table.least a.stop a.time (omega (arith, bounds.0)) (record {
          legs = before;
          journey = j;
          few = few;
          no_walk = no_walk;
        }) in
        let reached : slice_index ride a.stop ≢ NEVER = λ h. omega (arith, bounds.1) in
        let lower = (low.label p l).least (slice_index ride a.stop + w.seconds)
        (inr (inr (record {
          from = a.stop;
          seconds = w.seconds;
          foot = w.foot;
          reached = reached;
          time = refl;
        }))) in
        omega (arith, w.there)

    pub after_walk : ((p : ℕ) → p < length ready → slice_index ready p ≢ NEVER →
        IsReached n o k p (slice_index ready p)) → IsTable (IsReached n o k) new
    after_walk old =
        record {
          found = λ p l reached.
              let m : p < length ready = omega (arith, low.same_length) in
              elim (low.label p m).holds [
                | inl s ↦ rw s (old p m (λ h. reached (s ∙ h)))
                | inr q ↦ elim q [
                  | inl s ↦ let r = table.found p (omega arith) (λ h. reached (s ∙ h)) in
                      rw s (record { legs = r.legs; journey = r.journey; few = r.few })
                  | inr w ↦
                      let from : w.from < length n.feet.walks =
                      slice_get_within n.feet.walks w.from w.foot.0 w.foot.2 in
                      let r = table.found w.from (omega (arith, ok.in_range.lists)) w.reached in
                      record {
                        legs = Walk ∷ r.legs;
                        journey = (
                          record { stop = w.from; time = slice_index ride w.from },
                          r.journey,
                          r.no_walk,
                          record { seconds = w.seconds; foot = w.foot; there = sym w.time },
                        );
                        few = r.few;
                      }
                ]
              ];
          least = λ p time l r. no_earlier_walk r.legs p time (omega (arith, low.same_length)) r.journey r.few;
        }

  -- the labels of rides, and then of changes and walks
  module _ (k : ℕ) (ride ready new : List ℕ) (ride_len : length ride ≡ n.stops) (ready_len : length ready
      ≡ n.stops) (table : IsTable (IsRidden n o (k + 1)) ride) (old : IsTable (IsReady n o k) ready)
      (low : Lowers (ChangedOrWalked n.feet ride) ready new) where
    no_earlier_transfer : (legs : List Leg) (p end : ℕ) → p < length ready →
        Journey n o legs (record { stop = p; time = end }) → rides legs ≤ k + 1 →
        slice_index new p ≤ ready_at n legs (record { stop = p; time = end })
    no_earlier_transfer [] p end l j few =
        let here = old.least p end l (record { legs = []; end = end; journey = j; few = omega arith; ready = refl }) in
        let lower = (low.label p l).least (slice_index ready p) (inl refl) in
        omega arith
    no_earlier_transfer (Ride trip i m ∷ before) p end l j few =
        let here = table.least p end (omega arith) (record {
          legs = Ride trip i m ∷ before;
          journey = j;
          few = few;
          no_walk = tt;
        }) in
        let axis = (in_bounds (Ride trip i m ∷ before) _ j).2 tt in
        let reached : slice_index ride p ≢ NEVER = λ h. omega arith in
        let lower = (low.label p l).least (slice_index ride p + slice_index n.feet.changes p)
        (inr (inl (record { reached = reached; time = refl }))) in
        omega arith
    no_earlier_transfer (Walk ∷ before) p end l (a, j, no_walk, w) few =
        let bounds = in_bounds before a j in
        let early = table.least a.stop a.time (omega (arith, bounds.0)) (record {
          legs = before;
          journey = j;
          few = few;
          no_walk = no_walk;
        }) in
        let reached : slice_index ride a.stop ≢ NEVER = λ h. omega (arith, bounds.1) in
        let lower = (low.label p l).least (slice_index ride a.stop + w.seconds)
        (inr (inr (record {
          from = a.stop;
          seconds = w.seconds;
          foot = w.foot;
          reached = reached;
          time = refl;
        }))) in
        omega (arith, w.there)

    -- a change that was offered is one after a ride, or takes no time
    changed : (legs : List Leg) (p : ℕ) → p < length ready →
        Journey n o legs (record { stop = p; time = slice_index ride p }) → rides legs ≤ k + 1 → EndsInNoWalk legs →
        slice_index ride p + slice_index n.feet.changes p ≡ slice_index new p →
        IsReady n o (k + 1) p (slice_index new p)
    changed [] p l j few no_walk e =
        let here = old.least p (slice_index ride p) l (record {
          legs = [];
          end = slice_index ride p;
          journey = j;
          few = omega arith;
          ready = refl;
        }) in
        let lower = (low.label p l).least (slice_index ready p) (inl refl) in
        record { legs = []; end = slice_index ride p; journey = j; few = few; ready = omega (arith, here, lower, e) }
    changed (Ride trip i m ∷ before) p l j few no_walk e =
        record { legs = Ride trip i m ∷ before; end = slice_index ride p; journey = j; few = few; ready = e }
    changed (Walk ∷ before) p l j few no_walk e = absurd no_walk

    pub after_transfer : IsTable (IsReady n o (k + 1)) new
    after_transfer =
        record {
          found = λ p l reached.
              let m : p < length ready = omega (arith, low.same_length) in
              elim (low.label p m).holds [
                | inl s ↦ rw s (ready_more n o (old.found p m (λ h. reached (s ∙ h))))
                | inr q ↦ elim q [
                  | inl c ↦ let r = table.found p (omega arith) c.reached in
                      changed r.legs p m r.journey r.few r.no_walk c.time
                  | inr w ↦
                      let from : w.from < length n.feet.walks =
                      slice_get_within n.feet.walks w.from w.foot.0 w.foot.2 in
                      let r = table.found w.from (omega (arith, ok.in_range.lists)) w.reached in
                      record {
                        legs = Walk ∷ r.legs;
                        end = slice_index new p;
                        journey = (
                          record { stop = w.from; time = slice_index ride w.from },
                          r.journey,
                          r.no_walk,
                          record { seconds = w.seconds; foot = w.foot; there = sym w.time },
                        );
                        few = r.few;
                        ready = refl;
                      }
                ]
              ];
          least = λ p time l r. let low = no_earlier_transfer r.legs p r.end (omega (
            arith,
            low.same_length,
          )) r.journey r.few in omega (arith, low, r.ready);
        }

  -- the labels of one more round of rides
  module _ (k : ℕ) (ready ride new : List ℕ) (ready_len : length ready ≡ n.stops) (ride_len : length ride
      ≡ n.stops) (table : IsTable (IsReady n o k) ready) (old : IsTable (IsRidden n o k) ride)
      (low : Lowers (CarriesAny ready n.trips) ride new) where
    no_earlier_ride : (legs : List Leg) (p time : ℕ) → p < length ride →
        Journey n o legs (record { stop = p; time = time }) → rides legs ≤ k + 1 → EndsInNoWalk legs →
        slice_index new p ≤ time
    no_earlier_ride [] p time l j few no_walk =
        let here = old.least p time l (record { legs = []; journey = j; few = omega arith; no_walk = tt }) in
        let lower = (low.label p l).least (slice_index ride p) (inl refl) in
        omega arith
    no_earlier_ride (Walk ∷ before) p time l j few no_walk = absurd no_walk
    no_earlier_ride (Ride trip j i ∷ before) p time l (a, jo, r) few no_walk =
        let bounds = in_bounds before a jo in
        let early = table.least a.stop (ready_at n before a) (omega (arith, bounds.0)) (record {
          legs = before;
          end = a.time;
          journey = jo;
          few = omega arith;
          ready = refl;
        }) in
        let in_time : slice_index ready r.on.stop.0 ≤ r.on.depart = rw (← r.here) (omega (arith, r.in_time)) in
        (low.label p l).least time (inr (record {
          trip = trip;
          t = r.t;
          runs = r.runs;
          carries = record {
            j = j;
            i = i;
            on = r.on;
            off = r.off;
            ride = r.ride;
            in_time = in_time;
            stop = sym (ap (λ (v : Whereabouts). v.stop) r.there);
            time = sym (ap (λ (v : Whereabouts). v.time) r.there);
          };
        }))

    pub after_ride : IsTable (IsRidden n o (k + 1)) new
    after_ride =
        record {
          found = λ p l reached.
              let m : p < length ride = omega (arith, low.same_length) in
              elim (low.label p m).holds [
                | inl s ↦ rw s (ridden_more n o (old.found p m (λ h. reached (s ∙ h))))
                | inr c ↦
                    let ca = c.carries in
                    let event : IsEvent n.trips c.trip ca.j ca.on = (c.t, c.runs, ca.ride.from) in
                    let stop = event_stop n ok c.trip ca.j ca.on event in
                    let axis = event_axis n ok c.trip ca.j ca.on event in
                    let soon = ca.in_time in
                    let r = table.found ca.on.stop.0 (omega (arith, stop)) (λ h. omega arith) in
                    record {
                      legs = Ride c.trip ca.j ca.i ∷ r.legs;
                      journey = (
                        record { stop = ca.on.stop.0; time = r.end },
                        r.journey,
                        record {
                          t = c.t;
                          on = ca.on;
                          off = ca.off;
                          runs = c.runs;
                          ride = ca.ride;
                          here = refl;
                          in_time = rw r.ready ca.in_time;
                          there = rw (ca.stop, ca.time) refl;
                        },
                      );
                      few = omega (arith, r.few);
                      no_walk = tt;
                    }
              ];
          least = λ p time l r. no_earlier_ride r.legs p time (omega (
            arith,
            low.same_length,
          )) r.journey r.few r.no_walk;
        }

  -- before the first round only the origin is reached
  no_start : (p : ℕ) → p < length (replicate n.stops NEVER) → slice_index (replicate n.stops NEVER) p ≡ NEVER
  no_start p l = get_or-replicate n.stops p NEVER 0 (let e = length-replicate n.stops NEVER in omega (arith, e))

  pub none_started : (k : ℕ) (ready : List ℕ) → ready ≡ replicate n.stops NEVER → (p : ℕ) → p < length ready →
      slice_index ready p ≢ NEVER → IsReached n o k p (slice_index ready p)
  none_started k ready e p l reached =
      let l' : p < length (replicate n.stops NEVER) = rw (← e) l in
      absurd (reached (rw e (no_start p l')))

  module _ (ride : List ℕ) (low : Lowers (λ p x. (p ≡ o.stop) × (x ≡ o.time)) (replicate n.stops NEVER) ride) where
    no_earlier_start : (legs : List Leg) (p time : ℕ) → p < length (replicate n.stops NEVER) →
        Journey n o legs (record { stop = p; time = time }) → rides legs ≤ 0 → EndsInNoWalk legs →
        slice_index ride p ≤ time
    no_earlier_start [] p time l j few no_walk =
        (low.label p l).least time (inr (ap (λ (v : Whereabouts). v.stop) j, ap (λ (v : Whereabouts). v.time) j))
    no_earlier_start (Ride trip i m ∷ before) p time l j few no_walk = absurd (omega (arith, few))
    no_earlier_start (Walk ∷ before) p time l j few no_walk = absurd no_walk

    pub at_start : IsTable (IsRidden n o 0) ride
    at_start =
        record {
          found = λ p l reached.
              let m : p < length (replicate n.stops NEVER) = omega (arith, low.same_length) in
              elim (low.label p m).holds [
                | inl s ↦ absurd (reached (s ∙ no_start p m))
                | inr e ↦ record { legs = []; journey = rw (e.1, e.0) refl; few = omega arith; no_walk = tt }
              ];
          least = λ p time l r. no_earlier_start r.legs p time (omega (
            arith,
            low.same_length,
          )) r.journey r.few r.no_walk;
        }

  -- what a walk asks of labels
  pub room_to_walk : (k : ℕ) (ride : List ℕ) → IsTable (IsRidden n o k) ride → (p : ℕ) → slice_index ride p ≢ NEVER →
      slice_index ride p + MOST_FOOT_SECONDS < 2 ^ 32
  room_to_walk k ride table p reached = elim (cases_lt p (length ride)) [
    | inl l ↦ let r = table.found p l reached in let b = (in_bounds r.legs _ r.journey).2 r.no_walk in omega arith
    | inr g ↦ let z : slice_index ride p ≡ 0 = get_or_past ride p 0 g in omega arith
  ]

  -- what a transfer asks of labels
  pub room_to_change : (k : ℕ) (ride : List ℕ) → IsTable (IsRidden n o k) ride → (p : ℕ) → slice_index ride p ≢ NEVER →
      slice_index ride p < END_OF_AXIS
  room_to_change k ride table p reached = elim (cases_lt p (length ride)) [
    | inl l ↦ let r = table.found p l reached in (in_bounds r.legs _ r.journey).2 r.no_walk
    | inr g ↦ let z : slice_index ride p ≡ 0 = get_or_past ride p 0 g in omega arith
  ]

  pub since_departure : (k : ℕ) (ready : List ℕ) → IsTable (IsReached n o k) ready → (p : ℕ) → p < length ready →
      slice_index ready p ≢ NEVER → o.time ≤ slice_index ready p
  since_departure k ready table p l reached = let r = table.found p l reached in not_before n ok o r.legs _ r.journey

  -- a label, counted from the departure
  pub duration_of : (k p label new : ℕ) → (label ≢ NEVER → IsReached n o k p label) →
      ((time : ℕ) → IsReached n o k p time → label ≤ time) → IsSince o.time label new →
      IsLeastOrNever (λ d. IsReached n o k p (o.time + d)) new
  duration_of k p label new found least since =
      record {
        holds = λ some.
            let reached : label ≢ NEVER = λ h. some (since.never h) in
            let e : o.time + new ≡ label = omega (arith, since.since reached) in
            rw e (found reached);
        least = λ m r.
            let low = least (o.time + m) r in
            let bound = (in_bounds r.legs _ r.journey).1 in
            let reached : label ≢ NEVER = λ h. omega arith in
            let e = since.since reached in
            omega arith;
        none = λ none m r.
            let low = least (o.time + m) r in
            let bound = (in_bounds r.legs _ r.journey).1 in
            let reached : label ≢ NEVER = λ h. omega arith in
            let e = since.since reached in
            omega arith;
      }

  -- the labels, counted from the departure
  pub durations_of : (k : ℕ) (ready : List ℕ) (new : ℕ) → IsTable (IsReached n o k) ready → (p : ℕ) → p < length ready →
      IsSince o.time (slice_index ready p) new → IsLeastOrNever (λ d. IsReached n o k p (o.time + d)) new
  durations_of k ready new table p l since =
      duration_of k p (slice_index ready p) new (λ reached. table.found p l reached) (λ time r. table.least p time l r)
      since
