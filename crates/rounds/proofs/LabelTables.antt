-- Tables of labels that go up to never, and rounds of rides, walks and changes that lower them.
use Rattle.std.proofs.Common.{◌≡◌, ◌≢◌, ℕ, ◌+◌, ◌-◌, ◌<◌, ◌≤◌, inl, inr, List, [], ◌∷◌, length, replicate, slice_index}
use Rattle.std.proofs.Common.{slice_get, Some, refl, sym, ◌∙◌, ap, arith, subst}
use Rattle.std.proofs.lemmas.Bool.{cases_lt}
use Rattle.std.proofs.lemmas.List.{get_or-replicate, length-replicate, get_or_past}
use Rattle.std.proofs.lemmas.Option.{slice_get_within}
use Rattle.timetable.specs.declared.trips.Trip.{Trip}
use Rattle.timetable.specs.declared.least.TheConstants.{NEVER}
use Rattle.timetable.specs.Networks.{Net, IsNet, IsEvent}
use Rattle.timetable.specs.RoundSteps.{Lowers, Carries, CarriesAny, WalkedOrStayed, ChangedOrWalked}
use Rattle.timetable.specs.Journeys.{Whereabouts, Leg, Ride, Walk, Journey, EndsInNoWalk, ready_at, rides, IsReached}
use Rattle.timetable.proofs.KnownParts.{event_stop}
use Rattle.rounds.specs.Minutes.{IsRidden, IsReady}
use Rattle.rounds.specs.CappedLabels.{IsTableTo}
use Rattle.rounds.specs.State.{NoneEarlier}
use Rattle.useful_minutes.proofs.LineEvents.{rises}
use Rattle.rounds.proofs.EveryJourney.{on_network, at_once, ready_by_change}
use Rattle.rounds.proofs.LaterStarts.{sooner_ready, sooner_ridden}

-- by the time of each label below never, its stop is reached
pub record AreMetTo (never : ℕ) (Reached : ℕ → ℕ → Type 0) (labels : List ℕ) : Type 0 where
  pub met : (p : ℕ) → p < length labels → slice_index labels p ≢ never →
      (time : ℕ) × Reached p time × (time ≤ slice_index labels p)

-- no label is past a number
pub fits_after : {C : ℕ → ℕ → Type 0} (never : ℕ) (old new : List ℕ) → ((p : ℕ) → slice_index old p ≤ never) →
    Lowers C old new → (p : ℕ) → slice_index new p ≤ never
fits_after never old new fits h p = elim (cases_lt p (length old)) [
  | inl l ↦ let low = (h.label p l).least (slice_index old p) (inl refl) in let f = fits p in omega arith
  | inr g ↦ let z = get_or_past new p 0 (omega (arith, h.same_length)) in omega arith
]

pub never_of : (never n p : ℕ) → p < length (replicate n never) → slice_index (replicate n never) p ≡ never
never_of never n p l = get_or-replicate n p never 0 (let e = length-replicate n never in omega (arith, e))

pub fits_of : (never n p : ℕ) → slice_index (replicate n never) p ≤ never
fits_of never n p = elim (cases_lt p (length (replicate n never))) [
  | inl l ↦ let e = never_of never n p l in omega arith
  | inr g ↦ let z = get_or_past (replicate n never) p 0 g in omega arith
]

module _ (never : ℕ) where
  -- labels that are met, and that nobody beats, are a table
  table_of : {R : ℕ → ℕ → Type 0} (labels : List ℕ) → AreMetTo never R labels → NoneEarlier R labels →
      IsTableTo never R labels
  table_of {R} labels met none =
      record {
        found = λ p l reached.
            let m = met.met p l reached in
            let low = none p m.0 l m.1 in
            let e : m.0 ≡ slice_index labels p = omega (arith, m.2) in
            subst (R p) e m.1;
        least = none;
      }

  pub none_met : {R : ℕ → ℕ → Type 0} (n : ℕ) → AreMetTo never R (replicate n never)
  none_met n = record { met = λ p l reached. absurd (reached (never_of never n p l)) }

  -- the lower of two labels that are met
  pub met_both : {R : ℕ → ℕ → Type 0} (a b low : List ℕ) → length b ≡ length a → AreMetTo never R a →
      AreMetTo never R b → Lowers (λ p x. x ≡ slice_index b p) a low → AreMetTo never R low
  met_both {R} a b low same by_a by_b h =
      record {
        met = λ p l reached.
            let m : p < length a = omega (arith, h.same_length) in
            elim (h.label p m).holds [
              | inl e ↦ let f = by_a.met p m (λ z. reached (e ∙ z)) in (f.0, f.1, omega (arith, f.2))
              | inr e ↦ let f = by_b.met p (omega (arith, same)) (λ z. reached (e ∙ z)) in
                  (f.0, f.1, omega (arith, f.2))
            ];
      }

  -- labels of who starts later are met by who starts sooner
  module _ (n : Net) (o later : Whereabouts) (here : o.stop ≡ later.stop) (sooner : o.time ≤ later.time) where
    pub ready_met : (k : ℕ) (bound : List ℕ) → IsTableTo never (IsReady n later k) bound →
        AreMetTo never (IsReady n o k) bound
    ready_met k bound h =
        record {
          met = λ p l reached. sooner_ready n o later here sooner k p (slice_index bound p)
              (h.found p l reached);
        }

    pub ridden_met : (k : ℕ) (bound : List ℕ) → IsTableTo never (IsRidden n later k) bound →
        AreMetTo never (IsRidden n o k) bound
    ridden_met k bound h =
        record {
          met = λ p l reached. sooner_ridden n o later here sooner k p (slice_index bound p)
              (h.found p l reached);
        }

  -- without a ride, who arrives is ready
  pub ready_first : (n : Net) (o : Whereabouts) (new : List ℕ) → IsTableTo never (IsReached n o 0) new →
      IsTableTo never (IsReady n o 0) new
  ready_first n o new table =
      record {
        found = λ p l reached.
            let r = table.found p l reached in
            record {
              legs = r.legs;
              end = slice_index new p;
              journey = r.journey;
              few = r.few;
              ready = at_once n o r.legs (record { stop = p; time = slice_index new p }) r.few;
            };
        least = λ p time l r.
            let low = table.least p r.end l (record { legs = r.legs; journey = r.journey; few = r.few }) in
            let once = at_once n o r.legs (record { stop = p; time = r.end }) r.few in
            omega (arith, low, once, r.ready);
      }

  module _ (n : Net) (ok : IsNet n) (o : Whereabouts) where
    -- a ride that ends before never, after a journey to where it begins
    pub ridden_on : (k : ℕ) (ready : List ℕ) → length ready ≡ n.stops → IsTableTo never (IsReady n o k) ready →
        (trip : ℕ) (t : Trip) → slice_get n.trips trip ≡ Some t → (p time : ℕ) → time < never → Carries ready t p time →
        IsRidden n o (k + 1) p time
    ridden_on k ready ready_len table trip t runs p time below ca =
        let event : IsEvent n.trips trip ca.j ca.on = (t, runs, ca.ride.from) in
        let stop = event_stop n ok trip ca.j ca.on event in
        let rise = rises n ok trip t runs (ca.i - ca.j - 1) ca.j ca.i ca.on ca.off (omega (arith, ca.ride.later))
        ca.ride.from ca.ride.to in
        let soon : slice_index ready ca.on.stop.0 < never = omega (arith, ca.in_time, ca.time) in
        let r = table.found ca.on.stop.0 (omega (arith, stop)) (λ h. omega arith) in
        record {
          legs = Ride trip ca.j ca.i ∷ r.legs;
          journey = (
            record { stop = ca.on.stop.0; time = r.end },
            r.journey,
            record {
              t = t;
              on = ca.on;
              off = ca.off;
              runs = runs;
              ride = ca.ride;
              here = refl;
              in_time = rw r.ready ca.in_time;
              there = rw (ca.stop, ca.time) refl;
            },
          );
          few = omega (arith, r.few);
          no_walk = tt;
        }

    -- before the first round only the origin is reached
    module _ (ride : List ℕ) (low : Lowers (λ p x. (p ≡ o.stop) × (x ≡ o.time)) (replicate n.stops never) ride) where
      no_earlier_start : (legs : List Leg) (p time : ℕ) → p < length (replicate n.stops never) →
          Journey n o legs (record { stop = p; time = time }) → rides legs ≤ 0 → EndsInNoWalk legs →
          slice_index ride p ≤ time
      no_earlier_start [] p time l j few no_walk =
          (low.label p l).least time (inr (ap (λ (v : Whereabouts). v.stop) j, ap (λ (v : Whereabouts). v.time) j))
      no_earlier_start (Ride trip i m ∷ before) p time l j few no_walk = absurd (omega (arith, few))
      no_earlier_start (Walk ∷ before) p time l j few no_walk = absurd no_walk

      pub at_start : IsTableTo never (IsRidden n o 0) ride
      at_start =
          record {
            found = λ p l reached.
                let m : p < length (replicate n.stops never) = omega (arith, low.same_length) in
                elim (low.label p m).holds [
                  | inl s ↦ absurd (reached (s ∙ never_of never n.stops p m))
                  | inr e ↦ record { legs = []; journey = rw (e.1, e.0) refl; few = omega arith; no_walk = tt }
                ];
            least = λ p time l r. no_earlier_start r.legs p time (omega (
              arith,
              low.same_length,
            )) r.journey r.few r.no_walk;
          }

    module _ (at_stop : o.stop < n.stops) where
      -- a round of rides, from labels that are met with one ride more and no later than those with one less
      module _ (k : ℕ) (ready start new : List ℕ) (ready_len : length ready ≡ n.stops) (fits : (p : ℕ) →
          slice_index new p ≤ never) (table : IsTableTo never (IsReady n o k) ready)
          (met : AreMetTo never (IsRidden n o (k + 1)) start) (old : NoneEarlier (IsRidden n o k) start)
          (low : Lowers (CarriesAny ready n.trips) start new) where
        no_earlier_ride : (legs : List Leg) (p time : ℕ) → p < length start →
            Journey n o legs (record { stop = p; time = time }) → rides legs ≤ k + 1 → EndsInNoWalk legs →
            slice_index new p ≤ time
        no_earlier_ride [] p time l j few no_walk =
            let here = old p time l (record { legs = []; journey = j; few = omega arith; no_walk = tt }) in
            let lower = (low.label p l).least (slice_index start p) (inl refl) in
            omega arith
        no_earlier_ride (Walk ∷ before) p time l j few no_walk = absurd no_walk
        no_earlier_ride (Ride trip j i ∷ before) p time l (a, jo, r) few no_walk =
            let stop = on_network n ok o at_stop before a jo in
            let early = table.least a.stop (ready_at n before a) (omega (arith, stop)) (record {
              legs = before;
              end = a.time;
              journey = jo;
              few = omega arith;
              ready = refl;
            }) in
            let soon : slice_index ready r.on.stop.0 ≤ r.on.depart = rw (← r.here) (omega (arith, r.in_time)) in
            (low.label p l).least time (inr (record {
              trip = trip;
              t = r.t;
              runs = r.runs;
              carries = record {
                j = j;
                i = i;
                on = r.on;
                off = r.off;
                ride = r.ride;
                in_time = soon;
                stop = sym (ap (λ (v : Whereabouts). v.stop) r.there);
                time = sym (ap (λ (v : Whereabouts). v.time) r.there);
              };
            }))

        pub bounded_ride : IsTableTo never (IsRidden n o (k + 1)) new
        bounded_ride =
            table_of new
            (record {
              met = λ p l reached.
                  let m : p < length start = omega (arith, low.same_length) in
                  elim (low.label p m).holds [
                    | inl s ↦ let f = met.met p m (λ h. reached (s ∙ h)) in (f.0, f.1, omega (arith, f.2, s))
                    | inr c ↦
                        let below : slice_index new p < never = let f = fits p in omega (arith, reached) in (
                          slice_index new p,
                          ridden_on k ready ready_len table c.trip c.t c.runs p (slice_index new p)
                              below c.carries,
                          omega arith,
                        )
                  ];
            })
            (λ p time l r. no_earlier_ride r.legs p time (omega (arith, low.same_length)) r.journey r.few r.no_walk)

      module _ (limit : never ≤ NEVER) where
        -- walks, from labels that are met
        module _ (k : ℕ) (ride start new : List ℕ) (ride_len : length ride ≡ n.stops) (start_len : length start
            ≡ n.stops) (fits : (p : ℕ) → slice_index new p
            ≤ never) (table : IsTableTo never (IsRidden n o k) ride)
            (met : AreMetTo never (IsReached n o k) start)
            (low : Lowers (WalkedOrStayed n.feet.walks ride) start new) where
          no_earlier_walk : (legs : List Leg) (p time : ℕ) → p < length start →
              Journey n o legs (record { stop = p; time = time }) → rides legs ≤ k → slice_index new p ≤ time
          no_earlier_walk [] p time l j few =
              let here = table.least p time (omega arith) (record {
                legs = [];
                journey = j;
                few = few;
                no_walk = tt;
              }) in
              let lower = (low.label p l).least (slice_index ride p) (inr (inl refl)) in
              omega arith
          no_earlier_walk (Ride trip i m ∷ before) p time l j few =
              let here = table.least p time (omega arith) (record {
                legs = Ride trip i m ∷ before;
                journey = j;
                few = few;
                no_walk = tt;
              }) in
              let lower = (low.label p l).least (slice_index ride p) (inr (inl refl)) in
              omega arith
          no_earlier_walk (Walk ∷ before) p time l (a, j, no_walk, w) few =
              let stop = on_network n ok o at_stop before a j in
              let early = table.least a.stop a.time (omega (arith, stop)) (record {
                legs = before;
                journey = j;
                few = few;
                no_walk = no_walk;
              }) in
              let capped = fits p in
              elim (cases_lt (slice_index ride a.stop) NEVER) [
                | inl lt ↦
                    let lower = (low.label p l).least (slice_index ride a.stop + w.seconds)
                    (inr (inr (record {
                      from = a.stop;
                      seconds = w.seconds;
                      foot = w.foot;
                      reached = λ h. omega arith;
                      time = refl;
                    }))) in
                    omega (arith, w.there)
                | inr ge ↦ omega (arith, w.there)
              ]

          pub bounded_walk : IsTableTo never (IsReached n o k) new
          bounded_walk =
              table_of new
              (record {
                met = λ p l reached.
                    let m : p < length start = omega (arith, low.same_length) in
                    elim (low.label p m).holds [
                      | inl s ↦ let f = met.met p m (λ h. reached (s ∙ h)) in (f.0, f.1, omega (arith, f.2, s))
                      | inr q ↦ elim q [
                        | inl s ↦
                            let r = table.found p (omega arith) (λ h. reached (s ∙ h)) in (
                              slice_index ride p,
                              record { legs = r.legs; journey = r.journey; few = r.few },
                              omega (arith, s),
                            )
                        | inr w ↦
                            let from : w.from < length n.feet.walks =
                            slice_get_within n.feet.walks w.from w.foot.0 w.foot.2 in
                            let below : slice_index ride w.from < never = let f = fits p in
                            omega (arith, reached, w.time) in
                            let r = table.found w.from (omega (arith, ok.in_range.lists)) (λ h. omega arith) in (
                              slice_index new p,
                              record {
                                legs = Walk ∷ r.legs;
                                journey = (
                                  record { stop = w.from; time = slice_index ride w.from },
                                  r.journey,
                                  r.no_walk,
                                  record { seconds = w.seconds; foot = w.foot; there = sym w.time },
                                );
                                few = r.few;
                              },
                              omega arith,
                            )
                      ]
                    ];
              })
              (λ p time l r. no_earlier_walk r.legs p time (omega (arith, low.same_length)) r.journey r.few)

        -- changes and walks, from labels that are met with one ride more and no later than those with one less
        module _ (k : ℕ) (ride start new : List ℕ) (ride_len : length ride ≡ n.stops) (start_len : length start
            ≡ n.stops) (fits : (p : ℕ) → slice_index new p
            ≤ never) (table : IsTableTo never (IsRidden n o (k + 1)) ride)
            (met : AreMetTo never (IsReady n o (k + 1)) start) (old : NoneEarlier (IsReady n o k) start)
            (low : Lowers (ChangedOrWalked n.feet ride) start new) where
          no_earlier_transfer : (legs : List Leg) (p end : ℕ) → p < length start →
              Journey n o legs (record { stop = p; time = end }) → rides legs ≤ k + 1 →
              slice_index new p ≤ ready_at n legs (record { stop = p; time = end })
          no_earlier_transfer [] p end l j few =
              let here = old p end l (record { legs = []; end = end; journey = j; few = omega arith; ready = refl }) in
              let lower = (low.label p l).least (slice_index start p) (inl refl) in
              omega arith
          no_earlier_transfer (Ride trip i m ∷ before) p end l j few =
              let here = table.least p end (omega arith) (record {
                legs = Ride trip i m ∷ before;
                journey = j;
                few = few;
                no_walk = tt;
              }) in
              let capped = fits p in
              elim (cases_lt (slice_index ride p) NEVER) [
                | inl lt ↦
                    let lower = (low.label p l).least (slice_index ride p + slice_index n.feet.changes p)
                    (inr (inl (record { reached = λ h. omega arith; time = refl }))) in
                    omega arith
                | inr ge ↦ omega arith
              ]
          no_earlier_transfer (Walk ∷ before) p end l (a, j, no_walk, w) few =
              let stop = on_network n ok o at_stop before a j in
              let early = table.least a.stop a.time (omega (arith, stop)) (record {
                legs = before;
                journey = j;
                few = few;
                no_walk = no_walk;
              }) in
              let capped = fits p in
              elim (cases_lt (slice_index ride a.stop) NEVER) [
                | inl lt ↦
                    let lower = (low.label p l).least (slice_index ride a.stop + w.seconds)
                    (inr (inr (record {
                      from = a.stop;
                      seconds = w.seconds;
                      foot = w.foot;
                      reached = λ h. omega arith;
                      time = refl;
                    }))) in
                    omega (arith, w.there)
                | inr ge ↦ omega (arith, w.there)
              ]

          pub bounded_transfer : IsTableTo never (IsReady n o (k + 1)) new
          bounded_transfer =
              table_of new
              (record {
                met = λ p l reached.
                    let m : p < length start = omega (arith, low.same_length) in
                    let capped : slice_index new p < never = let f = fits p in omega (arith, reached) in
                    elim (low.label p m).holds [
                      | inl s ↦ let f = met.met p m (λ h. reached (s ∙ h)) in (f.0, f.1, omega (arith, f.2, s))
                      | inr q ↦ elim q [
                        | inl c ↦
                            let below : slice_index ride p < never = omega (arith, c.time) in
                            let r = table.found p (omega arith) (λ h. omega arith) in
                            let f = ready_by_change n o (k + 1) r.legs p (slice_index ride p) r.journey r.few r.no_walk
                            in
                            (f.0, f.1, omega (arith, f.2, c.time))
                        | inr w ↦
                            let from : w.from < length n.feet.walks =
                            slice_get_within n.feet.walks w.from w.foot.0 w.foot.2 in
                            let below : slice_index ride w.from < never = omega (arith, w.time) in
                            let r = table.found w.from (omega (arith, ok.in_range.lists)) (λ h. omega arith) in (
                              slice_index new p,
                              record {
                                legs = Walk ∷ r.legs;
                                end = slice_index new p;
                                journey = (
                                  record { stop = w.from; time = slice_index ride w.from },
                                  r.journey,
                                  r.no_walk,
                                  record { seconds = w.seconds; foot = w.foot; there = sym w.time },
                                );
                                few = r.few;
                                ready = refl;
                              },
                              omega arith,
                            )
                      ]
                    ];
              })
              (λ p time l r. let e = no_earlier_transfer r.legs p r.end
              (omega (arith, low.same_length)) r.journey r.few in omega (arith, e, r.ready))
