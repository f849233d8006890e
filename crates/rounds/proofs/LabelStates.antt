-- The labels of one lane, of who departs at any time: the start, one more round, and what has nothing lower to offer to
-- them.
use Rattle.std.proofs.Common.{◌≡◌, ℕ, ◌+◌, ◌-◌, ◌<◌, ◌≤◌, inl, inr, List, ◌∷◌, length, replicate, slice_index}
use Rattle.std.proofs.Common.{slice_get, Some, refl, sym, ◌∙◌, ap, arith}
use Rattle.std.proofs.lemmas.Bool.{cases_lt}
use Rattle.std.proofs.lemmas.List.{length-replicate}
use Rattle.std.proofs.lemmas.Option.{slice_get_within}
use Rattle.timetable.specs.declared.least.TheConstants.{NEVER}
use Rattle.timetable.specs.declared.trips.Trip.{Trip}
use Rattle.timetable.specs.Networks.{Net, IsNet}
use Rattle.timetable.specs.Footpaths.{FootLists}
use Rattle.timetable.specs.RoundSteps.{Lowers, Carries, CarriesAny, WalkedOrStayed, ChangedOrWalked}
use Rattle.timetable.specs.Journeys.{Whereabouts, Walk, IsReached}
use Rattle.trip_lanes.specs.Scan.{NothingLower}
use Rattle.trip_lanes.specs.Walks.{OfferedFrom}
use Rattle.timetable.proofs.KnownParts.{event_stop}
use Rattle.rounds.specs.Minutes.{IsRidden, IsReady}
use Rattle.rounds.specs.CappedLabels.{IsTableTo, LaneStateTo}
use Rattle.rounds.specs.State.{NoneEarlier, Bounds}
use Rattle.rounds.proofs.SettledByBoth.{settled_by_both}
use Rattle.useful_minutes.proofs.LineEvents.{rises}
use Rattle.rounds.proofs.EveryJourney.{not_before, not_early, ridden_more, ready_more, reached_first}
use Rattle.rounds.proofs.EveryJourney.{ready_by_change}
use Rattle.rounds.proofs.LabelTables.{AreMetTo, fits_after, fits_of, never_of, none_met, met_both, ready_met}
use Rattle.rounds.proofs.LabelTables.{ridden_met, ready_first, ridden_on, at_start, bounded_ride, bounded_walk}
use Rattle.rounds.proofs.LabelTables.{bounded_transfer}

module _ (never : ℕ) (n : Net) (ok : IsNet n) where
  -- a ride from labels that are never ends no earlier
  late_ride : (trip : ℕ) (t : Trip) → slice_get n.trips trip ≡ Some t → (ready : List ℕ) (p x : ℕ) →
      (c : Carries ready t p x) → slice_index ready c.on.stop.0 ≤ x
  late_ride trip t runs ready p x c =
      let rise = rises n ok trip t runs (c.i - c.j - 1) c.j c.i c.on c.off (omega (arith, c.ride.later))
      c.ride.from c.ride.to in
      omega (arith, c.in_time, c.time)

  -- after a round, no trip has anything lower to offer from the labels that it began with
  pub state_settles : (o : Whereabouts) (k : ℕ) (ride ready ride_next ready_next : List ℕ) →
      LaneStateTo never n o k ride ready → LaneStateTo never n o (k + 1) ride_next ready_next → (trip : ℕ) (t : Trip) →
      slice_get n.trips trip ≡ Some t → NothingLower (Carries ready t) ride_next
  state_settles o k ride ready ride_next ready_next s s_next trip t runs p x l c =
      elim (cases_lt x never) [
        | inl below ↦ s_next.rides.least p x l (ridden_on never n ok o k ready s.ready_len s.readies trip t runs p x
            below c)
        | inr past ↦ let f = s_next.ride_fits p in omega arith
      ]

  -- nothing lower is offered from nowhere
  pub nowhere_settles : (ride : List ℕ) → ((p : ℕ) → slice_index ride p ≤ never) → (trip : ℕ) (t : Trip) →
      slice_get n.trips trip ≡ Some t → NothingLower (Carries (replicate n.stops never) t) ride
  nowhere_settles ride fits trip t runs p x l c =
      let stop = event_stop n ok trip c.j c.on (t, runs, c.ride.from) in
      let e = never_of never n.stops c.on.stop.0 (let long = length-replicate n.stops never in omega (arith, stop)) in
      let late = late_ride trip t runs (replicate n.stops never) p x c in
      let f = fits p in
      omega arith

  -- after changes and walks, none has anything lower to offer
  pub state_changes : (o : Whereabouts) (k : ℕ) (ride ready : List ℕ) → LaneStateTo never n o k ride ready →
      NothingLower (ChangedOrWalked n.feet ride) ready
  state_changes o k ride ready s p y l offer =
      let there : p < length ride = omega (arith, s.ride_len, s.ready_len) in
      let capped = s.ready_fits p in
      elim offer [
        | inl c ↦ elim (cases_lt (slice_index ride p) never) [
          | inl below ↦
              let r = s.rides.found p there (λ h. omega arith) in
              let f = ready_by_change n o k r.legs p (slice_index ride p) r.journey r.few r.no_walk in
              let low = s.readies.least p f.0 l f.1 in
              omega (arith, f.2, c.time)
          | inr past ↦ omega (arith, c.time)
        ]
        | inr w ↦ elim (cases_lt (slice_index ride w.from) never) [
          | inl below ↦
              let from : w.from < length n.feet.walks = slice_get_within n.feet.walks w.from w.foot.0 w.foot.2 in
              let r = s.rides.found w.from (omega (arith, ok.in_range.lists, s.ride_len)) (λ h. omega arith) in
              s.readies.least p y l (record {
                legs = Walk ∷ r.legs;
                end = y;
                journey = (
                  record { stop = w.from; time = slice_index ride w.from },
                  r.journey,
                  r.no_walk,
                  record { seconds = w.seconds; foot = w.foot; there = sym w.time },
                );
                few = r.few;
                ready = refl;
              })
          | inr past ↦ omega (arith, w.time)
        ]
      ]

  -- so labels that are all never are those of who departs then
  pub never_state : (o : Whereabouts) → never ≤ o.time → (k : ℕ) (ride ready : List ℕ) →
      ride ≡ replicate n.stops never → ready ≡ replicate n.stops never → LaneStateTo never n o k ride ready
  never_state o late k ride ready e f =
      let long = length-replicate n.stops never in
      rw (e, f) (record {
        ride_len = long;
        ready_len = long;
        ride_fits = fits_of never n.stops;
        ready_fits = fits_of never n.stops;
        rides = record {
          found = λ p l reached. absurd (reached (never_of never n.stops p l));
          least = λ p time l r.
              let since = not_before n ok o r.legs (record { stop = p; time = time }) r.journey in
              let capped = fits_of never n.stops p in
              omega arith;
        };
        readies = record {
          found = λ p l reached. absurd (reached (never_of never n.stops p l));
          least = λ p time l r.
              let end : Whereabouts = record { stop = p; time = r.end } in
              let since = not_before n ok o r.legs end r.journey in
              let soon = not_early n o r.legs end in
              let capped = fits_of never n.stops p in
              omega (arith, r.ready);
        };
      })

  module _ (o later : Whereabouts) (at_stop : o.stop < n.stops) (here : o.stop ≡ later.stop) (sooner : o.time
      ≤ later.time) where
    -- what is known after the rides of a round
    pub bounded_ridden : (k : ℕ) (ride ready lowered ridden bound_ride bound_ready : List ℕ) →
        LaneStateTo never n o k ride ready → LaneStateTo never n later (k + 1) bound_ride bound_ready →
        Lowers (Bounds bound_ride) ride lowered → Lowers (CarriesAny ready n.trips) lowered ridden →
        IsTableTo never (IsRidden n o (k + 1)) ridden
    bounded_ridden k ride ready lowered ridden bound_ride bound_ready s bound bounded low =
        let same : length bound_ride ≡ length ride = bound.ride_len ∙ sym s.ride_len in
        let fits = fits_after never lowered ridden (fits_after never ride lowered s.ride_fits bounded) low in
        let own : AreMetTo never (IsRidden n o (k + 1)) ride =
        record {
          met = λ p l reached. (
            slice_index ride p,
            ridden_more n o (s.rides.found p l reached),
            omega arith,
          );
        } in
        let met = met_both never ride bound_ride lowered same own
        (ridden_met never n o later here sooner (k + 1) bound_ride bound.rides) bounded in
        let none : NoneEarlier (IsRidden n o k) lowered = λ p time l r.
        let m : p < length ride = omega (arith, bounded.same_length) in
        let low = (bounded.label p m).least (slice_index ride p) (inl refl) in
        let least = s.rides.least p time m r in
        omega arith in
        bounded_ride never n ok o at_stop k ready lowered ridden s.ready_len fits s.readies met none low

    module _ (limit : never ≤ NEVER) where
      pub bounded_start : (ride start ready bound_ride bound_ready : List ℕ) →
          LaneStateTo never n later 0 bound_ride bound_ready →
          Lowers (λ p x. (p ≡ o.stop) × (x ≡ o.time)) (replicate n.stops never) ride →
          Lowers (Bounds bound_ready) (replicate n.stops never) start →
          Lowers (WalkedOrStayed n.feet.walks ride) start ready → LaneStateTo never n o 0 ride ready
      bounded_start ride start ready bound_ride bound_ready bound low bounded walked =
          let none = length-replicate n.stops never in
          let ride_len : length ride ≡ n.stops = low.same_length ∙ none in
          let start_len : length start ≡ n.stops = bounded.same_length ∙ none in
          let start_fits = fits_after never (replicate n.stops never) start (fits_of never n.stops) bounded in
          let ready_fits = fits_after never start ready start_fits walked in
          let same : length bound_ready ≡ length (replicate n.stops never) = bound.ready_len ∙ sym none in
          let table = at_start never n ok o ride low in
          let met = met_both never (replicate n.stops never) bound_ready start same (none_met never n.stops)
          (ready_met never n o later here sooner 0 bound_ready bound.readies) bounded in
          let reached : AreMetTo never (IsReached n o 0) start = record {
            met = λ p l some. let f = met.met p l some in
                (f.0, reached_first n o f.1, f.2);
          } in
          record {
            ride_len = ride_len;
            ready_len = walked.same_length ∙ start_len;
            ride_fits = fits_after never (replicate n.stops never) ride (fits_of never n.stops) low;
            ready_fits = ready_fits;
            rides = table;
            readies = ready_first never n o ready (bounded_walk never n ok o at_stop limit 0 ride start ready ride_len
                start_len ready_fits table reached walked);
          }

      -- one more round
      pub bounded_next : (k : ℕ) (ride ready lowered ridden start new bound_ride bound_ready : List ℕ) →
          LaneStateTo never n o k ride ready → LaneStateTo never n later (k + 1) bound_ride bound_ready →
          Lowers (Bounds bound_ride) ride lowered → Lowers (CarriesAny ready n.trips) lowered ridden →
          Lowers (Bounds bound_ready) ready start → Lowers (ChangedOrWalked n.feet ridden) start new →
          LaneStateTo never n o (k + 1) ridden new
      bounded_next k ride ready lowered ridden start new bound_ride bound_ready s bound bounded low started changed =
          let known = bounded_ridden k ride ready lowered ridden bound_ride bound_ready s bound bounded low in
          let ridden_len : length ridden ≡ n.stops = low.same_length ∙ bounded.same_length ∙ s.ride_len in
          let start_len : length start ≡ n.stops = started.same_length ∙ s.ready_len in
          let same : length bound_ready ≡ length ready = bound.ready_len ∙ sym s.ready_len in
          let new_fits = fits_after never start new (fits_after never ready start s.ready_fits started) changed in
          let own : AreMetTo never (IsReady n o (k + 1)) ready =
          record {
            met = λ p l reached. (
              slice_index ready p,
              ready_more n o (s.readies.found p l reached),
              omega arith,
            );
          } in
          let met = met_both never ready bound_ready start same own
          (ready_met never n o later here sooner (k + 1) bound_ready bound.readies) started in
          let none : NoneEarlier (IsReady n o k) start = λ p time l r.
          let m : p < length ready = omega (arith, started.same_length) in
          let low = (started.label p m).least (slice_index ready p) (inl refl) in
          let least = s.readies.least p time m r in
          omega arith in
          record {
            ride_len = ridden_len;
            ready_len = changed.same_length ∙ start_len;
            ride_fits = fits_after never lowered ridden (fits_after never ride lowered s.ride_fits bounded) low;
            ready_fits = new_fits;
            rides = known;
            readies = bounded_transfer never n ok o at_stop limit k ridden start new ridden_len start_len new_fits known
                met none changed;
          }

-- who is settled on own labels and on the bounds is settled on the lower of both
pub settled_below : (n : Net) → IsNet n → (trip : ℕ) (t : Trip) → slice_get n.trips trip ≡ Some t →
    (ready bound_ready low ride bound_ride lowered : List ℕ) → length ready ≡ n.stops →
    length bound_ride ≡ length ride → Lowers (Bounds bound_ready) ready low → Lowers (Bounds bound_ride) ride lowered →
    NothingLower (Carries ready t) ride → NothingLower (Carries bound_ready t) bound_ride →
    NothingLower (Carries low t) lowered
settled_below n ok trip t runs ready bound_ready low ride bound_ride lowered ready_len same h k by_a by_b =
    settled_by_both t ready bound_ready low ride bound_ride lowered (λ j e at. let stop =
    event_stop n ok trip j e (t, runs, at) in omega (arith, stop, ready_len)) same h k by_a by_b

-- before the first walk, stops other than the origin have nothing lower to offer
pub others_settle : (never : ℕ) (feet : FootLists) (ride ready : List ℕ) (x : ℕ) → slice_index ride x ≡ never →
    ((p : ℕ) → slice_index ready p ≤ never) → NothingLower (OfferedFrom feet ride x) ready
others_settle never feet ride ready x none fits p y l o =
    let f = fits p in
    elim o [
      | inl stay ↦ let e = ap (slice_index ride) stay.0 in omega (arith, stay.1)
      | inr w ↦ let e = ap (slice_index ride) w.1 in omega (arith, w.0.time)
    ]
