-- The rounds of one lane, step by step: where a round need not look, and which labels stay.
use Rattle.std.proofs.Common.{◌≡◌, ◌≢◌, ℕ, ◌+◌, ◌<◌, inl, inr, List, Some, length, replicate, slice_index}
use Rattle.std.proofs.Common.{slice_get, refl, sym, ◌∙◌, ap, arith}
use Rattle.std.proofs.lemmas.List.{length-replicate}
use Rattle.timetable.specs.declared.trips.Trip.{Trip}
use Rattle.timetable.specs.Networks.{Net, IsNet}
use Rattle.timetable.specs.Footpaths.{FeetData}
use Rattle.timetable.specs.RoundSteps.{Lowers, Carries, CarriesAny, ChangedOrWalked}
use Rattle.timetable.specs.Journeys.{Whereabouts}
use Rattle.trip_lanes.specs.Scan.{NothingLower}
use Rattle.trip_lanes.specs.Walks.{OfferedFrom, TransferredFrom}
use Rattle.rounds.specs.CappedLabels.{LaneStateTo}
use Rattle.rounds.specs.State.{Bounds}
use Rattle.rounds.proofs.SettledByBoth.{carried_settles}
use Rattle.rounds.proofs.LabelTables.{fits_after, fits_of, never_of}
use Rattle.rounds.proofs.LabelStates.{state_settles, nowhere_settles, settled_below, state_changes, others_settle}

-- what a stop offers is offered by the same label elsewhere
transfer_as : (feet : FeetData) (ridden ride : List ℕ) (x p y : ℕ) → slice_index ridden x ≡ slice_index ride x →
    TransferredFrom feet ridden x p y → ChangedOrWalked feet ride p y
transfer_as feet ridden ride x p y same o =
    elim o [
      | inl c ↦
          let e : slice_index ridden p ≡ slice_index ride p =
          ap (slice_index ridden) c.0 ∙ (same ∙ sym (ap (slice_index ride) c.0)) in
          inl (record {
            reached = λ z. c.1.reached (e ∙ z);
            time = ap (λ (t : ℕ). t + slice_index feet.changes p) (sym e) ∙ c.1.time;
          })
      | inr w ↦
          let e : slice_index ridden w.0.from ≡ slice_index ride w.0.from =
          ap (slice_index ridden) w.1 ∙ (same ∙ sym (ap (slice_index ride) w.1)) in
          inr (record {
            from = w.0.from;
            seconds = w.0.seconds;
            foot = w.0.foot;
            reached = λ z. w.0.reached (e ∙ z);
            time = ap (λ (t : ℕ). t + w.0.seconds) (sym e) ∙ w.0.time;
          })
    ]

-- a stop whose label of rides stayed has nothing lower to offer, where all labels are bounded by others that are
-- settled
pub unmarked_settles : (feet : FeetData) (ride bound lowered ridden ready bound_ready start : List ℕ) (x : ℕ) →
    length bound_ready ≡ length ready → Lowers (Bounds bound) ride lowered → Lowers (Bounds bound_ready) ready start →
    NothingLower (ChangedOrWalked feet ride) ready → NothingLower (ChangedOrWalked feet bound) bound_ready →
    x < length ride → slice_index ridden x ≡ slice_index lowered x → NothingLower (TransferredFrom feet ridden x) start
unmarked_settles feet ride bound lowered ridden ready bound_ready start x len h k by_own by_bound within same p y l o =
    let m : p < length ready = omega (arith, k.same_length) in
    let own = (k.label p m).least (slice_index ready p) (inl refl) in
    let other = (k.label p m).least (slice_index bound_ready p) (inr refl) in
    elim (h.label x within).holds [
      | inl e ↦ let low = by_own p y m (transfer_as feet ridden ride x p y (same ∙ e) o) in omega arith
      | inr e ↦ let low = by_bound p y (omega (arith, len)) (transfer_as feet ridden bound x p y (same ∙ e) o) in
          omega arith
    ]

module _ (never : ℕ) (n : Net) (ok : IsNet n) (later : Whereabouts) where
  -- before the first walk, stops other than the origin have nothing lower to offer
  pub start_walks : (origin time : ℕ) (ride start bound_ready : List ℕ) →
      Lowers (λ p x. (p ≡ origin) × (x ≡ time)) (replicate n.stops never) ride →
      Lowers (Bounds bound_ready) (replicate n.stops never) start → (x : ℕ) → x < n.stops → x ≢ origin →
      NothingLower (OfferedFrom n.feet.walks ride x) start
  start_walks origin time ride start bound_ready low bounded x l other =
      let there : x < length (replicate n.stops never) = omega (arith, length-replicate n.stops never) in
      let none : slice_index ride x ≡ never = elim (low.label x there).holds [
        | inl s ↦ s ∙ never_of never n.stops x there
        | inr e ↦ absurd (other e.0)
      ] in
      others_settle never n.feet.walks ride start x none
      (fits_after never (replicate n.stops never) start (fits_of never n.stops) bounded)

  -- before the first round, no trip has anything lower to offer from the labels that bound those of who is ready
  pub start_settled : (time origin : ℕ) (ride start lowered bound_ride bound_ready next_ride next_ready : List ℕ) →
      LaneStateTo never n later 0 bound_ride bound_ready → LaneStateTo never n later 1 next_ride next_ready →
      Lowers (λ p x. (p ≡ origin) × (x ≡ time)) (replicate n.stops never) ride →
      Lowers (Bounds bound_ready) (replicate n.stops never) start → Lowers (Bounds next_ride) ride lowered →
      (trip : ℕ) (t : Trip) → slice_get n.trips trip ≡ Some t → NothingLower (Carries start t) lowered
  start_settled time origin ride start lowered bound_ride bound_ready next_ride next_ready first next low bounded lower
      trip t runs =
      let none = length-replicate n.stops never in
      let fits = fits_after never (replicate n.stops never) ride (fits_of never n.stops) low in
      settled_below n ok trip t runs (replicate n.stops never) bound_ready start ride next_ride lowered none
      (next.ride_len ∙ sym (low.same_length ∙ none)) bounded lower
      (nowhere_settles never n ok ride fits trip t runs)
      (state_settles never n ok later 0 bound_ride bound_ready next_ride next_ready first next trip t runs)

  -- nor before the next round, from the labels that bound those of the round before
  pub round_settled : (o : Whereabouts) (k : ℕ)
      (ride ready mid ridden start lowered bound_ride bound_ready next_ride next_ready : List ℕ) →
      LaneStateTo never n o k ride ready → length ridden ≡ n.stops →
      LaneStateTo never n later (k + 1) bound_ride bound_ready →
      LaneStateTo never n later (k + 1 + 1) next_ride next_ready → Lowers (CarriesAny ready n.trips) mid ridden →
      Lowers (Bounds bound_ready) ready start → Lowers (Bounds next_ride) ridden lowered → (trip : ℕ) (t : Trip) →
      slice_get n.trips trip ≡ Some t → NothingLower (Carries start t) lowered
  round_settled o k ride ready mid ridden start lowered bound_ride bound_ready next_ride next_ready s ridden_len bound
      next carried started lower trip t runs =
      settled_below n ok trip t runs ready bound_ready start ridden next_ride lowered s.ready_len (next.ride_len
      ∙ sym ridden_len) started lower
      (carried_settles n.trips trip t runs ready mid ridden carried)
      (state_settles never n ok later (k + 1) bound_ride bound_ready next_ride next_ready bound next trip t runs)

  -- after the rides of a round, stops whose labels they left as they were have nothing lower to offer
  pub round_walks : (o : Whereabouts) (k : ℕ) (ride ready lowered ridden start bound_ride bound_ready : List ℕ) →
      LaneStateTo never n o k ride ready → LaneStateTo never n later (k + 1) bound_ride bound_ready →
      Lowers (Bounds bound_ride) ride lowered → Lowers (Bounds bound_ready) ready start → (x : ℕ) → x < n.stops →
      slice_index ridden x ≡ slice_index lowered x → NothingLower (TransferredFrom n.feet ridden x) start
  round_walks o k ride ready lowered ridden start bound_ride bound_ready s bound bounded started x l still =
      unmarked_settles n.feet ride bound_ride lowered ridden ready bound_ready start x (bound.ready_len
      ∙ sym s.ready_len) bounded started
      (state_changes never n ok o k ride ready s)
      (state_changes never n ok later (k + 1) bound_ride bound_ready bound)
      (omega (arith, l, s.ride_len)) still
