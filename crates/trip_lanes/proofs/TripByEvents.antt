-- What the first events of a trip offer.
use Rattle.std.proofs.Common.{◌≡◌, ℕ, ◌+◌, ◌<◌, ◌≤◌, inl, inr, List, length, slice_index, slice_get, Some, IsTrue, sym}
use Rattle.std.proofs.Common.{◌∙◌, ap, arith, subst}
use Rattle.std.proofs.lemmas.Bool.{cases_lt}
use Rattle.std.proofs.lemmas.Option.{same_Some, slice_get_within}
use Rattle.timetable.specs.declared.trips.Event.{Event}
use Rattle.timetable.specs.declared.trips.Trip.{Trip}
use Rattle.timetable.specs.RoundSteps.{Lowers, Carries, CarriesAny}
use Rattle.timetable.proofs.LowersCompose.{lowers_alike, lowers_both}

-- one of the first x events lets on who is ready
pub record BoardsBelow (ready : List ℕ) (t : Trip) (x : ℕ) : Type 0 where
  pub j : ℕ
  pub on : Event
  pub below : j < x
  pub from : slice_get t.events j ≡ Some on
  pub may_board : IsTrue on.board
  pub in_time : slice_index ready on.stop.0 ≤ on.depart

-- a ride that ends at one of the first x events
abbrev pub CarriesBelow : List ℕ → Trip → ℕ → ℕ → ℕ → Type 0
CarriesBelow ready t x p end = (c : Carries ready t p end) × (c.i < x)

module _ (ready : List ℕ) (t : Trip) (x : ℕ) (here : Event) (at_x : slice_get t.events x ≡ Some here) where
  -- an event of the trip at x is this one
  same_event : (i : ℕ) (e : Event) → i ≡ x → slice_get t.events i ≡ Some e → e ≡ here
  same_event i e k h = let h' = rw k at h in same_Some e here (sym h' ∙ at_x)

  -- one more event, which lets off who is aboard
  pub carry_alight : {old mid new : List ℕ} → BoardsBelow ready t x → IsTrue here.alight →
      Lowers (CarriesBelow ready t x) old mid → Lowers (λ p y. (p ≡ here.stop.0) × (y ≡ here.arrive)) mid new →
      Lowers (CarriesBelow ready t (x + 1)) old new
  carry_alight b off h k =
      lowers_alike
      (λ p y. λ o. elim o [
        | inl c ↦ (c.0, omega arith)
        | inr e ↦ (
          record {
            j = b.j;
            i = x;
            on = b.on;
            off = here;
            ride = record { from = b.from; to = at_x; later = b.below; may_board = b.may_board; may_alight = off };
            in_time = b.in_time;
            stop = sym e.0;
            time = sym e.1;
          },
          omega arith,
        )
      ])
      (λ p y. λ c. elim (cases_lt c.0.i x) [
        | inl l ↦ inl (c.0, l)
        | inr g ↦
            let i : c.0.i ≡ x = omega (arith, c.1) in
            let e = same_event c.0.i c.0.off i c.0.ride.to in
            inr (sym c.0.stop ∙ ap (λ (v : Event). v.stop.0) e, sym c.0.time ∙ ap (λ (v : Event). v.arrive) e)
      ])
      (lowers_both h k)

  -- one more event, where nobody gets off
  pub carry_pass : {old mid : List ℕ} → (BoardsBelow ready t x → IsTrue here.alight → ⊥) →
      Lowers (CarriesBelow ready t x) old mid → Lowers (CarriesBelow ready t (x + 1)) old mid
  carry_pass nobody h =
      lowers_alike
      (λ p y. λ c. (c.0, omega arith))
      (λ p y. λ c. elim (cases_lt c.0.i x) [
        | inl l ↦ (c.0, l)
        | inr g ↦
            let i : c.0.i ≡ x = omega (arith, c.1) in
            let e = same_event c.0.i c.0.off i c.0.ride.to in
            let below : c.0.j < x = omega (arith, c.0.ride.later) in
            absurd (nobody (record {
              j = c.0.j;
              on = c.0.on;
              below = below;
              from = c.0.ride.from;
              may_board = c.0.ride.may_board;
              in_time =
                  c.0.in_time;
            }) (subst (λ (v : Event). IsTrue v.alight) e c.0.ride.may_alight))
      ])
      h

  pub boards_still : BoardsBelow ready t x → BoardsBelow ready t (x + 1)
  boards_still b = record {
    j = b.j;
    on = b.on;
    below = omega (arith, b.below);
    from = b.from;
    may_board = b.may_board;
    in_time = b.in_time;
  }

  pub boards_here : IsTrue here.board → slice_index ready here.stop.0 ≤ here.depart → BoardsBelow ready t (x + 1)
  boards_here may in_time = record {
    j = x;
    on = here;
    below = omega arith;
    from = at_x;
    may_board = may;
    in_time = in_time;
  }

  pub boards_not : (BoardsBelow ready t x → ⊥) → (IsTrue here.board → slice_index ready here.stop.0 ≤ here.depart → ⊥) →
      BoardsBelow ready t (x + 1) → ⊥
  boards_not before now b = elim (cases_lt b.j x) [
    | inl l ↦ before (record {
      j = b.j;
      on = b.on;
      below = l;
      from = b.from;
      may_board = b.may_board;
      in_time = b.in_time;
    })
    | inr g ↦
        let j : b.j ≡ x = omega (arith, b.below) in
        let e = same_event b.j b.on j b.from in
        now (subst (λ (v : Event). IsTrue v.board) e b.may_board)
        (subst (λ (v : Event). slice_index ready v.stop.0 ≤ v.depart) e b.in_time)
  ]

-- all events
pub carry_all : (ready : List ℕ) (t : Trip) (x : ℕ) {old new : List ℕ} → length t.events ≤ x →
    Lowers (CarriesBelow ready t x) old new → Lowers (Carries ready t) old new
carry_all ready t x all h =
    lowers_alike (λ p y. λ c. c.0) (λ p y. λ c. (
      c,
      let k = slice_get_within t.events c.i c.off c.ride.to in
          omega arith,
    )) h

-- a ride on one of the first x trips
abbrev pub CarriesAnyBelow : List ℕ → List Trip → ℕ → ℕ → ℕ → Type 0
CarriesAnyBelow ready trips x p end = (c : CarriesAny ready trips p end) × (c.trip < x)

-- one more trip
pub carry_one : (ready : List ℕ) (trips : List Trip) (x : ℕ) (t : Trip) {old mid new : List ℕ} →
    slice_get trips x ≡ Some t → Lowers (CarriesAnyBelow ready trips x) old mid → Lowers (Carries ready t) mid new →
    Lowers (CarriesAnyBelow ready trips (x + 1)) old new
carry_one ready trips x t at_x h k =
    lowers_alike
    (λ p y. λ o. elim o [
      | inl c ↦ (c.0, omega arith)
      | inr c ↦ (record { trip = x; t = t; runs = at_x; carries = c }, omega arith)
    ])
    (λ p y. λ c. elim (cases_lt c.0.trip x) [
      | inl l ↦ inl (c.0, l)
      | inr g ↦
          let i : c.0.trip ≡ x = omega (arith, c.1) in
          let runs = rw i at c.0.runs in
          inr (subst (λ (v : Trip). Carries ready v p y) (same_Some c.0.t t (sym runs ∙ at_x)) c.0.carries)
    ])
    (lowers_both h k)

-- all trips
pub carry_each : (ready : List ℕ) (trips : List Trip) (x : ℕ) {old new : List ℕ} → length trips ≤ x →
    Lowers (CarriesAnyBelow ready trips x) old new → Lowers (CarriesAny ready trips) old new
carry_each ready trips x all h =
    lowers_alike (λ p y. λ c. c.0) (λ p y. λ c. (c, let k = slice_get_within trips c.trip c.t c.runs in omega arith)) h
