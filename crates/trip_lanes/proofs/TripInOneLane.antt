-- A trip, in one lane of sixteen.
use Rattle.std.proofs.Common.{◌≡◌, ℕ, ◌+◌, ◌<◌, ◌≤◌, ◌⊎◌, inl, inr, Bool, true, false, cond, leb, List, length}
use Rattle.std.proofs.Common.{slice_index, slice_get, Some, IsTrue, refl, sym, ◌∙◌, arith, subst}
use Rattle.std.proofs.lemmas.Bool.{cases_lt, false≢true}
use Rattle.std.proofs.lemmas.Bool.Decides.{nat_tests}
use Rattle.std.proofs.lemmas.List.{get_or_past}
use Rattle.timetable.specs.declared.trips.Event.{Event}
use Rattle.timetable.specs.declared.trips.Trip.{Trip}
use Rattle.timetable.specs.declared.least.TheConstants.{NEVER}
use Rattle.timetable.specs.RoundSteps.{Lowers}
use Rattle.timetable.proofs.LowersCompose.{lowers_alike, lowers_both}
use Rattle.trip_lanes.proofs.TripByEvents.{BoardsBelow, CarriesBelow, carry_alight, carry_pass, boards_still}
use Rattle.trip_lanes.proofs.TripByEvents.{boards_here, boards_not}
use Rattle.trip_lanes.specs.Lane.{lane, MarksFallenOf}

-- a lane after the first x events
pub record LaneAt (ready : List ℕ) (t : Trip) (x : ℕ) (old now : List ℕ) (bar : ℕ) : Type 0 where
  pub lowered : Lowers (CarriesBelow ready t x) old now
  pub either : (bar ≡ 0) ⊎ (bar ≡ NEVER)
  pub aboard : bar ≡ 0 → BoardsBelow ready t x
  pub waiting : bar ≡ NEVER → BoardsBelow ready t x → ⊥

module _ (ready : List ℕ) (t : Trip) (x : ℕ) (here : Event) (at_x : slice_get t.events x ≡ Some here) where
  -- who is aboard gets off
  pub lane_alight : {old mid new : List ℕ} {bar : ℕ} → IsTrue here.alight → LaneAt ready t x old mid bar →
      Lowers (λ p y. (bar ≡ 0) × (p ≡ here.stop.0) × (y ≡ here.arrive)) mid new →
      Lowers (CarriesBelow ready t (x + 1)) old new
  lane_alight off s k =
      elim s.either [
        | inl a ↦ carry_alight ready t x here at_x (s.aboard a) off s.lowered
            (lowers_alike (λ p y o. (o.1, o.2)) (λ p y o. (a, o.0, o.1)) k)
        | inr w ↦ carry_pass ready t x here at_x (λ b _. s.waiting w b)
            (lowers_alike (λ p y o. elim o [
              | inl c ↦ c
              | inr d ↦ absurd (omega (arith, d.0, w))
            ]) (λ p y c. inl c) (lowers_both s.lowered k))
      ]

  -- nobody gets off
  pub lane_pass : {old mid : List ℕ} {bar : ℕ} → here.alight ≡ false → LaneAt ready t x old mid bar →
      Lowers (CarriesBelow ready t (x + 1)) old mid
  lane_pass shut s = carry_pass ready t x here at_x (λ b off. false≢true (sym shut ∙ off)) s.lowered

  -- who is ready gets on
  pub lane_board : {old mid new : List ℕ} {bar : ℕ} → IsTrue here.board → LaneAt ready t x old mid bar →
      Lowers (CarriesBelow ready t (x + 1)) old new →
      LaneAt ready t (x + 1) old new (cond (leb (slice_index ready here.stop.0) here.depart) 0 bar)
  lane_board {old} {mid} {new} {bar} may s low =
      elim (cases_lt here.depart (slice_index ready here.stop.0)) [
        | inl late ↦
            let e : leb (slice_index ready here.stop.0) here.depart ≡ false = grind (arith, nat_tests) in
            let P : Bool → Type 0 = λ b. LaneAt ready t (x + 1) old new (cond b 0 bar) in
            subst P (sym e) (record {
              lowered = low;
              either = s.either;
              aboard = λ z. boards_still ready t x here at_x (s.aboard z);
              waiting = λ z. boards_not ready t x here at_x (s.waiting z) (λ on early. omega arith);
            })
        | inr early ↦
            let e : leb (slice_index ready here.stop.0) here.depart ≡ true = grind (arith, nat_tests) in
            let P : Bool → Type 0 = λ b. LaneAt ready t (x + 1) old new (cond b 0 bar) in
            subst P (sym e) (record {
              lowered = low;
              either = inl refl;
              aboard = λ z. boards_here ready t x here at_x may early;
              waiting = λ z. absurd (omega (arith, z));
            })
      ]

  -- nobody gets on
  pub lane_shut : {old mid new : List ℕ} {bar : ℕ} → here.board ≡ false → LaneAt ready t x old mid bar →
      Lowers (CarriesBelow ready t (x + 1)) old new → LaneAt ready t (x + 1) old new bar
  lane_shut shut s low =
      record {
        lowered = low;
        either = s.either;
        aboard = λ z. boards_still ready t x here at_x (s.aboard z);
        waiting = λ z. boards_not ready t x here at_x (s.waiting z) (λ on early. false≢true (sym shut ∙ on));
      }

-- labels only fall
pub lane_falls : {C : ℕ → ℕ → Type 0} (old new : List ℕ) → Lowers C old new → (p : ℕ) →
    slice_index new p ≤ slice_index old p
lane_falls old new h p = elim (cases_lt p (length old)) [
  | inl l ↦ (h.label p l).least (slice_index old p) (inl refl)
  | inr g ↦ let z = get_or_past new p 0 (omega (arith, h.same_length)) in omega arith
]

-- one change after another
pub marks_then : {lanes : ℕ} (a b c : List (List ℕ)) (was mid is : List Bool) →
    ((l p : ℕ) → l < lanes → slice_index (lane l b) p ≤ slice_index (lane l a) p) →
    ((l p : ℕ) → l < lanes → slice_index (lane l c) p ≤ slice_index (lane l b) p) → MarksFallenOf lanes a b was mid →
    MarksFallenOf lanes b c mid is → MarksFallenOf lanes a c was is
marks_then a b c was mid is ab bc h k =
    record {
      same_length = k.same_length ∙ h.same_length;
      marks = λ p l.
          let first = h.marks p l in
          let then = k.marks p (omega (arith, h.same_length)) in (
            λ s. elim (then.0 s) [
              | inl m ↦ elim (first.0 m) [
                | inl w ↦ inl w
                | inr f ↦ inr (
                  f.0,
                  f.1,
                  let lower = bc f.0 p f.1 in
                      omega (arith, f.2),
                )
              ]
              | inr f ↦ inr (f.0, f.1, let lower = ab f.0 p f.1 in omega (arith, f.2))
            ],
            λ o. elim o [
              | inl w ↦ then.1 (inl (first.1 (inl w)))
              | inr f ↦ elim (cases_lt (slice_index (lane f.0 b) p) (slice_index (lane f.0 a) p)) [
                | inl lt ↦ then.1 (inl (first.1 (inr (f.0, f.1, lt))))
                | inr ge ↦ then.1 (inr (f.0, f.1, omega (arith, f.2)))
              ]
            ],
          );
    }
