-- The trips of a line, position by position, in one lane.
use Rattle.std.proofs.Common.{◌≡◌, ℕ, ◌+◌, ◌<◌, ◌≤◌, ◌⊎◌, inl, inr, false, List, [], length, get_or, slice_index}
use Rattle.std.proofs.Common.{slice_get, Some, IsTrue, refl, sym, ◌∙◌, arith}
use Rattle.std.proofs.lemmas.Bool.{cases_lt}
use Rattle.std.proofs.lemmas.Option.{slice_get_within, slice_get-get_or}
use Rattle.timetable.specs.declared.trips.Event.{Event}
use Rattle.timetable.specs.declared.trips.Trip.{Trip}
use Rattle.timetable.specs.LineViews.{IsAt}
use Rattle.timetable.specs.RoundSteps.{Lowers, Carries}
use Rattle.timetable.specs.declared.views.Call.{Call}
use Rattle.timetable.specs.declared.views.CallTimes.{CallTimes}
use Rattle.trip_lanes.specs.Scan.{NothingLower, FallsTo}
use Rattle.trip_lanes.specs.Rows.{NoneOvertakes, IsCutViewOf, CarriesRow, IsCaught, IsPast, NoneCaughtBefore}
use Rattle.trip_lanes.proofs.NothingLowerStays.{nothing_changes}
use Rattle.trip_lanes.proofs.TripInOneLane.{lane_falls}
use Rattle.trip_lanes.proofs.FallsCompose.{falls_then, lowers_of}

-- there is such a trip
pub slice_get_row : (rows : List (List Event)) (r j : ℕ) (e : Event) → IsAt rows r j e → r < length rows
slice_get_row rows r j e at = slice_get_within rows r at.row at.trip

-- each trip of the line makes an event at each position
pub at_position : (base cap : ℕ) (rows : List (List Event)) (calls : List Call) (times : List CallTimes) →
    IsCutViewOf base cap rows calls times → (r j : ℕ) → r < length rows → j < length calls →
    (e : Event) × IsAt rows r j e
at_position base cap rows calls times view r j below inside =
    let row = get_or rows r [] in
    let trip : slice_get rows r ≡ Some row = slice_get-get_or rows r [] below in
    let long = view.positions r row trip in
    let none : Event = record { stop = record { 0 = 0 }; arrive = 0; depart = 0; board = false; alight = false } in
    (get_or row j none, record { row = row; trip = trip; event = slice_get-get_or row j none (omega (arith, long)) })

-- somebody boards trip r at one of the first x positions
pub record BoardsRow (ready : List ℕ) (rows : List (List Event)) (r x : ℕ) : Type 0 where
  pub j : ℕ
  pub on : Event
  pub below : j < x
  pub from : IsAt rows r j on
  pub may_board : IsTrue on.board
  pub in_time : slice_index ready on.stop.0 ≤ on.depart

-- as IsPast, of the positions below y
pub record PastTo (rows : List (List Event)) (ride : List ℕ) (r j y : ℕ) : Type 0 where
  pub label : (i : ℕ) (e : Event) → j < i → i < y → IsAt rows r i e → IsTrue e.alight →
      slice_index ride e.stop.0 ≤ e.arrive

-- a lane after boarding at the positions below x, and alighting at those below y
pub record LineAt (before ready : List ℕ) (rows : List (List Event)) (from x y : ℕ) (old now : List ℕ) (On : ℕ →
    Type 0) : Type 0 where
  pub falls : FallsTo (CarriesRow ready rows) old now
  pub aboard : (r : ℕ) → On r → BoardsRow ready rows r x
  pub past : (r j : ℕ) → from ≤ j → j < x → IsCaught before ready rows r j → PastTo rows now r j y
  pub rides : (r j : ℕ) → from ≤ j → j < x → IsCaught before ready rows r j → (q : ℕ) × (q ≤ r) × On q

module _ (before ready : List ℕ) (rows : List (List Event)) (from : ℕ) where
  -- who is aboard gets off
  pub line_alight : {On : ℕ → Type 0} (never x stop best : ℕ) {old mid new : List ℕ} → NoneOvertakes rows →
      ((r : ℕ) (e : Event) → IsAt rows r x e → e.stop.0 ≡ stop) →
      ((r : ℕ) (e : Event) → IsAt rows r x e → IsTrue e.alight) → stop < length mid →
      ((r : ℕ) → On r → (e : Event) × IsAt rows r x e × (best ≤ e.arrive)) →
      (best ≡ never) ⊎ ((r : ℕ) × On r × ((e : Event) → IsAt rows r x e → best ≡ e.arrive)) →
      ((p : ℕ) → slice_index mid p ≤ never) → LineAt before ready rows from x x old mid On →
      Lowers (λ p t. (p ≡ stop) × (t ≡ best)) mid new → LineAt before ready rows from x (x + 1) old new On
  line_alight {On} never x stop best {old} {mid} {new} order stops alights within there some fits s k =
      let fall : (p : ℕ) → slice_index new p ≤ slice_index mid p = lane_falls mid new k in
      record {
        falls = elim some [
          | inl out ↦
              let none : NothingLower (λ p t. (p ≡ stop) × (t ≡ best)) mid = λ p t l o. let f = fits p in
              omega (arith, o.1, out) in
              rw (nothing_changes mid new none k) s.falls
          | inr who ↦ falls_then s.falls k (λ p t o.
              let b = s.aboard who.0 who.1 in
              let e = there who.0 who.1 in
              record {
                r = who.0;
                j = b.j;
                i = x;
                on = b.on;
                off = e.0;
                from = b.from;
                to = e.1;
                later = b.below;
                may_board = b.may_board;
                may_alight = alights who.0 e.0 e.1;
                in_time = b.in_time;
                stop = stops who.0 e.0 e.1 ∙ sym o.0;
                time = sym (o.1 ∙ who.2 e.0 e.1);
              })
        ];
        aboard = s.aboard;
        past = λ r j low below c. record {
          label = λ i e after under at may. elim (cases_lt i x) [
            | inl lt ↦ let l = (s.past r j low below c).label i e after lt at may in let f = fall e.stop.0 in
                omega arith
            | inr ge ↦
                let same : i ≡ x = omega arith in
                let here : IsAt rows r x e = rw same at at in
                let q = s.rides r j low below c in
                let f = there q.0 q.2 in
                let sooner = order.arrive q.0 r x f.0 e q.1 f.1 here in
                let l : slice_index new stop ≤ best = (k.label stop within).least best (inr (refl, refl)) in
                rw (stops r e here) (omega (arith, l, f.2, sooner))
          ];
        };
        rides = s.rides;
      }

  -- nobody gets off
  pub line_pass : {On : ℕ → Type 0} (x : ℕ) {old mid : List ℕ} →
      ((q r : ℕ) (e : Event) → On q → IsAt rows r x e → IsTrue e.alight → ⊥) →
      LineAt before ready rows from x x old mid On → LineAt before ready rows from x (x + 1) old mid On
  line_pass {On} x nobody s =
      record {
        falls = s.falls;
        aboard = s.aboard;
        past = λ r j low below c. record {
          label = λ i e after under at may. elim (cases_lt i x) [
            | inl lt ↦ (s.past r j low below c).label i e after lt at may
            | inr ge ↦
                let same : i ≡ x = omega arith in
                let here : IsAt rows r x e = rw same at at in
                let q = s.rides r j low below c in
                absurd (nobody q.0 r e q.2 here may)
          ];
        };
        rides = s.rides;
      }

  -- who newly catches a trip gets on
  pub line_board : {On New : ℕ → Type 0} (x : ℕ) {old now : List ℕ} →
      ((r : ℕ) → New r → On r ⊎ BoardsRow ready rows r (x + 1)) → ((r : ℕ) → On r → (q : ℕ) × (q ≤ r) × New q) →
      ((r : ℕ) → IsCaught before ready rows r x → (q : ℕ) × (q ≤ r) × New q) →
      LineAt before ready rows from x (x + 1) old now On → LineAt before ready rows from (x + 1) (x + 1) old now New
  line_board {On} {New} x sound kept caught s =
      record {
        falls = s.falls;
        aboard = λ r on. elim (sound r on) [
          | inl o ↦ let b = s.aboard r o in record {
            j = b.j;
            on = b.on;
            below = omega (arith, b.below);
            from = b.from;
            may_board = b.may_board;
            in_time = b.in_time;
          }
          | inr b ↦ b
        ];
        past = λ r j low below c. elim (cases_lt j x) [
          | inl lt ↦ s.past r j low lt c
          | inr ge ↦ record { label = λ i e after under at may. absurd (omega arith) }
        ];
        rides = λ r j low below c. elim (cases_lt j x) [
          | inl lt ↦
              let q = s.rides r j low lt c in
              let n = kept q.0 q.2 in
              (n.0, omega (arith, n.1, q.1), n.2)
          | inr ge ↦ let same : j ≡ x = omega arith in caught r (rw same at c)
        ];
      }

  -- nobody gets on
  pub line_stay : {On : ℕ → Type 0} (x : ℕ) {old now : List ℕ} → ((r : ℕ) → IsCaught before ready rows r x → ⊥) →
      LineAt before ready rows from x (x + 1) old now On → LineAt before ready rows from (x + 1) (x + 1) old now On
  line_stay x none s = line_board x (λ r on. inl on) (λ r on. (r, omega arith, on)) (λ r c. absurd (none r c)) s

  -- all positions
  pub line_past : {On : ℕ → Type 0} (x positions : ℕ) {old now : List ℕ} →
      ((r : ℕ) (row : List Event) → slice_get rows r ≡ Some row → length row ≡ positions) → positions ≤ x →
      LineAt before ready rows from x x old now On → (r j : ℕ) → from ≤ j → IsCaught before ready rows r j →
      IsPast rows now r j
  line_past x positions long all s r j low c =
      let inside : (i : ℕ) (e : Event) → IsAt rows r i e → i < x = λ i e at. let l = long r at.row at.trip in
      let w = slice_get_within at.row i e at.event in omega arith in
      let p = s.past r j low (inside j c.on c.from) c in
      record { label = λ i e after at may. p.label i e after (inside i e at) at may }

  -- labels that were settled for who was ready before are settled for who is ready now
  pub line_lowers : {old new : List ℕ} → NothingLower (CarriesRow before rows) old →
      NoneCaughtBefore before ready rows from → FallsTo (CarriesRow ready rows) old new →
      ((r j : ℕ) → from ≤ j → IsCaught before ready rows r j → IsPast rows new r j) →
      Lowers (CarriesRow ready rows) old new
  line_lowers {old} {new} settled none falls past =
      lowers_of falls (λ p t l c. elim (cases_lt c.on.depart (slice_index before c.on.stop.0)) [
        | inl fresh ↦
            let caught : IsCaught before ready rows c.r c.j =
            record { on = c.on; from = c.from; may_board = c.may_board; in_time = c.in_time; fresh = fresh } in
            let low = (past c.r c.j (none c.r c.j caught) caught).label c.i c.off c.later c.to c.may_alight in
            let low' = rw c.stop at low in
            omega (arith, c.time)
        | inr soon ↦
            let low = settled p t (omega (arith, falls.same_length)) (record {
              r = c.r;
              j = c.j;
              i = c.i;
              on = c.on;
              off = c.off;
              from = c.from;
              to = c.to;
              later = c.later;
              may_board = c.may_board;
              may_alight = c.may_alight;
              in_time = soon;
              stop = c.stop;
              time = c.time;
            }) in
            let f = falls.falls p in
            omega arith
      ])

-- a ride on a trip of the line is a ride on the line
pub carries_row : (ready : List ℕ) (rows : List (List Event)) (r p end : ℕ) (t : Trip) →
    slice_get rows r ≡ Some t.events → Carries ready t p end → CarriesRow ready rows p end
carries_row ready rows r p end t at c =
    record {
      r = r;
      j = c.j;
      i = c.i;
      on = c.on;
      off = c.off;
      from = record { row = t.events; trip = at; event = c.ride.from };
      to = record { row = t.events; trip = at; event = c.ride.to };
      later = c.ride.later;
      may_board = c.ride.may_board;
      may_alight = c.ride.may_alight;
      in_time = c.in_time;
      stop = c.stop;
      time = c.time;
    }
