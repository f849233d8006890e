-- Lines and where they are boarded: which of them a round leaves out, and that they carry as all trips do.
-- As these need no view of the lines, they hold of cut trips too.
use Rattle.std.proofs.Common.{◌≡◌, ℕ, ◌<◌, ◌≤◌, ◌∙◌, inl, inr, List, length, get_or, slice_index, slice_get, Some, ap}
use Rattle.std.proofs.Common.{arith}
use Rattle.std.proofs.lemmas.Bool.{cases_lt}
use Rattle.std.proofs.lemmas.Option.{slice_get_within, slice_get-get_or}
use Rattle.timetable.specs.declared.trips.Event.{Event}
use Rattle.timetable.specs.declared.trips.Trip.{Trip}
use Rattle.timetable.specs.Lines.{Line, IsLine, AreLines, AreBoarded}
use Rattle.timetable.specs.LineViews.{rows_of_line}
use Rattle.timetable.specs.RoundSteps.{Lowers, CarriesAny}
use Rattle.timetable.proofs.KnownParts.{all_at}
use Rattle.timetable.proofs.LowersCompose.{lowers_alike}
use Rattle.trip_lanes.specs.declared.falls.Fall.{Fall}
use Rattle.trip_lanes.specs.Falls.{AreFalls}
use Rattle.trip_lanes.specs.Rows.{IsCaught}
use Rattle.trip_lanes.specs.Scan.{NothingLower}
use Rattle.rounds.specs.Scan.{CarriesLine, AreDue}
use Rattle.rounds.proofs.TripsAsRows.{row_trip, trip_row}
use Rattle.rounds.proofs.LineByLine.{CarriesBelow, any_of_line}

module _ (trips : List Trip) (lines : List Line) (are : AreLines trips lines) where
  pub line_at : (i : ℕ) (line : Line) → slice_get lines i ≡ Some line → IsLine trips line
  line_at i line at = all_at (IsLine trips) lines i line are.line at

  -- each trip stands in a line
  pub lines_carry : (ready : List ℕ) (x : ℕ) {old new : List ℕ} → length lines ≤ x →
      Lowers (CarriesBelow ready trips lines x) old new → Lowers (CarriesAny ready trips) old new
  lines_carry ready x all h =
      lowers_alike
      (λ p y. λ c. any_of_line c.carries)
      (λ p y. λ c.
      let w = are.all c.trip (slice_get_within trips c.trip c.t c.runs) in
      record {
        i = w.0;
        line = w.1.0;
        at = w.1.2;
        below = let k = slice_get_within lines w.0 w.1.0 w.1.2 in omega arith;
        carries = record {
          r = w.1.1;
          t = c.t;
          rank = record { trip = c.trip; here = w.1.3; runs = c.runs };
          carries = c.carries;
        };
      })
      h

  module _ (i : ℕ) (line : Line) (at_i : slice_get lines i ≡ Some line) (before ready : List ℕ) where
    -- a line of which nobody newly catches a trip has nothing lower to offer
    pub none_catches : ((r j : ℕ) → IsCaught before ready (rows_of_line trips line) r j → ⊥) → (ride : List ℕ) →
        NothingLower (CarriesLine before trips line) ride → NothingLower (CarriesLine ready trips line) ride
    none_catches none ride settled p x l c =
        let k = c.carries in
        elim (cases_lt k.on.depart (slice_index before k.on.stop.0)) [
          | inl fresh ↦
              let at_row = trip_row trips line (line_at i line at_i) c.r c.t c.rank in
              absurd (none c.r k.j (record {
                on = k.on;
                from = record { row = c.t.events; trip = at_row; event = k.ride.from };
                may_board = k.ride.may_board;
                in_time = k.in_time;
                fresh = fresh;
              }))
          | inr soon ↦ settled p x l (record {
            r = c.r;
            t = c.t;
            rank = c.rank;
            carries = record {
              j = k.j;
              i = k.i;
              on = k.on;
              off = k.off;
              ride = k.ride;
              in_time = soon;
              stop = k.stop;
              time = k.time;
            };
          })
        ]

    -- nobody newly catches a trip of a line before the position that is noted for it
    pub catches_from : (stops : ℕ) (boarded : List (List (ℕ × ℕ))) → AreBoarded stops trips lines boarded →
        (falls : List Fall) (due : List ℕ) → length falls ≡ stops → AreFalls before ready falls
        → AreDue boarded falls due → (r j : ℕ) → IsCaught before ready (rows_of_line trips line) r j → slice_index due i ≤ j
    catches_from stops boarded board falls due same fallen notes r j g =
        let t = row_trip trips line (line_at i line at_i) r g.from.row g.from.trip in
        let at_j : slice_get t.0.events j ≡ Some g.on = ap (λ (v : List Event). slice_get v j) t.2 ∙ g.from.event in
        let b = board.complete i j g.on (t.1.trip, (line, r, at_i, t.1.here), (t.0, t.1.runs, at_j)) g.may_board in
        let in_range = slice_get_within boarded g.on.stop.0 b.0 b.2 in
        let nowhere : Fall = record { low = 0; high = 0; top = 0 } in
        let f = get_or falls g.on.stop.0 nowhere in
        let at_f : slice_get falls g.on.stop.0 ≡ Some f =
        slice_get-get_or falls g.on.stop.0 nowhere (omega (arith, board.size)) in
        let h = fallen.fall g.on.stop.0 f at_f in
        let fell : slice_index ready g.on.stop.0 < slice_index before g.on.stop.0 = omega (arith, g.in_time, g.fresh) in
        let low = h.low fell in
        let top = h.top fell in
        notes g.on.stop.0 i j f b at_f (omega arith)
