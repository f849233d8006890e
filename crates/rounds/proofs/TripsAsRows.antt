-- The trips of a line as rows of events, and back.
use Rattle.std.proofs.Common.{◌≡◌, ℕ, ◌<◌, ◌≤◌, [], List, length, get_or, slice_get, Some, All, sym, ◌∙◌, ap, arith}
use Rattle.std.proofs.lemmas.Option.{same_Some, slice_get_within, slice_get-get_or, get_or_from_slice_get}
use Rattle.std.proofs.lemmas.List.{length-map}
use Rattle.timetable.specs.declared.trips.Event.{Event}
use Rattle.timetable.specs.declared.trips.Trip.{Trip}
use Rattle.timetable.specs.declared.views.Call.{Call}
use Rattle.timetable.specs.declared.views.CallTimes.{CallTimes}
use Rattle.timetable.specs.Journeys.{IsRide}
use Rattle.timetable.specs.Lines.{Line, IsLine}
use Rattle.timetable.specs.LineViews.{events_of, rows_of_line, IsAt}
use Rattle.timetable.specs.RoundSteps.{Lowers}
use Rattle.timetable.proofs.KnownParts.{all_at}
use Rattle.timetable.proofs.LowersCompose.{lowers_alike}
use Rattle.timetable.proofs.LineLayout.{events_at, row_of}
use Rattle.trip_lanes.specs.Scan.{NothingLower, FallsTo}
use Rattle.trip_lanes.specs.Rows.{IsCutViewOf, NoneOvertakes, CarriesRow, IsCaught, IsPast, NoneCaughtBefore}
use Rattle.trip_lanes.proofs.LineByPositions.{at_position, carries_row, line_lowers}
use Rattle.rounds.specs.Rank.{IsOfRank}
use Rattle.rounds.specs.Scan.{CarriesLine}
use Rattle.rounds.proofs.LinesByRank.{ahead}

module _ (trips : List Trip) (line : Line) (is : IsLine trips line) where
  pub rows_long : length (rows_of_line trips line) ≡ length line
  rows_long = length-map line (events_of trips)

  -- each row holds the events of the trip of its rank
  pub row_trip : (r : ℕ) (row : List Event) → slice_get (rows_of_line trips line) r ≡ Some row →
      (t : Trip) × IsOfRank trips line r t × (t.events ≡ row)
  row_trip r row at =
      let w = slice_get_within (rows_of_line trips line) r row at in
      let below : r < length line = omega (arith, rows_long) in
      let i = get_or line r 0 in
      let inside : i < length trips = is.in_range r 0 below in
      let none : Trip = record { route = 0; name = 0; events = [] } in
      let t = get_or trips i none in
      let runs : slice_get trips i ≡ Some t = slice_get-get_or trips i none inside in
      let here : slice_get line r ≡ Some i = slice_get-get_or line r 0 below in
      let read : get_or (rows_of_line trips line) r [] ≡ row =
      get_or_from_slice_get (rows_of_line trips line) r row [] at in (
        t,
        record { trip = i; here = here; runs = runs },
        sym (events_at trips i t runs) ∙ (sym (row_of trips line r below) ∙ read),
      )

  pub trip_row : (r : ℕ) (t : Trip) → IsOfRank trips line r t → slice_get (rows_of_line trips line) r ≡ Some t.events
  trip_row r t rank =
      let below = slice_get_within line r rank.trip rank.here in
      let long : r < length (rows_of_line trips line) = omega (arith, rows_long) in
      let e : get_or (rows_of_line trips line) r [] ≡ t.events =
      row_of trips line r below ∙ (ap (λ (i : ℕ). events_of trips i)
      (get_or_from_slice_get line r rank.trip 0 rank.here) ∙ events_at trips rank.trip t rank.runs) in
      slice_get-get_or (rows_of_line trips line) r [] long ∙ ap Some e

  both : (r s j : ℕ) (e f : Event) → r ≤ s → IsAt (rows_of_line trips line) r j e →
      IsAt (rows_of_line trips line) s j f → (e.arrive ≤ f.arrive) × (e.depart ≤ f.depart)
  both r s j e f le a b =
      let t = row_trip r a.row a.trip in
      let u = row_trip s b.row b.trip in
      let follows = ahead trips line is r s t.0 u.0 le t.1 u.1 in
      let at_e : slice_get t.0.events j ≡ Some e = ap (λ (v : List Event). slice_get v j) t.2 ∙ a.event in
      let at_f : slice_get u.0.events j ≡ Some f = ap (λ (v : List Event). slice_get v j) u.2 ∙ b.event in
      let o = follows.events j e f at_e at_f in
      (o.arrive, o.depart)

  pub none_overtakes : NoneOvertakes (rows_of_line trips line)
  none_overtakes = record {
    arrive = λ r s j e f le a b. (both r s j e f le a b).0;
    depart = λ r s j e f le a b. (both r s j e f le a b).1;
  }

  line_of_row : (ready : List ℕ) (p end : ℕ) → CarriesRow ready (rows_of_line trips line) p end →
      CarriesLine ready trips line p end
  line_of_row ready p end c =
      let t = row_trip c.r c.from.row c.from.trip in
      let same : c.to.row ≡ c.from.row = same_Some c.to.row c.from.row (sym c.to.trip ∙ c.from.trip) in
      let on_at : slice_get t.0.events c.j ≡ Some c.on = ap (λ (v : List Event). slice_get v c.j) t.2 ∙ c.from.event in
      let off_at : slice_get t.0.events c.i ≡ Some c.off =
      ap (λ (v : List Event). slice_get v c.i) (t.2 ∙ sym same) ∙ c.to.event in
      let ride : IsRide t.0 c.j c.i c.on c.off =
      record { from = on_at; to = off_at; later = c.later; may_board = c.may_board; may_alight = c.may_alight } in
      record {
        r = c.r;
        t = t.0;
        rank = t.1;
        carries = record {
          j = c.j;
          i = c.i;
          on = c.on;
          off = c.off;
          ride = ride;
          in_time = c.in_time;
          stop = c.stop;
          time = c.time;
        };
      }

  -- the scan of a line, from where somebody newly catches a trip, carries travellers as all its trips do
  pub line_scanned : (from : ℕ) (before ready old new : List ℕ) →
      NoneCaughtBefore before ready (rows_of_line trips line) from → NothingLower (CarriesLine before trips line) old →
      FallsTo (CarriesRow ready (rows_of_line trips line)) old new →
      ((r j : ℕ) → from ≤ j → IsCaught before ready (rows_of_line trips line) r j →
      IsPast (rows_of_line trips line) new r j) → Lowers (CarriesLine ready trips line) old new
  line_scanned from before ready old new none settled falls past =
      lowers_alike (λ p y. λ c. line_of_row ready p y c)
      (λ p y. λ c. carries_row ready (rows_of_line trips line) c.r p y c.t (trip_row c.r c.t c.rank) c.carries)
      (line_lowers before ready (rows_of_line trips line) from (λ p x l c. settled p x l (line_of_row before p x c))
      none falls past)

  -- the positions of a line are at stops that there are
  pub call_stops : (base cap stops : ℕ) → All (λ (t : Trip). All (λ (e : Event). e.stop.0 < stops) t.events) trips →
      (calls : List Call) (times : List CallTimes) → IsCutViewOf base cap (rows_of_line trips line) calls times →
      All (λ (c : Call). c.stop.0 < stops) calls
  call_stops base cap stops within calls times view k d l =
      let long : 0 < length (rows_of_line trips line) = omega (arith, rows_long, is.some) in
      let w = at_position base cap (rows_of_line trips line) calls times view 0 k long l in
      let t = row_trip 0 w.1.row w.1.trip in
      let at_e : slice_get t.0.events k ≡ Some w.0 = ap (λ (v : List Event). slice_get v k) t.2 ∙ w.1.event in
      let inside = all_at (λ (t : Trip). All (λ (e : Event). e.stop.0 < stops) t.events) trips t.1.trip t.0 within
      t.1.runs in
      let in_range = all_at (λ (e : Event). e.stop.0 < stops) t.0.events k w.0 inside at_e in
      let same = view.stop 0 k w.0 (get_or calls k d) w.1 (slice_get-get_or calls k d l) in
      omega (arith, same, in_range)
