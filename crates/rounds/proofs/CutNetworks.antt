-- A network with its times cut is a network, and its lines are those of the network.
use Rattle.std.proofs.Common.{◌≡◌, ℕ, zero, suc, ◌+◌, ◌*◌, ◌<◌, ◌≤◌, List, [], ◌∷◌, map, length, slice_get, Some, All}
use Rattle.std.proofs.Common.{IsTrue, sum, sum_by, refl, sym, ◌∙◌, ap, subst, arith}
use Rattle.std.proofs.lemmas.List.{length-map}
use Rattle.std.proofs.lemmas.List.Elements.{All-map}
use Rattle.std.proofs.lemmas.List.Sums.{sum-map}
use Rattle.timetable.specs.declared.trips.Event.{Event}
use Rattle.timetable.specs.declared.trips.Trip.{Trip}
use Rattle.timetable.specs.declared.views.Call.{Call}
use Rattle.timetable.specs.declared.views.CallTimes.{CallTimes}
use Rattle.timetable.specs.declared.limits.TheConstants.{END_OF_AXIS}
use Rattle.timetable.specs.Trips.{EventsRise}
use Rattle.timetable.specs.Networks.{Net, IsNet, IsEvent}
use Rattle.timetable.proofs.MappedLists.{map_got, map_put}
use Rattle.timetable.specs.Lines.{Line, LineTable, Follows, IsLine, AreLines, IsPosition, AreBoarded, AreLinesOf}
use Rattle.timetable.specs.LineViews.{events_of, rows_of_line, IsAt, IsViewOf}
use Rattle.trip_lanes.specs.Cut.{cut}
use Rattle.trip_lanes.specs.Rows.{NoneOvertakes, IsCutViewOf}
use Rattle.rounds.specs.Cut.{cut_event, cut_trip, cut_net}
use Rattle.rounds.proofs.TripsAsRows.{none_overtakes}

-- cutting keeps the order of times
pub cut_rises : (base cap s t : ℕ) → s ≤ t → cut base cap s ≤ cut base cap t
cut_rises base cap s t le = omega arith

module _ (base cap : ℕ) where
  -- the events of a trip
  pub cut_events_rise : (events : List Event) → EventsRise events → EventsRise (map (cut_event base cap) events)
  cut_events_rise events ok =
      record {
        stays = All-map (λ (e : Event). e.arrive
            ≤ e.depart) (cut_event base cap) events (λ k d l. cut_rises base cap _ _ (ok.stays k d l));
        moves = λ k e f he hf.
            let a = map_got (cut_event base cap) events k e he in
            let b = map_got (cut_event base cap) events (k + 1) f hf in
            rw (← a.2, ← b.2) (cut_rises base cap _ _ (ok.moves k a.0 b.0 a.1 b.1));
      }

  pub cut_follows : (before after : List Event) → Follows before after →
      Follows (map (cut_event base cap) before) (map (cut_event base cap) after)
  cut_follows before after ok =
      record {
        same_length = length-map before (cut_event base cap)
            ∙ (ok.same_length ∙ sym (length-map after (cut_event base cap)));
        events = λ k e f he hf.
            let a = map_got (cut_event base cap) before k e he in
            let b = map_got (cut_event base cap) after k f hf in
            let o = ok.events k a.0 b.0 a.1 b.1 in
            rw (← a.2, ← b.2) (record {
              stop = o.stop;
              board = o.board;
              alight = o.alight;
              arrive = cut_rises base cap _ _ o.arrive;
              depart = cut_rises base cap _ _ o.depart;
            });
      }

  -- the trips
  pub cut_trips_long : (trips : List Trip) → length (map (cut_trip base cap) trips) ≡ length trips
  cut_trips_long trips = length-map trips (cut_trip base cap)

  cut_lengths : (trips : List Trip) → map (λ (t : Trip). length t.events) (map (cut_trip base cap) trips)
      ≡ map (λ (t : Trip). length t.events) trips
  cut_lengths [] = refl
  cut_lengths (t ∷ trips) =
      let here = length-map t.events (cut_event base cap) in
      let rest = cut_lengths trips in
      cc (here, rest)

  cut_sum : (trips : List Trip) → sum_by (λ (t : Trip). length t.events) (map (cut_trip base cap) trips)
      ≡ sum_by (λ (t : Trip). length t.events) trips
  cut_sum trips =
      sym (sum-map (λ (t : Trip). length t.events) (map (cut_trip base cap) trips))
      ∙ (ap sum (cut_lengths trips) ∙ sum-map (λ (t : Trip). length t.events) trips)

  -- an event of a cut trip is one of the trip, cut
  pub cut_event_got : (trips : List Trip) (trip k : ℕ) (e : Event) → IsEvent (map (cut_trip base cap) trips) trip k e →
      (f : Event) × IsEvent trips trip k f × (cut_event base cap f ≡ e)
  cut_event_got trips trip k e h =
      let t = map_got (cut_trip base cap) trips trip h.0 h.1 in
      let at : slice_get (map (cut_event base cap) t.0.events) k ≡ Some e =
      ap (λ (u : Trip). slice_get u.events k) t.2 ∙ h.2 in
      let f = map_got (cut_event base cap) t.0.events k e at in
      (f.0, (t.0, t.1, f.1), f.2)

  pub cut_event_put : (trips : List Trip) (trip k : ℕ) (f : Event) → IsEvent trips trip k f →
      IsEvent (map (cut_trip base cap) trips) trip k (cut_event base cap f)
  cut_event_put trips trip k f h = (
    cut_trip base cap h.0,
    map_put (cut_trip base cap) trips trip h.0 h.1,
    map_put (cut_event base cap) h.0.events k f h.2,
  )

  pub cut_stops : (stops : ℕ) (trips : List Trip) →
      All (λ (t : Trip). All (λ (e : Event). e.stop.0 < stops) t.events) trips →
      All (λ (t : Trip). All (λ (e : Event). e.stop.0 < stops) t.events) (map (cut_trip base cap) trips)
  cut_stops stops trips within =
      All-map (λ (t : Trip). All (λ (e : Event). e.stop.0 < stops) t.events) (cut_trip base cap) trips (λ i t l.
      All-map (λ (e : Event). e.stop.0 < stops) (cut_event base cap) _ (within i t l))

  -- a network
  pub cut_net_is_net : (n : Net) → IsNet n → IsNet (cut_net base cap n)
  cut_net_is_net n ok =
      record {
        feet = ok.feet;
        in_range = record {
          lists = ok.in_range.lists;
          events = cut_stops n.stops n.trips ok.in_range.events;
        };
        rise = All-map (λ (t : Trip). EventsRise t.events) (cut_trip base cap) n.trips
            (λ i t l. cut_events_rise _ (ok.rise i t l));
        within = record {
          few = omega (arith, cut_trips_long n.trips, ok.within.few);
          events = omega (arith, cut_sum n.trips, ok.within.events);
          axis = All-map (λ (t : Trip). All (λ (e : Event). e.depart < END_OF_AXIS) t.events) (cut_trip base cap)
              n.trips (λ i t l.
              All-map (λ (e : Event). e.depart < END_OF_AXIS) (cut_event base cap) _ (λ k e m. let a =
              ok.within.axis i t l k e m in omega (arith, a)));
        };
      }

  -- the lines
  pub cut_line : (trips : List Trip) (line : Line) → IsLine trips line → IsLine (map (cut_trip base cap) trips) line
  cut_line trips line ok =
      record {
        some = ok.some;
        in_range = λ k d l. let inside = ok.in_range k d l in omega (arith, inside, cut_trips_long trips);
        order = λ r s i j t u le hr hs ht hu.
            let a = map_got (cut_trip base cap) trips i t ht in
            let b = map_got (cut_trip base cap) trips j u hu in
            rw (← a.2, ← b.2) (cut_follows a.0.events b.0.events (ok.order r s i j a.0 b.0 le hr hs a.1 b.1));
      }

  pub cut_lines : (trips : List Trip) (lines : List Line) → AreLines trips lines →
      AreLines (map (cut_trip base cap) trips) lines
  cut_lines trips lines ok =
      record {
        few = omega (arith, ok.few, cut_trips_long trips);
        short = λ k d l. let h = ok.short k d l in omega (arith, h, cut_trips_long trips);
        line = λ k d l. cut_line trips _ (ok.line k d l);
        all = λ trip l. ok.all trip (omega (arith, cut_trips_long trips));
      }

  cut_position_got : (trips : List Trip) (lines : List Line) (line k : ℕ) (e : Event) →
      IsPosition (map (cut_trip base cap) trips) lines line k e →
      (f : Event) × IsPosition trips lines line k f × (cut_event base cap f ≡ e)
  cut_position_got trips lines line k e h =
      let f = cut_event_got trips h.0 k e h.2 in
      (f.0, (h.0, h.1, f.1), f.2)

  pub cut_boarded : (stops : ℕ) (trips : List Trip) (lines : List Line) (boarded : List (List (ℕ × ℕ))) →
      AreBoarded stops trips lines boarded → AreBoarded stops (map (cut_trip base cap) trips) lines boarded
  cut_boarded stops trips lines boarded ok =
      record {
        size = ok.size;
        complete = λ line k e position board.
            let f = cut_position_got trips lines line k e position in
            rw (← f.2) (ok.complete line k f.0 f.1 (subst IsTrue (ap (λ (x : Event). x.board) (sym f.2)) board));
        sound = λ p line k h.
            let s = ok.sound p line k h in
            (cut_event base cap s.0, (s.1.0, s.1.1, cut_event_put trips s.1.0 k s.0 s.1.2), s.2, s.3);
      }

  -- the rows of a line
  cut_events_of : (trips : List Trip) (i : ℕ) →
      events_of (map (cut_trip base cap) trips) i ≡ map (cut_event base cap) (events_of trips i)
  cut_events_of [] i = refl
  cut_events_of (t ∷ trips) zero = refl
  cut_events_of (t ∷ trips) (suc i) = cut_events_of trips i

  pub cut_rows : (trips : List Trip) (line : List ℕ) →
      rows_of_line (map (cut_trip base cap) trips) line ≡ map (map (cut_event base cap)) (rows_of_line trips line)
  cut_rows trips [] = refl
  cut_rows trips (i ∷ line) =
      let here = cut_events_of trips i in
      let rest = cut_rows trips line in
      cc (here, rest)

  pub cut_rows_long : (trips : List Trip) (line : List ℕ) →
      length (rows_of_line (map (cut_trip base cap) trips) line) ≡ length (rows_of_line trips line)
  cut_rows_long trips line = length-map line (events_of (map (cut_trip base cap) trips))
      ∙ sym (length-map line (events_of trips))

  -- a row of the cut trips is one of the trips, cut
  pub cut_row_got : (trips : List Trip) (line : List ℕ) (r : ℕ) (row : List Event) →
      slice_get (rows_of_line (map (cut_trip base cap) trips) line) r ≡ Some row →
      (own : List Event) × (slice_get (rows_of_line trips line) r ≡ Some own) × (map (cut_event base cap) own ≡ row)
  cut_row_got trips line r row h =
      map_got (map (cut_event base cap)) (rows_of_line trips line) r row
      (ap (λ (rows : List (List Event)). slice_get rows r) (sym (cut_rows trips line)) ∙ h)

  pub cut_at_got : (trips : List Trip) (line : List ℕ) (r j : ℕ) (e : Event) →
      IsAt (rows_of_line (map (cut_trip base cap) trips) line) r j e →
      (f : Event) × IsAt (rows_of_line trips line) r j f × (cut_event base cap f ≡ e)
  cut_at_got trips line r j e h =
      let own = cut_row_got trips line r h.row h.trip in
      let at : slice_get (map (cut_event base cap) own.0) j ≡ Some e =
      ap (λ (row : List Event). slice_get row j) own.2 ∙ h.event in
      let f = map_got (cut_event base cap) own.0 j e at in
      (f.0, record { row = own.0; trip = own.1; event = f.1 }, f.2)

  -- the calls of a line show its cut trips, and its times do when they are cut
  pub cut_line_view : (trips : List Trip) (line : List ℕ) (calls : List Call) (times : List CallTimes) →
      IsViewOf (rows_of_line trips line) calls times →
      IsCutViewOf base cap (rows_of_line (map (cut_trip base cap) trips) line) calls times
  cut_line_view trips line calls times v =
      record {
        positions = λ r row h.
            let own = cut_row_got trips line r row h in
            rw (← own.2) (length-map own.0 (cut_event base cap) ∙ v.positions r own.0 own.1);
        size = v.size ∙ ap (λ m. m * length calls) (sym (cut_rows_long trips line));
        stop = λ r j e c h g. let f = cut_at_got trips line r j e h in
            v.stop r j f.0 c f.1 g ∙ ap (λ (x : Event). x.stop.0) f.2;
        board = λ r j e c h g. let f = cut_at_got trips line r j e h in
            v.board r j f.0 c f.1 g ∙ ap (λ (x : Event). x.board) f.2;
        alight = λ r j e c h g. let f = cut_at_got trips line r j e h in
            v.alight r j f.0 c f.1 g ∙ ap (λ (x : Event). x.alight) f.2;
        arrival = λ r j e h. let f = cut_at_got trips line r j e h in
            ap (cut base cap) (v.arrival r j f.0 f.1) ∙ ap (λ (x : Event). x.arrive) f.2;
        departure = λ r j e h. let f = cut_at_got trips line r j e h in
            ap (cut base cap) (v.departure r j f.0 f.1) ∙ ap (λ (x : Event). x.depart) f.2;
      }

  pub cut_none_overtakes : (trips : List Trip) (line : Line) → IsLine trips line →
      NoneOvertakes (rows_of_line (map (cut_trip base cap) trips) line)
  cut_none_overtakes trips line ok = none_overtakes (map (cut_trip base cap) trips) line (cut_line trips line ok)

  -- all that is known of a line of a network, of its cut trips
  module _ (stops : ℕ) (trips : List Trip) (table : LineTable) (are : AreLinesOf stops trips table) (i : ℕ)
      (line : Line) (at : slice_get table.lines i ≡ Some line) where
    pub table_view : (calls : List Call) (times : List CallTimes) → slice_get table.calls i ≡ Some calls →
        slice_get table.times i ≡ Some times → IsCutViewOf base cap (rows_of_line (map (cut_trip base cap) trips) line)
        calls times
    table_view calls times c t = cut_line_view trips line calls times (are.viewed.view i line calls times at c t)
