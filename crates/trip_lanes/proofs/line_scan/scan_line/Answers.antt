use Rattle.std.proofs.Common.{rules, ◌≡◌, ◌+◌, ◌*◌, ℕ, ◌<◌, ◌≤◌, inl, inr, List, length, get_or, slice_index, slice_get}
use Rattle.std.proofs.Common.{Some, false, IsTrue, arith, refl, sym, ◌∙◌, subst}
use Rattle.std.proofs.lemmas.Bool.{false≢true}
use Rattle.std.proofs.lemmas.List.{length-map}
use Rattle.std.proofs.lemmas.Option.{slice_get-get_or}
use Rattle.timetable.specs.declared.trips.Event.{Event}
use Rattle.trip_lanes.specs.declared.falls.Fall.{Fall}
use Rattle.timetable.specs.declared.views.Call.{Call}
use Rattle.timetable.specs.LineViews.{departures_in, IsAt}
use Rattle.trip_lanes.specs.Cut.{cut}
use Rattle.trip_lanes.specs.Falls.{HasFallen, AreFalls}
use Rattle.trip_lanes.specs.Lane.{lane, labels_in}
use Rattle.trip_lanes.specs.Ranks.{Rides, Ascend}
use Rattle.trip_lanes.specs.Rows.{IsCutViewOf, NoneOvertakes, IsCaught}
use Rattle.trip_lanes.proofs.LoweredStop.{row_lane}
use Rattle.trip_lanes.proofs.TripInOneLane.{lane_falls, marks_then}
use Rattle.trip_lanes.proofs.LineByPositions.{LineAt, at_position, slice_get_row, line_alight, line_pass, line_board}
use Rattle.trip_lanes.proofs.LineByPositions.{line_stay, line_past}
use Rattle.trip_lanes.proofs.FallsCompose.{falls_of_none}
use Rattle.trip_lanes.proofs.line_scan.scan_line.Goals as goal
use Rattle.trip_lanes.proofs.line_scan.scan_line.Goals.{then-call+then-span, else-call}
use Rattle.trip_lanes.proofs.line_scan.scan_line.Goals.{else-call-via-then-call+else-span, else-call-via-else-call}
use Rattle.trip_lanes.proofs.line_scan.scan_line.Goals.{then-call-2+then-fall, else-call-2}
use Rattle.trip_lanes.proofs.line_scan.scan_line.Goals.{else-call-2-via-then-call-2+else-fall}
use Rattle.trip_lanes.proofs.line_scan.scan_line.Goals.{else-call-2-via-else-call-2}

abbrev no_call : Call
no_call = record { stop = record { 0 = 0 }; board = false; alight = false }

abbrev no_fall : Fall
no_fall = record { low = 0; high = 0; top = 0 }

pub loop-position-preserved : goal.loop-position-preserved
loop-position-preserved g c =
    let x = c.loop-position.position in
    let lanes = g.R.LaneLabels.LANES in
    let never = g.R.LaneLabels.NEVER in
    let base = c.args.line.base in
    let labels = g.R.LaneLabels.labels in
    let now = labels_in labels c.args.labels.ready.now in
    let calls = c.args.line.calls.now in
    let times = c.args.line.times.now in
    let here = get_or calls x no_call in
    let at_x : slice_get calls x ≡ Some here = slice_get-get_or calls x no_call c.loop-position-test.true in
    let old = c.loop-position.invariant in
    let stop : here.stop.0 < length c.args.ride.now = c.requires.stops x no_call c.loop-position-test.true in
    let fall : Fall = get_or c.args.labels.falls.now here.stop.0 no_fall in
    let at_fall : slice_get c.args.labels.falls.now here.stop.0 ≡ Some fall =
    slice_get-get_or c.args.labels.falls.now here.stop.0 no_fall (omega (arith, c.requires.falls)) in
    let told : (rows : List (List Event)) → IsCutViewOf base never rows calls times →
    IsCutViewOf base c.NEVER-in-loop-position.result rows calls times =
    λ rows view. rw c.NEVER-in-loop-position.ensures view in
    let got_off : (rows : List (List Event)) → IsCutViewOf base never rows calls times →
    length rows ≡ c.args.line.trips → NoneOvertakes rows →
    (k : ℕ) (before : List ℕ) → k < lanes → AreFalls before (lane k now) c.args.labels.falls.now →
    LineAt before (lane k now) rows c.args.from x (x + 1) (lane k (labels_in labels c.args.ride.now))
    (lane k (labels_in labels c.if-call.ride)) (Rides never (labels c.loop-position.run) k) =
    λ rows view size order k before h are.
    let ready = lane k now in
    elim c.if-call.branch [
      | then-call+then-span w ↦ rw w.ride-is (line_alight before ready rows c.args.from never x here.stop.0
          (slice_index (labels w.arrivals.result) k) order
          (λ r e at. sym (view.stop r x e here at at_x))
          (λ r e at. subst IsTrue (view.alight r x e here at at_x) w.if-call.true)
          (omega (
            arith,
            stop,
            old.stops,
            length-map (labels_in labels c.loop-position.ride) (λ v. slice_index v k),
            length-map c.loop-position.ride labels,
          ))
          (λ r on.
          let e = at_position base never rows calls times view r x (omega (arith, old.ranks k r h on, size))
          c.loop-position-test.true in
          let least = w.arrivals.ensures.least k r h on in
          let is = (told rows view).arrival r x e.0 e.1 in
          (e.0, e.1, omega (arith, least, is)))
          (elim (w.arrivals.ensures.some k h) [
            | inl out ↦ inl out
            | inr who ↦ inr (who.0, who.1, λ e at. who.2 ∙ (told rows view).arrival who.0 x e at)
          ])
          (λ p. let f = old.fell k p h in let l = c.requires.fits k p h in omega arith)
          (old.lanes rows view size order k before h are) (w.lower_row.ensures.lanes k h))
      | else-call w ↦ rw w.ride-is (elim w.else-call.branch [
        | else-call-via-then-call+else-span w' ↦
            line_pass before ready rows c.args.from x (λ q r e on at may. let n = w'.if-span.false in
            let f = old.spans.from k q h on in let b = old.spans.below k q h on in
            omega arith) (old.lanes rows view size order k before h are)
        | else-call-via-else-call w' ↦ line_pass before ready rows c.args.from x
            (λ q r e on at may. false≢true (sym w'.if-call.false ∙ (view.alight r x e here at at_x ∙ may)))
            (old.lanes rows view size order k before h are)
      ])
    ] in
    -- nobody gets on where nobody may, or where the labels of the stop did not fall
    let nobody : (rows : List (List Event)) → IsCutViewOf base never rows calls times →
    (k : ℕ) (before : List ℕ) → AreFalls before (lane k now) c.args.labels.falls.now →
    (IsTrue here.board → fall.low < fall.top → ⊥) → (r : ℕ) → IsCaught before (lane k now) rows r x → ⊥ =
    λ rows view k before are out r on.
    let at_stop = view.stop r x on.on here on.from at_x in
    let soon = rw (← at_stop) at on.in_time in
    let fresh = rw (← at_stop) at on.fresh in
    let f = are.fall here.stop.0 fall at_fall in
    let low = f.low (omega arith) in
    let top = f.top (omega arith) in
    out (subst IsTrue (sym (view.board r x on.on here on.from at_x)) on.may_board) (omega arith) in
    record {
      stops = elim c.if-call.branch [ then-call+then-span w ↦ search rules | else-call w ↦ search rules ];
      ranks = elim c.if-call-2.branch [
        | then-call-2+then-fall w ↦ rw w.run-is w.board_position-run.ensures.ranks
        | else-call-2 w ↦ rw w.run-is old.ranks
      ];
      runs = elim c.if-call-2.branch [
        | then-call-2+then-fall w ↦ rw w.run-is w.board_position-run.ensures.fits
        | else-call-2 w ↦ rw w.run-is old.runs
      ];
      spans = elim c.if-call-2.branch [
        | then-call-2+then-fall w ↦ rw (w.run-is, w.span-is) w.span-span.ensures.spans
        | else-call-2 w ↦ rw (w.run-is, w.span-is) old.spans
      ];
      ends = elim c.if-call-2.branch [
        | then-call-2+then-fall w ↦ rw w.span-is
            (w.span-span.ensures.ends c.args.line.trips w.board_position-run.ensures.ranks)
        | else-call-2 w ↦ rw w.span-is old.ends
      ];
      fell = λ k p h. elim c.if-call.branch [
        | then-call+then-span w ↦ rw w.ride-is (
            let a = old.fell k p h in
            let b = lane_falls (lane k (labels_in labels c.loop-position.ride))
            (lane k (labels_in labels w.lower_row.new.labels)) (w.lower_row.ensures.lanes k h) p in
            omega arith)
        | else-call w ↦ rw w.ride-is (old.fell k p h)
      ];
      marks = elim c.if-call.branch [
        | then-call+then-span w ↦ rw (
          w.ride-is,
          w.marked-is,
        ) (marks_then (labels_in labels c.args.ride.now) (labels_in labels c.loop-position.ride)
            (labels_in labels w.lower_row.new.labels) c.args.marked.now c.loop-position.marked w.lower_row.new.marked
            (λ l p h. old.fell l p h)
            (λ l p h. lane_falls (lane l (labels_in labels c.loop-position.ride))
            (lane l (labels_in labels w.lower_row.new.labels)) (w.lower_row.ensures.lanes l h) p)
            old.marks w.lower_row.ensures.marks)
        | else-call w ↦ rw (w.ride-is, w.marked-is) old.marks
      ];
      lanes = λ rows view size order k before h are.
          let ready = lane k now in
          elim c.if-call-2.branch [
            | then-call-2+then-fall w ↦
                let event : (r : ℕ) → r < length rows → (e : Event) × IsAt rows r x e =
                λ r below. at_position base never rows calls times view r x below c.loop-position-test.true in
                let up : Ascend (λ r. cut base c.NEVER-in-loop-position.result
                (slice_index (departures_in times) (r * length calls + x))) c.args.line.trips = λ r s le below.
                let e = event r (omega (arith, size)) in
                let f = event s (omega (arith, size)) in
                let d = (told rows view).departure r x e.0 e.1 in
                let d' = (told rows view).departure s x f.0 f.1 in
                let o = order.depart r s x e.0 f.0 le e.1 f.1 in
                omega arith in
                let is = get_or c.args.labels.ready.now here.stop.0 w.index-labels-stop.result in
                let read : slice_index ready here.stop.0 ≡ slice_index (labels is) k =
                row_lane labels c.args.labels.ready.now here.stop.0 k is w.index-labels-stop.result refl
                (omega (arith, c.requires.ready)) in
                let fallen : HasFallen (slice_index before here.stop.0) (slice_index (labels is) k) fall =
                rw read at (are.fall here.stop.0 fall at_fall) in
                rw w.run-is (line_board before ready rows c.args.from x
                (λ r on. elim (w.board_position-run.ensures.sound k r h on) [
                  | inl o ↦ inl o
                  | inr b ↦
                      let below : r < length rows = omega (arith, w.board_position-run.ensures.ranks k r h on, size) in
                      let e = event r below in
                      let d = (told rows view).departure r x e.0 e.1 in
                      let soon : slice_index ready here.stop.0 ≤ e.0.depart = omega (arith, b, read) in
                      inr (record {
                        j = x;
                        on = e.0;
                        below = omega arith;
                        from = e.1;
                        may_board = subst IsTrue (view.board r x e.0 here e.1 at_x) w.if-call-2.true;
                        in_time = rw (← view.stop r x e.0 here e.1 at_x) soon;
                      })
                ])
                (λ r on. w.board_position-run.ensures.kept k r h on)
                (λ r on.
                let w' = slice_get_row rows r x on.on on.from in
                let d = (told rows view).departure r x on.on on.from in
                let at_stop = view.stop r x on.on here on.from at_x in
                let soon = rw (← at_stop) at on.in_time in
                let fresh = rw (← at_stop) at on.fresh in
                w.board_position-run.ensures.caught k r (slice_index before here.stop.0) h up fallen (omega (
                  arith,
                  size,
                  w',
                )) (record { in_time = omega (arith, soon, d, read); fresh = omega (arith, fresh, d) }))
                (got_off rows view size order k before h are))
            | else-call-2 w ↦ rw w.run-is (line_stay before ready rows c.args.from x
                (nobody rows view k before are (elim w.else-call-2.branch [
                  | else-call-2-via-then-call-2+else-fall w' ↦ (λ may low. let n = w'.if-fall.false in omega arith)
                  | else-call-2-via-else-call-2 w' ↦ (λ may low. false≢true (sym w'.if-call-2.false ∙ may))
                ])) (got_off rows view size order k before h are))
          ];
    }

pub returns-clause-lanes : goal.returns-clause-lanes
returns-clause-lanes g c rows view size order l h =
    let ready = lane l (labels_in g.R.LaneLabels.labels c.args.labels.ready.now) in
    (c.loop-position.invariant.lanes rows view size order l ready h
    (falls_of_none ready c.args.labels.falls.now)).falls

pub returns-clause-caught : goal.returns-clause-caught
returns-clause-caught g c rows view size order l r j before h are low caught =
    line_past before (lane l (labels_in g.R.LaneLabels.labels c.args.labels.ready.now)) rows c.args.from
    c.loop-position.position (length c.args.line.calls.now) view.positions c.loop-position-test.false
    (c.loop-position.invariant.lanes rows view size order l before h are) r j low caught
