use Rattle.std.proofs.Common.{rules, ◌≡◌, ℕ, [], length, slice_get, get_or, Some, arith}
use Rattle.std.proofs.lemmas.Option.{slice_get-get_or, slice_get_within}
use Rattle.timetable.specs.LineViews.{rows_of_line}
use Rattle.trip_lanes.specs.Rows.{IsCaught}
use Rattle.trip_lanes.specs.Lane.{lane, labels_in}
use Rattle.trip_lanes.proofs.NothingLowerStays.{nothing_lowers}
use Rattle.trip_lanes.proofs.TripInOneLane.{lane_falls, marks_then}
use Rattle.rounds.specs.Cut.{cut_trips}
use Rattle.rounds.proofs.CutNetworks.{cut_lines, cut_boarded, cut_at_got}
use Rattle.rounds.proofs.LineByLine.{one_line, line_settled}
use Rattle.rounds.proofs.LinesSuffice.{lines_carry, none_catches, catches_from}
use Rattle.rounds.proofs.scan.scan_lines.Goals as goal
use Rattle.rounds.proofs.scan.scan_lines.Goals.{then-first-calls_of, else-first-calls_of}

pub scan_trips-requires-clause-fits : goal.scan_trips-requires-clause-fits
scan_trips-requires-clause-fits g c l p h =
    let old = lane l (labels_in g.R.LaneLabels.labels c.args.ride.now) in
    let now = lane l (labels_in g.R.LaneLabels.labels c.loop-i.ride) in
    let f = c.requires.fits l p h in
    let low = lane_falls old now (c.loop-i.invariant.lanes l h) p in
    omega arith

pub scan_trips-requires-clause-before : goal.scan_trips-requires-clause-before
scan_trips-requires-clause-before g c row at l h =
    let base = c.args.round.base in
    let cap = g.R.LaneLabels.NEVER in
    let trips = c.args.round.trips.now in
    let lists = c.args.round.lines.now in
    let are = c.requires.lines in
    let stops = length c.args.ride.now in
    let was = c.requires.before l h in
    let old = lane l (labels_in g.R.LaneLabels.labels c.args.ride.now) in
    let now = lane l (labels_in g.R.LaneLabels.labels c.loop-i.ride) in
    let lower = c.loop-i.invariant.lanes l h in
    record {
      before = was.before;
      fell = was.fell;
      first = λ r j caught. catches_from (cut_trips base cap trips) lists.lines
          (cut_lines base cap trips lists.lines are.lines) c.loop-i.i row at was.before
          (lane l (labels_in g.R.LaneLabels.labels c.args.round.labels.ready.now))
          stops lists.boarded (cut_boarded base cap stops trips lists.lines lists.boarded are.boarded)
          c.args.round.labels.falls.now c.args.due.now (omega arith) was.fell c.requires.noted r j caught;
      settled = line_settled was.before (cut_trips base cap trips) row old now lower.same_length
          (lane_falls old now lower) was.settled;
    }

pub loop-i-preserved : goal.loop-i-preserved
loop-i-preserved g c =
    let old = c.loop-i.invariant in
    let x = c.loop-i.i in
    let lists = c.args.round.lines.now in
    let base = c.args.round.base in
    let cap = g.R.LaneLabels.NEVER in
    let are = c.requires.lines in
    let trips = cut_trips base cap c.args.round.trips.now in
    let cut_are = cut_lines base cap c.args.round.trips.now lists.lines are.lines in
    let line = get_or lists.lines x [] in
    let at_x : slice_get lists.lines x ≡ Some line = slice_get-get_or lists.lines x [] (omega arith) in
    let start = labels_in g.R.LaneLabels.labels c.args.ride.now in
    let mid = labels_in g.R.LaneLabels.labels c.loop-i.ride in
    record {
      same = elim c.if-first-calls_of.branch [
        | then-first-calls_of w ↦ search rules
        | else-first-calls_of w ↦ search rules
      ];
      marked = elim c.if-first-calls_of.branch [
        | then-first-calls_of w ↦ search rules
        | else-first-calls_of w ↦ search rules
      ];
      lanes = λ k l. elim c.if-first-calls_of.branch [
        | then-first-calls_of w ↦
            rw w.ride-is (one_line (lane k (labels_in g.R.LaneLabels.labels c.args.round.labels.ready.now)) trips
            lists.lines x
            line at_x (old.lanes k l) (w.scan_trips.ensures.lanes line at_x k l))
        | else-first-calls_of w ↦
            let was = c.requires.before k l in
            let before = was.before in
            let ready = lane k (labels_in g.R.LaneLabels.labels c.args.round.labels.ready.now) in
            let now = lane k mid in
            let settled = line_settled before trips line (lane k start) now (old.lanes k l).same_length
            (lane_falls (lane k start) now (old.lanes k l)) was.settled in
            let view = are.viewed.view x line c.calls_of.result.now (get_or lists.times x []) at_x c.calls_of.ensures
            (slice_get-get_or lists.times x [] (omega (arith, are.viewed.times_size))) in
            let stops = length c.args.ride.now in
            let outside : (r j : ℕ) → IsCaught before ready (rows_of_line trips line) r j → ⊥ = λ r j caught.
            let low = catches_from trips lists.lines cut_are x line at_x before ready stops lists.boarded
            (cut_boarded base cap stops c.args.round.trips.now lists.lines lists.boarded are.boarded)
            c.args.round.labels.falls.now c.args.due.now (omega arith) was.fell
            c.requires.noted r j caught in
            let own = cut_at_got base cap c.args.round.trips.now line r j caught.on caught.from in
            let inside = slice_get_within own.1.row j own.0 own.1.event in
            let long = view.positions r own.1.row own.1.trip in
            let past = w.if-first-calls_of.false in
            omega arith in
            let none = none_catches trips lists.lines cut_are x line at_x before ready outside now settled in
            rw w.ride-is (one_line ready trips lists.lines x line at_x (old.lanes k l) (nothing_lowers now none))
      ];
      marks = elim c.if-first-calls_of.branch [
        | then-first-calls_of w ↦
            let end = labels_in g.R.LaneLabels.labels w.scan_trips.new.ride in
            rw (w.ride-is, w.marked-is) (marks_then start mid end c.args.marked.now c.loop-i.marked
            w.scan_trips.new.marked
            (λ l p h. lane_falls (lane l start) (lane l mid) (old.lanes l h) p)
            (λ l p h. lane_falls (lane l mid) (lane l end) (w.scan_trips.ensures.lanes line at_x l h) p)
            old.marks w.scan_trips.ensures.marks)
        | else-first-calls_of w ↦ rw (w.ride-is, w.marked-is) old.marks
      ];
    }

pub returns-clause-lanes : goal.returns-clause-lanes
returns-clause-lanes g c l h =
    let base = c.args.round.base in
    let cap = g.R.LaneLabels.NEVER in
    let trips = c.args.round.trips.now in
    let lists = c.args.round.lines.now in
    lines_carry (cut_trips base cap trips) lists.lines (cut_lines base cap trips lists.lines c.requires.lines.lines)
    (lane l (labels_in g.R.LaneLabels.labels c.args.round.labels.ready.now)) c.loop-i.i (omega arith)
    (c.loop-i.invariant.lanes l h)
