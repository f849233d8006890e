use Rattle.std.proofs.Common.{◌≡◌, ◌≤◌, ◌*◌, ℕ, List, length, sym, ◌∙◌, ap, subst}
use Rattle.std.proofs.lemmas.Option.{same_Some}
use Rattle.timetable.specs.RoundSteps.{Lowers}
use Rattle.timetable.proofs.KnownParts.{all_at}
use Rattle.timetable.specs.LineViews.{rows_of_line}
use Rattle.trip_lanes.specs.Lane.{lane, labels_in}
use Rattle.rounds.specs.Cut.{cut_trips}
use Rattle.rounds.specs.Scan.{CarriesLine}
use Rattle.rounds.proofs.CutNetworks.{cut_line, cut_stops, cut_none_overtakes, table_view}
use Rattle.rounds.proofs.LinesSuffice.{line_at}
use Rattle.rounds.proofs.TripsAsRows.{rows_long, line_scanned, call_stops}
use Rattle.rounds.proofs.scan.scan_trips.Goals as goal

pub scan_line-requires-clause-times : goal.scan_line-requires-clause-times
scan_line-requires-clause-times g c =
    let trips = c.args.round.trips.now in
    let line = c.trips_of-row.result.now in
    let are = c.requires.lines in
    let is = line_at trips c.args.round.lines.now.lines are.lines c.args.line line c.trips_of-row.ensures in
    let view = are.viewed.view c.args.line line c.calls_of-calls.result.now c.times_of-times.result.now
    c.trips_of-row.ensures c.calls_of-calls.ensures c.times_of-times.ensures in
    view.size ∙ ap (λ (k : ℕ). k * length c.calls_of-calls.result.now) (rows_long trips line is)

pub scan_line-requires-clause-stops : goal.scan_line-requires-clause-stops
scan_line-requires-clause-stops g c =
    let base = c.args.round.base in
    let cap = g.R.LaneLabels.NEVER in
    let trips = c.args.round.trips.now in
    let line = c.trips_of-row.result.now in
    let stops = length c.args.ride.now in
    let lines = c.args.round.lines.now in
    let are = c.requires.lines in
    let is = cut_line base cap trips line (line_at trips lines.lines are.lines c.args.line line c.trips_of-row.ensures)
    in
    call_stops (cut_trips base cap trips) line is base cap stops (cut_stops base cap stops trips c.requires.stops)
    c.calls_of-calls.result.now c.times_of-times.result.now
    (table_view base cap stops trips lines are c.args.line line c.trips_of-row.ensures c.calls_of-calls.result.now
    c.times_of-times.result.now c.calls_of-calls.ensures c.times_of-times.ensures)

pub scan_line-requires-clause-few : goal.scan_line-requires-clause-few
scan_line-requires-clause-few g c = all_at (λ (row : List ℕ). length row
    ≤ g.R.LaneLabels.NEVER) c.args.round.lines.now.lines c.args.line c.trips_of-row.result.now c.requires.short
    c.trips_of-row.ensures

pub returns-clause-lanes : goal.returns-clause-lanes
returns-clause-lanes g c row at l h =
    let base = c.args.round.base in
    let cap = g.R.LaneLabels.NEVER in
    let trips = cut_trips base cap c.args.round.trips.now in
    let line = c.trips_of-row.result.now in
    let lines = c.args.round.lines.now in
    let are = c.requires.lines in
    let whole = line_at c.args.round.trips.now lines.lines are.lines c.args.line line c.trips_of-row.ensures in
    let is = cut_line base cap c.args.round.trips.now line whole in
    let view = table_view base cap (length c.args.ride.now) c.args.round.trips.now lines are c.args.line line
    c.trips_of-row.ensures c.calls_of-calls.result.now c.times_of-times.result.now c.calls_of-calls.ensures
    c.times_of-times.ensures in
    let rows = rows_of_line trips line in
    let long = rows_long trips line is in
    let order = cut_none_overtakes base cap c.args.round.trips.now line whole in
    let was = c.requires.before line c.trips_of-row.ensures l h in
    let ready = lane l (labels_in g.R.LaneLabels.labels c.args.round.labels.ready.now) in
    let old = lane l (labels_in g.R.LaneLabels.labels c.args.ride.now) in
    let new = lane l (labels_in g.R.LaneLabels.labels c.scan_line.new.ride) in
    let same : line ≡ row = same_Some line row (sym c.trips_of-row.ensures ∙ at) in
    subst (λ (x : List ℕ). Lowers (CarriesLine ready trips x) old new) same
    (line_scanned trips line is c.args.first was.before ready old new was.first was.settled
    (c.scan_line.ensures.lanes rows view long order l h)
    (λ r j low k. c.scan_line.ensures.caught rows view long order l r j was.before h was.fell low k))
