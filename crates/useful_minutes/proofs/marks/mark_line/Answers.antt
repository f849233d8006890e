use Rattle.std.proofs.Common.{ℕ, ◌*◌, length, ◌∙◌, ap, arith}
use Rattle.useful_minutes.proofs.LineEvents.{row_long}
use Rattle.useful_minutes.proofs.MarkedLines.{boardings_inside, calls_in_range, line_covers, times_of_line}
use Rattle.useful_minutes.proofs.marks.mark_line.Goals as goal
use Rattle.useful_minutes.proofs.marks.mark_line.Goals.{then-len-gt0, else-len-gt0}

pub boardings_of-requires : goal.boardings_of-requires
boardings_of-requires c =
    let n = c.requires.walks.0 in
    let has = c.requires.walks.2 in
    let lines = c.args.lines.now in
    let v = times_of_line n lines has.lined c.args.line c.calls_of-calls.result.now c.calls_of-calls.ensures in
    record {
      stops = calls_in_range n c.requires.walks.1 c.args.nearby.walks.now has.ok has.walked lines has.lined c.args.line
          v.row c.calls_of-calls.result.now v.times v.at v.view;
      inner = has.noted.long;
    }

pub mark_trips-requires-clause-size : goal.mark_trips-requires-clause-size
mark_trips-requires-clause-size c =
    let has = c.requires.walks.2 in
    let row = c.trips_of-trips.result.now in
    let view = has.lined.viewed.view c.args.line row c.calls_of-calls.result.now c.times_of.result.now
    c.trips_of-trips.ensures c.calls_of-calls.ensures c.times_of.ensures in
    view.size ∙ ap (λ (k : ℕ). k * length c.calls_of-calls.result.now) (row_long c.requires.walks.0.trips row)

pub mark_trips-requires-clause-inside : goal.mark_trips-requires-clause-inside
mark_trips-requires-clause-inside c =
    let has = c.requires.walks.2 in
    let row = c.trips_of-trips.result.now in
    let calls = c.calls_of-calls.result.now in
    let times = c.times_of.result.now in
    let view = has.lined.viewed.view c.args.line row calls times c.trips_of-trips.ensures c.calls_of-calls.ensures
    c.times_of.ensures in
    let bs = c.in_ok-boardings.boardings.items in
    rw c.deref.ensures.value (boardings_inside c.requires.walks.0 c.requires.walks.1 c.args.nearby.walks.now has.ok
    has.walked c.args.lines.now has.lined c.args.line row calls times c.trips_of-trips.ensures view
    c.args.nearby.inner.now has.noted bs c.in_ok-boardings.ensures)

pub returns-clause-covers : goal.returns-clause-covers
returns-clause-covers c n origin has =
    let lines = c.args.lines.now in
    let line : ℕ = c.args.line in
    let row = c.trips_of-trips.result.now in
    let calls = c.calls_of-calls.result.now in
    let bs = c.in_ok-boardings.boardings.items in
    elim c.if-len-gt0.branch [
      | then-len-gt0 w ↦
          let times = w.times_of.result.now in
          let view = has.lined.viewed.view line row calls times c.trips_of-trips.ensures c.calls_of-calls.ensures
          w.times_of.ensures in
          rw w.marks-is (line_covers n origin c.args.nearby.walks.now has.ok has.walked lines has.lined line row calls
          times c.trips_of-trips.ensures view c.args.nearby.inner.now has.noted bs c.in_ok-boardings.ensures
          c.args.first w.mark_trips.new.marks (rw w.deref.ensures.value at w.mark_trips.ensures.covers))
      | else-len-gt0 w ↦
          let v = times_of_line n lines has.lined line calls c.calls_of-calls.ensures in
          line_covers n origin c.args.nearby.walks.now has.ok has.walked lines has.lined line v.row calls v.times v.at
          v.view c.args.nearby.inner.now has.noted bs c.in_ok-boardings.ensures c.args.first c.if-len-gt0.marks
          (λ r l k j seconds m inside here caught.
          absurd (omega (arith, inside, w.if-len-gt0.false, c.len.ensures, c.in_ok-boardings.boardings.ok.0)))
    ]
