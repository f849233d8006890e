use Rattle.std.proofs.Common.{◌≡◌, ◌∙◌, sym, ap, length, get_or, map}
use Rattle.timetable.specs.FlatLists.{lists_of}
use Rattle.timetable.specs.Lines.{IsLine}
use Rattle.timetable.specs.LineViews.{events_of, call_of, IsCalls, IsTimes}
use Rattle.timetable.proofs.KnownParts.{all_at}
use Rattle.timetable.proofs.ListsAddedTo.{lists_of_push}
use Rattle.timetable.proofs.LineLayout.{for_more, row_long, events_read}
use Rattle.timetable.proofs.views.views_of.Goals as goal

pub times_of-requires : goal.times_of-requires
times_of-requires c =
    record {
      in_range = (all_at (IsLine c.args.trips.now) c.args.lines.now c.loop-number.number c.list-line.result.now
          c.requires.lines c.list-line.ensures).in_range;
    }

pub loop-number-preserved : goal.loop-number-preserved
loop-number-preserved c =
    let trips = c.args.trips.now in
    let lines = c.args.lines.now in
    let n = c.loop-number.number in
    let row = c.list-line.result.now in
    let its = all_at (IsLine trips) lines n row c.requires.lines c.list-line.ensures in
    let first = its.in_range 0 0 its.some in
    let read : events_of trips (get_or row 0 0) ≡ c.as_slice.result.now =
    events_read trips (get_or row 0 0) c.index-trips-line.result first ∙ sym c.as_slice.ensures in
    let calls : IsCalls trips row c.in_ok-line_calls.line_calls.items =
    c.in_ok-line_calls.ensures ∙ ap (map call_of) (sym read) in
    let times : IsTimes trips row c.in_ok-line_times.line_times.items =
    c.in_ok-line_times.ensures (length (events_of trips (get_or row 0 0)))
    (row_long trips row its c.index-trips-line.result) in
    record {
      calls = rw (c.in_ok-push.ensures.items, lists_of_push c.loop-number.calls.items c.in_ok-line_calls.line_calls)
          (for_more (IsCalls trips) n lines (lists_of c.loop-number.calls.items) row c.in_ok-line_calls.line_calls.items
          c.loop-number.invariant.calls c.list-line.ensures calls);
      times = rw (c.in_ok-push-2.ensures.items, lists_of_push c.loop-number.times.items c.in_ok-line_times.line_times)
          (for_more (IsTimes trips) n lines (lists_of c.loop-number.times.items) row c.in_ok-line_times.line_times.items
          c.loop-number.invariant.times c.list-line.ensures times);
    }
