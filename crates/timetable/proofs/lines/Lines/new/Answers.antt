use Rattle.std.proofs.Common.{◌∙◌, ap}
use Rattle.timetable.specs.FlatLists.{lists_of}
use Rattle.timetable.specs.Lines.{AreLines}
use Rattle.timetable.proofs.LineLayout.{views_of_lines}
use Rattle.timetable.proofs.lines.Lines.new.Goals as goal

pub boarded_of-requires-clause-lines : goal.boarded_of-requires-clause-lines
boarded_of-requires-clause-lines c = rw (c.in_ok-lines.ensures
    ∙ ap lists_of c.deref-2.ensures.value) c.in_ok-grouped.ensures

pub views_of-requires : goal.views_of-requires
views_of-requires c =
    let lined : AreLines c.args.trips.now c.in_ok-lines.lines =
    rw (c.in_ok-lines.ensures ∙ ap lists_of c.deref-2.ensures.value) c.in_ok-grouped.ensures in
    record { lines = lined.line }

pub returns : goal.returns
returns c =
    let trips = c.args.trips.now in
    let lined : AreLines trips c.in_ok-lines.lines =
    rw (c.in_ok-lines.ensures ∙ ap lists_of c.deref-2.ensures.value) c.in_ok-grouped.ensures in
    record {
      lines = lined;
      boarded = rw (c.in_ok-boarded.ensures ∙ ap lists_of c.deref-3.ensures.value) c.in_ok-positions.ensures;
      viewed = views_of_lines trips c.in_ok-lines.lines c.in_ok-boarded.boarded c.in_ok-calls.calls c.in_ok-times.times
          lined.line
          (rw (c.in_ok-calls.ensures ∙ ap lists_of c.deref-4.ensures.value) c.in_ok-views.ensures.calls)
          (rw (c.in_ok-times.ensures ∙ ap lists_of c.deref-5.ensures.value) c.in_ok-views.ensures.times);
    }

pub grouped-requires-clause-all : goal.grouped-requires-clause-all
grouped-requires-clause-all c = rw c.deref.ensures.value c.in_ok-order.ensures.all
