use Rattle.std.proofs.Common.{◌≡◌, map, take, true}
use Rattle.std.specs.List.{list_all}
use Rattle.scenarios.specs.Moving.{arriving}
use Rattle.scenarios.specs.Networks.{is_event_on_axis, moved_event}
use Rattle.scenarios.proofs.moving.moved_events.Given as goal

abbrev pub invariant-loop-position : goal.invariant-loop-position
invariant-loop-position l = record {
  made : l.made.items ≡ map (moved_event l.fn.seconds) (take l.position (arriving l.departs l.events));
  axis : list_all (is_event_on_axis l.fn.seconds) (take l.position (arriving l.departs l.events)) ≡ true;
}
