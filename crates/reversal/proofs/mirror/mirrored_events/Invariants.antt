use Rattle.std.proofs.Common.{◌≡◌, map, take}
use Rattle.reversal.specs.Mirror.{mirrored_event}
use Rattle.reversal.proofs.mirror.mirrored_events.Given as goal

abbrev pub invariant-loop-event : goal.invariant-loop-event
invariant-loop-event l = l.mirrored.items ≡ map (mirrored_event l.horizon) (take l.event-index l.events)
