use Rattle.std.proofs.Common.{◌≡◌, map, take, slice_index}
use Rattle.timetable.proofs.footpaths.in_order.Given as goal

abbrev pub invariant-loop-position : goal.invariant-loop-position
invariant-loop-position l = l.found.items ≡ map (λ n. slice_index l.items n) (take l.position-index l.order)
