use Rattle.std.proofs.Common.{◌≡◌, ◌≤◌, ◌++◌, drop, None}
use Rattle.std.specs.Prelude.{IfSome}
use Rattle.trip_events.specs.Fill.{nearest}
use Rattle.trip_events.proofs.FillFacts.{filled_on}
use Rattle.trip_events.proofs.fill.with_between.Given as goal

abbrev pub invariant-loop-i : goal.invariant-loop-i
invariant-loop-i l =
    (l.next ≡ nearest (drop l.i l.trip_times))
    × (l.events.items ++ filled_on l.before (drop l.i l.trip_times) ≡ filled_on None l.trip_times)
    × IfSome l.before (λ n. n.untimed ≤ l.i)
