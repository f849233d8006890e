use Rattle.std.proofs.Common.{◌≡◌, ◌+◌, drop}
use Rattle.std.specs.Prelude.{option_map}
use Rattle.trip_events.specs.Fill.{nearest}
use Rattle.trip_events.proofs.fill.nearest.Given as goal

abbrev pub invariant-loop-stop_time : goal.invariant-loop-stop_time
invariant-loop-stop_time l =
    (l.untimed ≡ l.stop_time-index) × (nearest l.trip_times
    ≡ option_map (λ n. record {
      times = n.times;
      untimed = n.untimed + l.stop_time-index;
    }) (nearest (drop l.stop_time-index l.trip_times)))
