use Rattle.std.proofs.Common.{◌≡◌, length, replicate, All}
use Rattle.timetable.specs.declared.least.TheConstants.{NEVER}
use Rattle.rounds.proofs.bounded.no_times.Given as goal

abbrev pub invariant-loop : goal.invariant-loop
invariant-loop l =
    record {
      count : length l.rounds.items ≡ l.counter;
      never : All (λ x. (x.ride.items ≡ replicate l.stops NEVER)
          × (x.ready.items ≡ replicate l.stops NEVER)) l.rounds.items;
    }
