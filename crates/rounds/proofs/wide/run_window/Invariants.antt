use Rattle.std.proofs.Common.{ℕ, ◌-◌, ◌*◌, ◌<◌, ◌≤◌, length}
use Rattle.timetable.specs.declared.least.TheConstants.{NEVER}
use Rattle.timetable.specs.Least.{IsLeastOrNever}
use Rattle.timetable.specs.Journeys.{IsDuration}
use Rattle.rounds.specs.Batches.{AreBounds, IsBoundingDeparture, departure_at}
use Rattle.rounds.specs.Table.{label_of}
use Rattle.rounds.specs.Query.{IsWorkspaceFor}
use Rattle.rounds.specs.Searches.{HaveRoom}
use Rattle.rounds.proofs.wide.run_window.Given as goal

abbrev pub invariant-loop-i : goal.invariant-loop-i
invariant-loop-i v =
    record {
      workspace : IsWorkspaceFor v.query.network.now.stops v.query.lines.now v.workspace;
      room : HaveRoom v.query v.minutes v.labels;
      departure : IsBoundingDeparture v.query (16 * (v.batches - v.i)) v.bounds.departure;
      bounds : v.i < v.batches → AreBounds NEVER v.query v.bounds.departure v.bounds.rounds.items;
      each : (p j : ℕ) → p < v.query.network.now.stops → 16 * (v.batches - v.i) ≤ j →
          j < length v.query.times.now →
          IsLeastOrNever (IsDuration v.query.network.now v.query.origin.0 (departure_at v.query j) v.query.rides p)
          (label_of v.minutes v.labels p j);
    }
