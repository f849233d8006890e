use Rattle.std.proofs.Common.{◌≡◌, subst, refl}
use Rattle.timetable.specs.Faults.{IsNetFault}
use Rattle.timetable.specs.Networks.{Net}
use Rattle.studies.specs.MinuteLine.{network_once}
use Rattle.studies.proofs.OnlyMemoryRefuses.{memory_alone_once}
use Rattle.studies.proofs.plain.network_once.Goals as goal

pub only_memory-requires : goal.only_memory-requires
only_memory-requires c =
    let asked : Net = record {
      stops = c.stop_count-stops.result;
      trips = c.in_ok-runs.runs.items;
      feet = c.in_ok-feet.feet;
    } in
    let same : asked ≡ network_once c.args.feed.now =
    rw (c.in_ok-runs.ensures, c.in_ok-feet.ensures, c.stop_count-stops.ensures) refl in
    memory_alone_once c.in-Err.fault c.args.feed.now c.known.ensures
    (subst (IsNetFault c.in-Err.fault) same c.in-Err.ensures.fault)
