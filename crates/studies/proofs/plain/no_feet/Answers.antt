use Rattle.std.proofs.Common.{◌≡◌, replicate, rules, subst}
use Rattle.timetable.specs.Faults.{IsFeetFault}
use Rattle.timetable.specs.Footpaths.{FeetData, rows_of}
use Rattle.studies.proofs.NoFootpaths.{none_among, no_feet_in_range, no_feet_within}
use Rattle.studies.proofs.OnlyMemoryRefuses.{memory_alone_feet}
use Rattle.studies.proofs.plain.no_feet.Goals as goal

pub only_memory-requires : goal.only_memory-requires
only_memory-requires c =
    let stops = c.args.stops in
    let asked : FeetData = record {
      walks = rows_of c.in_ok-lists.lists.items;
      changes = c.in_ok-changes.changes.items;
    } in
    let none : c.in_ok-changes.changes.items ≡ replicate stops 0 =
    c.in_ok-changes.ensures.items_if_clones_equal (λ y h. search rules) in
    let same : asked ≡ none_among stops = λ k. record { walks = c.in_ok-lists.ensures k; changes = none k } in
    memory_alone_feet c.in-Err.fault stops _ (no_feet_in_range stops) (no_feet_within stops c.requires)
    (subst (λ (feet : FeetData). IsFeetFault c.in-Err.fault stops feet) same c.in-Err.ensures.fault)
