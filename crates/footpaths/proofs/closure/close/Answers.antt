use Rattle.std.proofs.Common.{◌≡◌, ◌∙◌}
use Rattle.timetable.specs.Footpaths.{rows_of}
use Rattle.footpaths.proofs.ClosuresAreFeet.{no_fault}
use Rattle.footpaths.proofs.closure.close.Goals as goal

pub unreachable-requires : goal.unreachable-requires
unreachable-requires c =
    let same : c.in_ok-changes.changes.items ≡ c.args.direct.now.changes =
    c.in_ok-changes.ensures.items ∙ c.changes.ensures in
    no_fault c.args.direct.now c.args.limit c.stops.result (record {
      walks = rows_of c.in_ok-lists.lists.items;
      changes = c.args.direct.now.changes;
    }) _ c.known.ensures c.stops.ensures c.requires c.in_ok-lists.ensures.ok
    (rw same at c.in-Err.ensures.fault)
