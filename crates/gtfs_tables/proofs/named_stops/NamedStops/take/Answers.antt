use Rattle.std.proofs.Common.{◌≡◌, ◌∙◌, true, false, Some, position, sym}
use Rattle.std.specs.List.{list_any}
use Rattle.std.specs.Str.{bytes_eq}
use Rattle.table_records.specs.Fields.{is_empty}
use Rattle.table_files.proofs.NewIds.{empty_length}
use Rattle.gtfs_tables.proofs.MarkFacts.{fresh, mark_is, marked_more, repeated}
use Rattle.gtfs_tables.proofs.named_stops.NamedStops.take.Goals as goal

pub returns-then-index-clause-fault : goal.returns-then-index-clause-fault
returns-then-index-clause-fault c before are =
    let stops = c.args.feed.now.stops in
    let id = c.args.id.now in
    let marks = c.args.self.now.marks.items in
    let some : is_empty id ≡ false = sym (empty_length id) ∙ sym c.is_empty.ensures ∙ c.if-is_empty.false in
    let here : Some c.in-Some.stop.0 ≡ position (bytes_eq id) stops = c.in-Some.ensures.number in
    let again : list_any (bytes_eq id) before ≡ true =
    sym (mark_is stops marks before c.in-Some.stop.0 id are here c.index.result.now) ∙ sym c.index.ensures
    ∙ c.if-index.true in
    repeated stops before id c.in-Some.stop.0 some here again

pub returns-clause-good : goal.returns-clause-good
returns-clause-good c before are =
    let stops = c.args.feed.now.stops in
    let id = c.args.id.now in
    let marks = c.args.self.now.marks.items in
    let some : is_empty id ≡ false = sym (empty_length id) ∙ sym c.is_empty.ensures ∙ c.if-is_empty.false in
    let here : Some c.in-Some.stop.0 ≡ position (bytes_eq id) stops = c.in-Some.ensures.number in
    let new : list_any (bytes_eq id) before ≡ false =
    sym (mark_is stops marks before c.in-Some.stop.0 id are here c.index.result.now) ∙ sym c.index.ensures
    ∙ c.if-index.false in
    let (none, number) = fresh stops before id c.in-Some.stop.0 some here new in
    (none, number, marked_more stops marks before c.in-Some.stop.0 id are here)
