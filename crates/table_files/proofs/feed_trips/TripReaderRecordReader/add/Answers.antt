use Rattle.std.proofs.Common.{◌≡◌, ◌∙◌, false, Some, position, arith, sym, true, None, inl, refl, nat_le, length}
use Rattle.std.proofs.lemmas.Result.{err_from_is_err_and}
use Rattle.std.specs.List.{list_any}
use Rattle.std.specs.Str.{bytes_eq}
use Rattle.csv.specs.Records.{fields_of}
use Rattle.table_records.specs.declared.fault.FileName.TheVariants as file
use Rattle.table_records.specs.declared.fault.What.TheVariants as what
use Rattle.std.proofs.lemmas.Bool.{le-leb, lt-leb}
use Rattle.table_records.specs.Fields.{is_empty}
use Rattle.table_files.specs.FeedTrips.{TripRow, checks, row_at}
use Rattle.table_records.proofs.RowFacts.{is_old, tells_row}
use Rattle.table_files.proofs.FeedTripFacts.{no_fault, trips_more}
use Rattle.table_files.proofs.NewIds.{empty_length, is_new}
use Rattle.table_files.proofs.feed_trips.TripReaderRecordReader.add.Goals as goal

pub returns-clause-good : goal.returns-clause-good
returns-clause-good c start before at is =
    let routes = c.args.self.now.routes.now in
    let r : TripRow = row_at c.args.self.now.columns (fields_of c.args.row.now) in
    let some : is_empty r.route ≡ false = rw c.field-route.ensures at (sym (empty_length c.field-route.result.now)
    ∙ sym c.is_empty.ensures ∙ c.if-is_empty.false) in
    let route : Some c.in-Some.route ≡ position (bytes_eq r.route) routes =
    rw c.field-route.ensures at c.in-Some.ensures in
    let served : is_empty r.service ≡ false =
    rw c.field-service.ensures at (sym (empty_length c.field-service.result.now) ∙ sym c.is_empty-2.ensures
    ∙ c.if-is_empty-2.false) in
    let named : is_empty r.id ≡ false = rw c.field-id.ensures at (sym (empty_length c.field-id.result.now)
    ∙ sym c.is_empty-3.ensures ∙ c.if-is_empty-3.false) in
    let new : list_any (bytes_eq r.id) c.args.table.now.ids ≡ false =
    rw c.field-id.ensures at (is_new c.in_ok-push.field-0 c.if-not-branch.false _ c.in_ok-push.ensures.added) in
    let (none, number) = no_fault routes before r c.in-Some.route (omega arith) some route served named
    (rw is.ids at new) in (
      none,
      trips_more routes start.services c.args.table.now _ before r _ is (rw (
        c.if-not-branch.false,
        c.field-id.ensures,
      ) at c.in_ok-push.ensures.ids)
          (rw c.field-service.ensures at c.in_ok-service.ensures.named) c.in_ok-push-2.ensures.items number
          (rw c.field-service.ensures at c.in_ok-service.ensures.number),
    )

pub returns-then-at-clause-fault : goal.returns-then-at-clause-fault
returns-then-at-clause-fault c start before at is =
    let r : TripRow = row_at c.args.self.now.columns (fields_of c.args.row.now) in
    let full : nat_le 1000000 (length before) ≡ true = le-leb _ _ (omega (arith, at, c.if-at.true)) in
    tells_row file.Trips (checks c.args.self.now.routes.now) before r what.TooMany c.at.result
    c.args.at c.at.ensures at (rw full refl)

pub returns-then-is_empty-clause-fault : goal.returns-then-is_empty-clause-fault
returns-then-is_empty-clause-fault c start before at is =
    let r : TripRow = row_at c.args.self.now.columns (fields_of c.args.row.now) in
    let room : nat_le 1000000 (length before) ≡ false = lt-leb _ _ (omega (arith, at, c.if-at.false)) in
    let none : is_empty r.route ≡ true = rw c.field-route.ensures at (sym (empty_length c.field-route.result.now)
    ∙ sym c.is_empty.ensures ∙ c.if-is_empty.true) in
    tells_row file.Trips (checks c.args.self.now.routes.now) before r what.EmptyId c.at-then-is_empty.result
    c.args.at c.at-then-is_empty.ensures at (rw (room, none) refl)

pub returns-in_default-clause-fault : goal.returns-in_default-clause-fault
returns-in_default-clause-fault c start before at is =
    let r : TripRow = row_at c.args.self.now.columns (fields_of c.args.row.now) in
    let room : nat_le 1000000 (length before) ≡ false = lt-leb _ _ (omega (arith, at, c.if-at.false)) in
    let some : is_empty r.route ≡ false = rw c.field-route.ensures at (sym (empty_length c.field-route.result.now)
    ∙ sym c.is_empty.ensures ∙ c.if-is_empty.false) in
    let none : None ≡ position (bytes_eq r.route) c.args.self.now.routes.now =
    rw c.field-route.ensures at c.in_default.ensures in
    tells_row file.Trips (checks c.args.self.now.routes.now) before r what.UnknownRoute c.at-in_default.result
    c.args.at c.at-in_default.ensures at (rw (room, some, ← none) refl)

pub returns-then-is_empty-2-clause-fault : goal.returns-then-is_empty-2-clause-fault
returns-then-is_empty-2-clause-fault c start before at is =
    let r : TripRow = row_at c.args.self.now.columns (fields_of c.args.row.now) in
    let room : nat_le 1000000 (length before) ≡ false = lt-leb _ _ (omega (arith, at, c.if-at.false)) in
    let some : is_empty r.route ≡ false = rw c.field-route.ensures at (sym (empty_length c.field-route.result.now)
    ∙ sym c.is_empty.ensures ∙ c.if-is_empty.false) in
    let route : Some c.in-Some.route ≡ position (bytes_eq r.route) c.args.self.now.routes.now =
    rw c.field-route.ensures at c.in-Some.ensures in
    let none : is_empty r.service ≡ true = rw c.field-service.ensures at (sym (empty_length c.field-service.result.now)
    ∙ sym c.is_empty-2.ensures ∙ c.if-is_empty-2.true) in
    tells_row file.Trips (checks c.args.self.now.routes.now) before r what.EmptyId c.at-then-is_empty-2.result
    c.args.at c.at-then-is_empty-2.ensures at (rw (room, some, ← route, none) refl)

pub returns-then-is_empty-3-clause-fault : goal.returns-then-is_empty-3-clause-fault
returns-then-is_empty-3-clause-fault c start before at is =
    let r : TripRow = row_at c.args.self.now.columns (fields_of c.args.row.now) in
    let room : nat_le 1000000 (length before) ≡ false = lt-leb _ _ (omega (arith, at, c.if-at.false)) in
    let some : is_empty r.route ≡ false = rw c.field-route.ensures at (sym (empty_length c.field-route.result.now)
    ∙ sym c.is_empty.ensures ∙ c.if-is_empty.false) in
    let route : Some c.in-Some.route ≡ position (bytes_eq r.route) c.args.self.now.routes.now =
    rw c.field-route.ensures at c.in-Some.ensures in
    let served : is_empty r.service ≡ false =
    rw c.field-service.ensures at (sym (empty_length c.field-service.result.now) ∙ sym c.is_empty-2.ensures
    ∙ c.if-is_empty-2.false) in
    let none : is_empty r.id ≡ true = rw c.field-id.ensures at (sym (empty_length c.field-id.result.now)
    ∙ sym c.is_empty-3.ensures ∙ c.if-is_empty-3.true) in
    tells_row file.Trips (checks c.args.self.now.routes.now) before r what.EmptyId c.at-then-is_empty-3.result
    c.args.at c.at-then-is_empty-3.ensures at (rw (room, some, ← route, served, none) refl)

pub returns-in_err-push-clause-fault : goal.returns-in_err-push-clause-fault
returns-in_err-push-clause-fault c =
    let (e, is, memory) = err_from_is_err_and c.from_residual.result c.from_residual.ensures.1 in
    rw is (λ start before at are. inl memory)

pub returns-then-not-branch-clause-fault : goal.returns-then-not-branch-clause-fault
returns-then-not-branch-clause-fault c start before at is =
    let r : TripRow = row_at c.args.self.now.columns (fields_of c.args.row.now) in
    let room : nat_le 1000000 (length before) ≡ false = lt-leb _ _ (omega (arith, at, c.if-at.false)) in
    let some : is_empty r.route ≡ false = rw c.field-route.ensures at (sym (empty_length c.field-route.result.now)
    ∙ sym c.is_empty.ensures ∙ c.if-is_empty.false) in
    let route : Some c.in-Some.route ≡ position (bytes_eq r.route) c.args.self.now.routes.now =
    rw c.field-route.ensures at c.in-Some.ensures in
    let served : is_empty r.service ≡ false =
    rw c.field-service.ensures at (sym (empty_length c.field-service.result.now) ∙ sym c.is_empty-2.ensures
    ∙ c.if-is_empty-2.false) in
    let named : is_empty r.id ≡ false = rw c.field-id.ensures at (sym (empty_length c.field-id.result.now)
    ∙ sym c.is_empty-3.ensures ∙ c.if-is_empty-3.false) in
    let old : list_any (bytes_eq r.id) c.args.table.now.ids ≡ true =
    rw c.field-id.ensures at (is_old c.in_ok-push.field-0 c.if-not-branch.true _ c.in_ok-push.ensures.added) in
    let again = rw is.ids at old in
    tells_row file.Trips (checks c.args.self.now.routes.now) before r what.DuplicateId c.at-then-not-branch.result
    c.args.at c.at-then-not-branch.ensures at (rw (room, some, ← route, served, named, again) refl)

pub returns-in_err-service-clause-fault : goal.returns-in_err-service-clause-fault
returns-in_err-service-clause-fault c =
    let (e, is, memory) = err_from_is_err_and c.from_residual-in_err-service.result
    c.from_residual-in_err-service.ensures.1 in
    rw is (λ start before at are. inl memory)

pub returns-in_err-push-2-clause-fault : goal.returns-in_err-push-2-clause-fault
returns-in_err-push-2-clause-fault c =
    let (e, is, memory) = err_from_is_err_and c.from_residual-in_err-push-2.result
    c.from_residual-in_err-push-2.ensures.1 in
    rw is (λ start before at are. inl memory)
