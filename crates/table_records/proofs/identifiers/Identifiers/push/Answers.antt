use Rattle.std.proofs.Common.{◌≡◌, ◌∙◌, true, sym, ap}
use Rattle.std.proofs.lemmas.Result.{err_from_is_err_and}
use Rattle.std.specs.Prelude.{not}
use Rattle.std.specs.List.{list_any}
use Rattle.std.specs.Str.{bytes_eq}
use Rattle.table_records.proofs.MappedTests.{list_any-map}
use Rattle.table_records.proofs.identifiers.Identifiers.push.Goals as goal

pub returns-in_err-insert-in-Ok-clause-absent : goal.returns-in_err-insert-in-Ok-clause-absent
returns-in_err-insert-in-Ok-clause-absent c =
    let items = c.in-Ok.ensures.items in
    let (e, is, same_error) = err_from_is_err_and c.from_residual.result c.from_residual.ensures.1 in
    rw (is, ← c.self.view_is, ← items) (list_any-map (λ v. v.items) (bytes_eq c.in-Ok.copy.items) c.self.inside.set.keys
    ∙ c.in_err-insert-in-Ok.ensures.absent)

pub returns-in_ok-insert-in-Ok-clause-added : goal.returns-in_ok-insert-in-Ok-clause-added
returns-in_ok-insert-in-Ok-clause-added c =
    let items = c.in-Ok.ensures.items in
    rw (← c.self.view_is, ← items) (c.in_ok-insert-in-Ok.ensures.added
    ∙ ap not (sym (list_any-map (λ v. v.items) (bytes_eq c.in-Ok.copy.items) c.self.inside.set.keys)))

pub returns-in-Err-clause-added : goal.returns-in-Err-clause-added
returns-in-Err-clause-added c =
    let here : true ≡ list_any (λ v. bytes_eq c.args.id.now v.items) c.self.inside.set.keys =
    sym c.if-contains.true ∙ c.contains.ensures in
    rw (← c.self.view_is) (ap not (here ∙ sym
    (list_any-map (λ v. v.items) (bytes_eq c.args.id.now) c.self.inside.set.keys)))

pub returns-in-Err-2-clause-absent : goal.returns-in-Err-2-clause-absent
returns-in-Err-2-clause-absent c =
    rw (← c.self.view_is) (list_any-map (λ v. v.items) (bytes_eq c.args.id.now) c.self.inside.set.keys
    ∙ sym c.contains.ensures ∙ c.if-contains.false)
