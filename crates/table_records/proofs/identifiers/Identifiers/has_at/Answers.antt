use Rattle.std.proofs.Common.{◌∙◌, sym}
use Rattle.table_records.proofs.DistinctTexts.{position_here, same_bytes}
use Rattle.table_records.proofs.identifiers.Identifiers.has_at.Goals as goal

pub returns-then-number-ids : goal.returns-then-number-ids
returns-then-number-ids c here =
    let keys = c.self.inside.set.keys in
    let id = c.args.id.now in
    let text = c.index-ids-number.result in
    let at = rw c.as_slice-ids.ensures.keys at c.index-ids-number.is in
    let within = rw c.as_slice-ids.ensures.keys at c.if-number-ids.true in
    rw (← c.self.view_is) (position_here (λ v. v.items) keys c.args.number text id c.as_slice-ids.ensures.unique within
    at
    (same_bytes text.items id (sym c.as_slice.ensures.value ∙ c.are_equal.ensures here)))
