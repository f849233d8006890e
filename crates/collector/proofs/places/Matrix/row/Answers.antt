use Rattle.std.proofs.Common.{rules, ◌≡◌, ◌+◌, ◌*◌, Some, None, sym, ◌∙◌, subst, length, ◌<◌}
use Rattle.std.specs.List.{slice_get}
use Rattle.std.proofs.lemmas.List.{get_or_default}
use Rattle.collector.specs.Places.{MatrixData}
use Rattle.collector.proofs.Present.{present_at}
use Rattle.collector.proofs.places.Matrix.row.Goals as goal

pub returns : goal.returns
returns c =
    let i = c.self.inside in
    let k = c.args.scenario * i.origins + c.args.origin in
    let there : k < length i.places.items = search rules in
    let at = sym (get_or_default i.places.items k c.index.result.now None there) in
    let here = present_at i.places.items k c.in-Some.row c.self.invariant.2 (at ∙ sym c.index.ensures ∙ c.in-Some.is) in
    subst (λ (m : MatrixData). slice_get m.rows (c.args.scenario * m.origins + c.args.origin)
    ≡ Some c.in-Some.row) c.self.view_is here
