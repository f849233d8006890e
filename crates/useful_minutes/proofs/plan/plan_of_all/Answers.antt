use Rattle.std.proofs.Common.{rules, ◌≡◌, length, replicate, false, true, ap, ◌∙◌, slice_index_or, List, Bool}
use Rattle.std.proofs.lemmas.List.{get_or-replicate, length-replicate}
use Rattle.useful_minutes.proofs.SearchedMinutes.{searches_all}
use Rattle.useful_minutes.proofs.plan.plan_of_all.Goals as goal

pub returns-clause-all : goal.returns-clause-all
returns-clause-all c =
    let plan = c.in_ok-plan.ensures in
    let minutes = c.args.minutes in
    let marks : c.as_slice.result.now ≡ replicate minutes true =
    c.as_slice.ensures.value ∙ c.in_ok-marks.ensures.items_if_clones_equal (λ y h. search rules) in
    let long : length c.as_slice.result.now ≡ minutes = ap length marks ∙ length-replicate minutes true in
    searches_all minutes c.args.lanes c.as_slice.result.now _ _ _ long
    (λ m l. ap (λ (xs : List Bool). slice_index_or xs m false) marks ∙ get_or-replicate minutes m true false l)
    plan.marked (rw long at plan.plan)
