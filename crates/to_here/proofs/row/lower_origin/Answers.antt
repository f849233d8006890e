use Rattle.std.proofs.Common.{◌≡◌, ◌++◌, ◌∙◌, [], append-nil, ap, arith, drop, length, map, min, take}
use Rattle.std.proofs.lemmas.List.{drop_all, take_all}
use Rattle.to_here.proofs.row.lower_origin.Goals as goal

pub returns : goal.returns
returns c =
    let old = c.args.origin.now.durations in
    let new = c.lower_to_walk.new.durations in
    let same = c.as_mut_slice.ensures.value in
    let long : length new ≡ length old.items = c.lower_to_walk.auto.durations ∙ ap length same in
    let none : drop (length new) old.items ≡ [] = drop_all (length new) old.items (omega (arith, long)) in
    let whole : take old.len (new ++ drop (length new) old.items) ≡ new =
    ap (λ xs. take old.len (new ++ xs)) none
    ∙ (ap (take old.len) (append-nil new) ∙ take_all old.len new (omega (arith, long, old.ok.0))) in
    whole ∙ (c.lower_to_walk.ensures ∙ ap (map (min c.args.walk)) same)
