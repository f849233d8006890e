use Rattle.std.proofs.Common.{◌≡◌, ◌++◌, ◌∙◌, [], append-nil, ap, arith, drop, length, subst, sym, take}
use Rattle.std.proofs.lemmas.List.{drop_all, take_all}
use Rattle.to_here.specs.Front.{IsFront}
use Rattle.to_here.proofs.row.advance_origin.Goals as goal

pub returns-clause-front : goal.returns-clause-front
returns-clause-front c before labels_before f =
    let w = c.args.window in
    let old = c.args.origin.now.durations in
    let new = c.advance-origin.new.durations in
    let same = c.as_mut_slice-durations.ensures.value in
    let long : length new ≡ length old.items = c.advance-origin.auto.durations ∙ ap length same in
    let none : drop (length new) old.items ≡ [] = drop_all (length new) old.items (omega (arith, long)) in
    let whole : take old.len (new ++ drop (length new) old.items) ≡ new =
    ap (λ xs. take old.len (new ++ xs)) none
    ∙ (ap (take old.len) (append-nil new) ∙ take_all old.len new (omega (arith, long, old.ok.0))) in
    subst (IsFront w (before ++ c.args.deadlines.now) (labels_before ++ c.args.labels.now) c.advance-origin.result)
    (sym whole)
    (c.advance-origin.ensures.front before labels_before
    (subst (IsFront w before labels_before c.args.origin.now.front) (sym same) f))
