use Rattle.std.proofs.Common.{◌≡◌, ◌<◌, inl, inr, ℕ, [], ◌∷◌, length, slice_index, sym, ◌∙◌, ap, subst, arith}
use Rattle.std.proofs.lemmas.Bool.{cases_eq}
use Rattle.std.proofs.lemmas.List.{get_or_append_left, get_or_push, length_push}
use Rattle.timetable.specs.Least.{IsLeastOrNever}
use Rattle.reversal.specs.Deadlines.{IsWalkAlone}
use Rattle.reversal.proofs.deadlines.walks_to.Goals as goal

pub loop-a-preserved : goal.loop-a-preserved
loop-a-preserved c =
    let old = c.loop-a.walks.items in
    let walk = c.walk_alone.result in
    let is = c.in_ok-push.ensures.items in
    let walks = c.args.feet.now.walks in
    let p = c.args.destination.0 in
    record {
      count = ap length is ∙ (length_push old walk ∙ omega (arith, c.loop-a.invariant.count));
      each = λ b l. elim (cases_eq b c.loop-a.a) [
        | inl e ↦
            let at : slice_index c.push.new.self.items b ≡ walk =
            ap (λ xs. slice_index xs b) is ∙ get_or_push old walk 0 b (omega (arith, c.loop-a.invariant.count, e)) in
            subst (IsLeastOrNever (IsWalkAlone walks b p)) (sym at)
            (subst (λ (a : ℕ). IsLeastOrNever (IsWalkAlone walks a p) walk) (sym e) c.walk_alone.ensures)
        | inr other ↦
            let low : b < length old = omega (arith, l, other, c.loop-a.invariant.count) in
            let at : slice_index c.push.new.self.items b ≡ slice_index old b =
            ap (λ xs. slice_index xs b) is ∙ get_or_append_left old (walk ∷ []) 0 b low in
            subst (IsLeastOrNever (IsWalkAlone walks b p)) (sym at)
            (c.loop-a.invariant.each b (omega (arith, l, other)))
      ];
    }
