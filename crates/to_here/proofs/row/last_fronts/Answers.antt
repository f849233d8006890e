use Rattle.std.proofs.Common.{◌≡◌, ◌<◌, ◌+◌, inl, inr, ℕ, [], ◌∷◌, length, slice_index, sym, ◌∙◌, ap, subst, arith}
use Rattle.std.proofs.lemmas.Bool.{cases_eq}
use Rattle.std.proofs.lemmas.List.{get_or_append_left, get_or_push, length_push}
use Rattle.to_here.specs.Front.{IsFrontOf}
use Rattle.to_here.proofs.row.last_fronts.Goals as goal

pub loop-label-preserved : goal.loop-label-preserved
loop-label-preserved c =
    let old = c.loop-label.lasts.items in
    let front = c.front_of.result in
    let is = c.in_ok-push.ensures.items in
    let w = c.args.window in
    let end = c.args.end in
    let labels = c.args.labels.now in
    let here = c.loop-label.label-index in
    record {
      count = ap length is ∙ (length_push old front ∙ ap (λ n. n + 1) c.loop-label.invariant.count);
      each = λ o l. elim (cases_eq o here) [
        | inl e ↦
            let at : slice_index c.push.new.self.items o ≡ front =
            ap (λ xs. slice_index xs o) is
            ∙ get_or_push old front 0 o (omega (arith, c.loop-label.invariant.count, e)) in
            subst (IsFrontOf w end (slice_index labels o)) (sym at)
            (subst (λ (a : ℕ). IsFrontOf w end (slice_index labels a) front) (sym e) c.front_of.ensures)
        | inr other ↦
            let low : o < length old = omega (arith, l, other, c.loop-label.invariant.count) in
            let at : slice_index c.push.new.self.items o ≡ slice_index old o =
            ap (λ xs. slice_index xs o) is ∙ get_or_append_left old (front ∷ []) 0 o low in
            subst (IsFrontOf w end (slice_index labels o)) (sym at)
            (c.loop-label.invariant.each o (omega (arith, l, other)))
      ];
    }
