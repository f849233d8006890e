use Rattle.std.proofs.Common.{◌≡◌, ◌<◌, ◌+◌, inl, inr, ℕ, [], ◌∷◌, length, slice_index, sym, ◌∙◌, ap, subst, arith}
use Rattle.std.proofs.lemmas.Bool.{cases_eq}
use Rattle.std.proofs.lemmas.List.{get_or_append_left, get_or_push, length_push}
use Rattle.rounds.specs.LatestFirst.{IsLaneDuration}
use Rattle.to_here.proofs.search.first_lanes.Goals as goal

pub loop-o-preserved : goal.loop-o-preserved
loop-o-preserved c =
    let old = c.loop-o.labels.items in
    let label = slice_index c.lanes_of-lanes.result 0 in
    let is = c.in_ok-push.ensures.items in
    let s = c.args.search.now in
    let here = c.loop-o.o in
    record {
      count = ap length is ∙ (length_push old label ∙ ap (λ n. n + 1) c.loop-o.invariant.count);
      each = λ o l. elim (cases_eq o here) [
        | inl e ↦
            let at : slice_index c.push.new.self.items o ≡ label =
            ap (λ xs. slice_index xs o) is ∙ get_or_push old label 0 o (omega (arith, c.loop-o.invariant.count, e)) in
            subst (IsLaneDuration s o 0) (sym at)
            (subst (λ (a : ℕ). IsLaneDuration s a 0 label) (sym e) (c.lanes_of-lanes.ensures 0 (omega arith)))
        | inr other ↦
            let low : o < length old = omega (arith, l, other, c.loop-o.invariant.count) in
            let at : slice_index c.push.new.self.items o ≡ slice_index old o =
            ap (λ xs. slice_index xs o) is ∙ get_or_append_left old (label ∷ []) 0 o low in
            subst (IsLaneDuration s o 0) (sym at) (c.loop-o.invariant.each o (omega (arith, l, other)))
      ];
    }
