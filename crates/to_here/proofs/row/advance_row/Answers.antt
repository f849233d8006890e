use Rattle.std.proofs.Common.{◌≡◌, ◌<◌, ◌+◌, ◌*◌, ◌++◌, inl, inr, ℕ, length, get_or, set, slice_get, sym}
use Rattle.std.proofs.Common.{◌∙◌, add-one, ap, subst, arith}
use Rattle.std.proofs.Math.Nat.{suc-mul}
use Rattle.std.specs.List.{slice_range}
use Rattle.std.proofs.lemmas.Bool.{cases_eq}
use Rattle.std.proofs.lemmas.List.{length-set}
use Rattle.std.proofs.lemmas.List.Elements.{All-set}
use Rattle.std.proofs.lemmas.Option.{same_Some, slice_get-get_or, slice_get_within}
use Rattle.timetable.proofs.ListsAddedTo.{set_other, set_same}
use Rattle.to_here.specs.declared.row.OriginDurations.{OriginDurations}
use Rattle.to_here.specs.Front.{IsFront}
use Rattle.to_here.specs.Row.{IsOriginOf, labels_for}
use Rattle.to_here.proofs.row.advance_row.Goals as goal

pub loop-o-preserved : goal.loop-o-preserved
loop-o-preserved c =
    let w = c.args.window in
    let row = c.loop-o.row in
    let o = c.loop-o.o in
    let new = c.advance_origin.new.origin in
    let width = length c.args.deadlines.now in
    let within : o < length row = omega (arith, c.loop-o-test.true, c.loop-o.invariant.count) in
    let labels = c.args.labels.now in
    record {
      from =
          ap (λ n. n + width) c.loop-o.invariant.from
          ∙ (sym (suc-mul o width) ∙ ap (λ k. k * width) (sym (add-one o)));
      count = length-set row o new ∙ c.loop-o.invariant.count;
      origins = All-set (IsOriginOf w) row o new c.advance_origin.ensures.origin c.loop-o.invariant.origins;
      others = λ i x le h.
          c.loop-o.invariant.others i x (omega (arith, le))
          (sym (set_other row o i new (λ e. omega (arith, le, e))) ∙ h);
      fronts = λ before labels_before f i x l h. elim (cases_eq i o) [
        | inl e ↦
            let item : OriginDurations = get_or row o c.index-row-o.result in
            let here = slice_get-get_or row o c.index-row-o.result within in
            let was = f o item (c.loop-o.invariant.others o item (omega arith) here) in
            let same : new ≡ x =
            same_Some new x (sym (set_same row o new within) ∙ (ap (λ k. slice_get (set row o new) k) (sym e) ∙ h)) in
            let all = before ++ c.args.deadlines.now in
            subst (λ (z : OriginDurations). IsFront w all (labels_before i ++ labels_for labels width i) z.front
            z.durations.items) same
            (subst (λ (k : ℕ). IsFront w all (labels_before k ++ labels_for labels width k) new.front
            new.durations.items) (sym e)
            (subst (λ (s : ℕ). IsFront w all (labels_before o ++ slice_range labels s (s + width)) new.front
            new.durations.items) c.loop-o.invariant.from (c.advance_origin.ensures.front before (labels_before o) was)))
        | inr other ↦
            c.loop-o.invariant.fronts before labels_before f i x (omega (arith, l, other))
            (sym (set_other row o i new other) ∙ h)
      ];
    }

pub returns-clause-fronts : goal.returns-clause-fronts
returns-clause-fronts c before labels_before f o x h =
    let within = slice_get_within c.loop-o.row o x h in
    c.loop-o.invariant.fronts before labels_before f o x
    (omega (arith, within, c.loop-o-test.false, c.loop-o.invariant.count)) h
