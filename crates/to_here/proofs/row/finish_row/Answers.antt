use Rattle.std.proofs.Common.{◌≡◌, ◌<◌, inl, inr, ℕ, get_or, length, map, min, set, slice_get, slice_index, sym}
use Rattle.std.proofs.Common.{◌∙◌, ap, arith}
use Rattle.std.proofs.lemmas.Bool.{cases_eq}
use Rattle.std.proofs.lemmas.List.{length-set}
use Rattle.std.proofs.lemmas.Option.{same_Some, slice_get-get_or, slice_get_within}
use Rattle.timetable.proofs.ListsAddedTo.{set_other, set_same}
use Rattle.to_here.specs.declared.row.OriginDurations.{OriginDurations}
use Rattle.to_here.specs.Row.{AreLowered}
use Rattle.to_here.proofs.RowFinished.{row_finished}
use Rattle.to_here.proofs.row.finish_row.Goals as goal

pub loop-o-preserved : goal.loop-o-preserved
loop-o-preserved c =
    let row = c.loop-o.row in
    let o = c.loop-o.o in
    let new = c.lower_origin.new.origin in
    let walks = c.args.walks.now in
    let within : o < length row = omega (arith, c.loop-o-test.true, c.loop-o.invariant.count) in
    record {
      count = length-set row o new ∙ c.loop-o.invariant.count;
      lowered = λ i y l h. elim (cases_eq i o) [
        | inl e ↦
            let item : OriginDurations = get_or row o c.index-row-o.result in
            let here = slice_get-get_or row o c.index-row-o.result within in
            let same : new ≡ y =
            same_Some new y (sym (set_same row o new within) ∙ (ap (λ k. slice_get (set row o new) k) (sym e) ∙ h)) in (
              item,
              ap (λ k. slice_get c.args.row.now k) e ∙ c.loop-o.invariant.others o item (omega arith) here,
              ap (λ (z : OriginDurations). z.durations.items) (sym same)
                  ∙ (c.lower_origin.ensures
                  ∙ ap (λ (k : ℕ). map (min (slice_index walks k)) item.durations.items) (sym e)),
            )
        | inr other ↦
            c.loop-o.invariant.lowered i y (omega (arith, l, other)) (sym (set_other row o i new other) ∙ h)
      ];
      others = λ i x le h.
          c.loop-o.invariant.others i x (omega (arith, le))
          (sym (set_other row o i new (λ e. omega (arith, le, e))) ∙ h);
    }

pub returns-clause-lowered : goal.returns-clause-lowered
returns-clause-lowered c o y h =
    let within = slice_get_within c.loop-o.row o y h in
    c.loop-o.invariant.lowered o y (omega (arith, within, c.loop-o-test.false, c.loop-o.invariant.count)) h

pub returns-clause-finished : goal.returns-clause-finished
returns-clause-finished c =
    let lowered : AreLowered c.args.walks.now c.args.row.now c.loop-o.row = λ o y h.
    let within = slice_get_within c.loop-o.row o y h in
    c.loop-o.invariant.lowered o y (omega (arith, within, c.loop-o-test.false, c.loop-o.invariant.count)) h in
    row_finished c.args.walks.now c.args.row.now c.loop-o.row c.loop-o.invariant.count lowered
