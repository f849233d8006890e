use Rattle.std.proofs.Common.{◌≡◌, ◌<◌, ◌-◌, inl, inr, ℕ, drop, get_or, length, set, slice_get, slice_index, sym}
use Rattle.std.proofs.Common.{◌∙◌, ap, subst, arith}
use Rattle.std.specs.List.{slice_range}
use Rattle.std.proofs.lemmas.Bool.{cases_eq}
use Rattle.std.proofs.lemmas.List.{get_or-take, length-set}
use Rattle.std.proofs.lemmas.List.Elements.{All-set}
use Rattle.std.proofs.lemmas.Option.{same_Some, slice_get-get_or, slice_get_within}
use Rattle.timetable.proofs.ListsAddedTo.{set_other, set_same}
use Rattle.rounds.specs.LatestFirst.{IsLaneDuration}
use Rattle.to_here.specs.declared.row.OriginDurations.{OriginDurations}
use Rattle.to_here.specs.Row.{IsOriginOf}
use Rattle.to_here.specs.Search.{HasTaken}
use Rattle.to_here.proofs.search.advance_batch.Goals as goal

pub loop-o-preserved : goal.loop-o-preserved
loop-o-preserved c =
    let w = c.args.window in
    let s = c.args.search.now in
    let times = c.args.deadlines.now in
    let row = c.loop-o.row in
    let o = c.loop-o.o in
    let new = c.advance_origin.new.origin in
    let width = length times in
    let labels = c.reversed-labels.result in
    let within : o < length row = omega (
      arith,
      c.loop-o-test.true,
      c.stops-o-end.ensures,
      c.requires.stops,
      c.loop-o.invariant.count,
    ) in
    let item : OriginDurations = get_or row o c.index-row-o.result in
    let here = slice_get-get_or row o c.index-row-o.result within in
    let takes : HasTaken w times s o item new = record {
      labels = slice_range labels 0 width;
      each = λ j l.
          let at : slice_index (slice_range labels 0 width) j ≡ slice_index labels j =
          get_or-take (width - 0) (drop 0 labels) j 0 (omega (arith, l)) in
          subst (IsLaneDuration s o (width - 1 - j)) (sym (at ∙ c.reversed-labels.ensures j l))
          (c.lanes_of.ensures (width - 1 - j) (omega (arith, l, c.requires.deadlines)));
      front = c.advance_origin.ensures.front;
    } in
    record {
      count = length-set row o new ∙ c.loop-o.invariant.count;
      origins = All-set (IsOriginOf w) row o new c.advance_origin.ensures.origin c.loop-o.invariant.origins;
      others = λ i x le h.
          c.loop-o.invariant.others i x (omega (arith, le))
          (sym (set_other row o i new (λ e. omega (arith, le, e))) ∙ h);
      taken = λ i x l h. elim (cases_eq i o) [
        | inl e ↦
            let same : new ≡ x =
            same_Some new x (sym (set_same row o new within) ∙ (ap (λ k. slice_get (set row o new) k) (sym e) ∙ h)) in (
              item,
              ap (λ k. slice_get c.args.row.now k) e ∙ c.loop-o.invariant.others o item (omega arith) here,
              subst (λ (k : ℕ). HasTaken w times s k item x) (sym e) (subst (HasTaken w times s o item) same takes),
            )
        | inr other ↦
            c.loop-o.invariant.taken i x (omega (arith, l, other)) (sym (set_other row o i new other) ∙ h)
      ];
    }

pub returns-clause-taken : goal.returns-clause-taken
returns-clause-taken c o x h =
    let within = slice_get_within c.loop-o.row o x h in
    c.loop-o.invariant.taken o x
    (omega (
      arith,
      within,
      c.loop-o-test.false,
      c.loop-o.invariant.count,
      c.stops-o-end.ensures,
      c.requires.stops,
    )) h
