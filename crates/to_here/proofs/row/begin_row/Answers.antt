use Rattle.std.proofs.Common.{◌≡◌, ◌+◌, ◌∙◌, inl, inr, [], All, ap, sym, subst, length, slice_get, Some}
use Rattle.std.proofs.lemmas.List.{length_push}
use Rattle.std.proofs.lemmas.List.Elements.{All-push}
use Rattle.timetable.proofs.ListsAddedTo.{get_cases}
use Rattle.to_here.specs.declared.row.OriginDurations.{OriginDurations}
use Rattle.to_here.specs.Front.{IsFront}
use Rattle.to_here.specs.Row.{IsOriginOf}
use Rattle.to_here.proofs.row.begin_row.Goals as goal

pub loop-preserved : goal.loop-preserved
loop-preserved c =
    let w = c.args.window in
    let old = c.loop.row.items in
    let y : OriginDurations = record { front = 0; durations = c.in_ok-no_durations.field-0 } in
    let is = c.in_ok-push.ensures.items in
    let starts = c.in_ok-no_durations.ensures in
    let origin : IsOriginOf w y = record { minutes = starts.minutes; within = starts.within } in
    record {
      count = ap length is ∙ (length_push old y ∙ ap (λ n. n + 1) c.loop.invariant.count);
      origins = subst (All (IsOriginOf w)) (sym is) (All-push (IsOriginOf w) old y c.loop.invariant.origins origin);
      fronts = λ o x h. elim (get_cases old y o x (subst (λ xs. slice_get xs o ≡ Some x) is h)) [
        | inl was ↦ c.loop.invariant.fronts o x was
        | inr new ↦
            subst (λ (z : OriginDurations). IsFront w [] [] z.front z.durations.items) (sym new.1) starts
      ];
    }
