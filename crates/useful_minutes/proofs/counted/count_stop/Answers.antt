use Rattle.std.proofs.Common.{◌≡◌, ◌+◌, ◌*◌, ◌++◌, ◌∷◌, [], ℕ, List, inl, inr, sym, ap, ◌∙◌, subst, arith, length}
use Rattle.std.proofs.Common.{slice_index, slice_index_or}
use Rattle.std.proofs.lemmas.Bool.{cases_lt}
use Rattle.std.proofs.lemmas.List.{length_push, get_or_append_left, get_or-append-add}
use Rattle.useful_minutes.specs.CountedChunks.{IsDurationAt}
use Rattle.useful_minutes.proofs.counted.count_stop.Goals as goal

pub loop-chunk-preserved : goal.loop-chunk-preserved
loop-chunk-preserved c =
    let was = c.loop-chunk.invariant in
    let old = c.loop-chunk.durations.items in
    let chunk = c.loop-chunk.chunk in
    let added = c.durations_at.result in
    let start : ℕ = length c.args.durations.now.items in
    let counting = c.args.counting in
    let stop = c.args.stop in
    rw c.in_ok-push.ensures.items (record {
      size = omega (arith, length_push old added, was.size);
      kept = λ i l. get_or_append_left old (added ∷ []) [] i (omega (arith, l, was.size)) ∙ was.kept i l;
      added = λ n l h lt. elim (cases_lt n chunk) [
        | inl below ↦
            subst (λ (xs : List ℕ). IsDurationAt counting stop (16 * n + l) (slice_index xs l))
            (sym (get_or_append_left old (added ∷ []) [] (start + n) (omega (arith, below, was.size))))
            (was.added n l below lt)
        | inr ge ↦
            let same : chunk ≡ n = omega (arith, ge, h) in
            let e : length old + 0 ≡ start + n = omega (arith, same, was.size) in
            let here : slice_index_or (old ++ added ∷ []) (start + n) [] ≡ added =
            ap (λ (i : ℕ). slice_index_or (old ++ added ∷ []) i []) (sym e)
            ∙ get_or-append-add old (added ∷ []) 0 [] in
            subst (λ (xs : List ℕ). IsDurationAt counting stop (16 * n + l) (slice_index xs l)) (sym here)
            (subst (λ (i : ℕ). IsDurationAt counting stop (16 * i + l) (slice_index added l)) same
            (c.durations_at.ensures l lt))
      ];
    })
