use Rattle.std.proofs.Common.{◌≡◌, ◌+◌, ◌++◌, ◌∷◌, [], ℕ, List, length, slice_index, slice_index_or, inl}
use Rattle.std.proofs.Common.{inr, sym, ap, ◌∙◌, subst, arith}
use Rattle.std.proofs.lemmas.Bool.{cases_lt}
use Rattle.std.proofs.lemmas.List.{length_push, get_or_append_left, get_or-append-add}
use Rattle.rounds.specs.Table.{known_of}
use Rattle.label_cells.specs.Durations.{IsCellOf}
use Rattle.label_cells.proofs.group.push_ranks.Goals as goal

pub loop-k-preserved : goal.loop-k-preserved
loop-k-preserved c =
    let was = c.loop-k.invariant in
    let old = c.loop-k.cells.items in
    let k = c.loop-k.k in
    let new = c.cells_of_rank.result in
    let ranks = c.args.ranks.now in
    let start : ℕ = length c.args.cells.now.items in
    rw c.in_ok-push.ensures.items (record {
      covering = c.cells_of_rank.ensures.size;
      size = omega (arith, length_push old new, was.size);
      kept = λ i l. get_or_append_left old (new ∷ []) [] i (omega (arith, l, was.size)) ∙ was.kept i l;
      added = λ j l minutes ds less h are. elim (cases_lt j k) [
        | inl below ↦
            subst (λ (xs : List ℕ). IsCellOf ds minutes (slice_index ranks j) (known_of (slice_index xs l)))
            (sym (get_or_append_left old (new ∷ []) [] (start + j) (omega (arith, below, was.size))))
            (was.added j l minutes ds below h are)
        | inr ge ↦
            let same : k ≡ j = omega (arith, ge, less) in
            let e : length old + 0 ≡ start + j = omega (arith, same, was.size) in
            let here : slice_index_or (old ++ new ∷ []) (start + j) [] ≡ new =
            ap (λ (i : ℕ). slice_index_or (old ++ new ∷ []) i []) (sym e)
            ∙ get_or-append-add old (new ∷ []) 0 [] in
            subst (λ (xs : List ℕ). IsCellOf ds minutes (slice_index ranks j) (known_of (slice_index xs l))) (sym here)
            (subst (λ (i : ℕ). IsCellOf ds minutes (slice_index ranks i) (known_of (slice_index new l))) same
            (c.cells_of_rank.ensures.cells l minutes ds h are))
      ];
    })
