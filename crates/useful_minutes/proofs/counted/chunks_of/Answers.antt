use Rattle.std.proofs.Common.{◌≡◌, ◌+◌, ◌++◌, ◌∷◌, [], ℕ, inl, inr, sym, ap, ◌∙◌, subst, arith, length, slice_index_or}
use Rattle.std.proofs.lemmas.Bool.{cases_lt}
use Rattle.std.proofs.lemmas.List.{length_push, get_or_append_left, get_or-append-add}
use Rattle.useful_minutes.specs.declared.counted.Chunk.{Chunk}
use Rattle.useful_minutes.specs.CountedChunks.{IsChunk}
use Rattle.useful_minutes.proofs.counted.chunks_of.Goals as goal

pub loop-chunk-preserved : goal.loop-chunk-preserved
loop-chunk-preserved c =
    let old = c.loop-chunk.invariant in
    let chunks = c.loop-chunk.chunks.items in
    let at = c.loop-chunk.chunk in
    let chunk : Chunk = record {
      early = c.source_of.result;
      late = c.source_of-in-loop-chunk.result;
      more = c.more_of.result;
    } in
    let is : IsChunk c.args.counting at chunk = record {
      early = c.source_of.ensures;
      late = c.source_of-in-loop-chunk.ensures;
      more = c.more_of.ensures;
    } in
    rw c.in_ok-push.ensures.items (record {
      count = omega (arith, length_push chunks chunk, old.count);
      each = λ n none l. elim (cases_lt n at) [
        | inl lt ↦ subst (IsChunk c.args.counting n)
            (sym (get_or_append_left chunks (chunk ∷ []) none n (omega (arith, lt, old.count)))) (old.each n none lt)
        | inr ge ↦
            let e : length chunks + 0 ≡ n = omega (arith, ge, l, old.count) in
            let here : slice_index_or (chunks ++ chunk ∷ []) n none ≡ chunk =
            ap (λ (i : ℕ). slice_index_or (chunks ++ chunk ∷ []) i none) (sym e)
            ∙ get_or-append-add chunks (chunk ∷ []) 0 none in
            let same : at ≡ n = omega (arith, ge, l) in
            subst (λ (i : ℕ). IsChunk c.args.counting i (slice_index_or (chunks ++ chunk ∷ []) n none)) same
            (subst (IsChunk c.args.counting at) (sym here) is)
      ];
    })
