use Rattle.std.proofs.Common.{◌≡◌, ◌<◌, ◌≤◌, ◌&&◌, ℕ, Bool, List, [], cond, not, length, slice_index, slice_index_or}
use Rattle.shares.specs.Planes.{AreMasks, block, mask}
use Rattle.shares.proofs.planes.keep.Given as goal

abbrev pub invariant-loop-word : goal.invariant-loop-word
invariant-loop-word l = record {
  long : length l.among ≡ 23;
  side : l.side ≡ cond l.with 0 18446744073709551615;
  kept : (lanes : List (List ℕ)) (Is Has : ℕ → Bool) →
      ((i : ℕ) → i < length lanes → length (slice_index_or lanes i []) ≡ 16) →
      AreMasks Is lanes l.words l.fn.among → AreMasks Has lanes l.words l.plane → (w : ℕ) → w < l.word →
      slice_index l.among w ≡ mask (λ x. Is x && cond l.with (Has x) (not (Has x))) (block lanes w);
  rest : (w : ℕ) → l.word ≤ w → slice_index l.among w ≡ slice_index l.fn.among w;
}
