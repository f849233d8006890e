use Rattle.std.proofs.Common.{◌≡◌, ◌≢◌, ◌<◌, ◌^◌, ℕ, [], length, slice_index, slice_index_or}
use Rattle.shares.specs.Planes.{block, has, mask}
use Rattle.shares.proofs.planes.fill_word.Given as goal

abbrev pub invariant-loop-b : goal.invariant-loop-b
invariant-loop-b l = record {
  rows : (i : ℕ) → i < length l.planes → length (slice_index_or l.planes i []) ≡ 23;
  same : length l.planes ≡ 33;
  plane : (k : ℕ) → k < l.b → slice_index (slice_index_or l.planes k []) l.word
      ≡ mask (has (2 ^ k)) (block l.lanes l.word);
  all : slice_index (slice_index_or l.planes 32 []) l.word ≡ mask (has 0) (block l.lanes l.word);
  kept : (k w : ℕ) → w ≢ l.word → slice_index (slice_index_or l.planes k []) w
      ≡ slice_index (slice_index_or l.fn.planes k []) w;
}
