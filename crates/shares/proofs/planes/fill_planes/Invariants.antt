use Rattle.std.proofs.Common.{◌≡◌, ◌<◌, ◌^◌, ℕ, [], length, slice_index_or}
use Rattle.shares.specs.Planes.{AreMasks, has}
use Rattle.shares.proofs.planes.fill_planes.Given as goal

abbrev pub invariant-loop-word : goal.invariant-loop-word
invariant-loop-word l = record {
  same : length l.planes ≡ 33;
  plane : (b : ℕ) → b < l.bits → AreMasks (has (2 ^ b)) l.lanes l.word (slice_index_or l.planes b []);
  all : AreMasks (has 0) l.lanes l.word (slice_index_or l.planes 32 []);
}
