use Rattle.std.proofs.Common.{◌≡◌, ℕ, ◌+◌, ◌<◌, ◌≤◌, ◌⊎◌, length, slice_index}
use Rattle.rounds.proofs.narrow.write_bases.Given as goal

abbrev pub invariant-loop-l : goal.invariant-loop-l
invariant-loop-l v =
    record {
      same : length v.bases ≡ length v.initial.bases;
      written : (k : ℕ) → k < v.l → slice_index v.bases (v.from + k) ≡ v.base;
      kept : (j : ℕ) → (j < v.from) ⊎ (v.from + v.l ≤ j) → slice_index v.bases j ≡ slice_index v.initial.bases j;
    }
