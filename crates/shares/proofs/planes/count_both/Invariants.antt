use Rattle.std.proofs.Common.{◌≡◌, ◌≤◌, ◌*◌, ◌&&◌, ℕ, Bool, List}
use Rattle.shares.specs.Planes.{AreMasks, count_of}
use Rattle.shares.proofs.planes.count_both.Given as goal

abbrev pub invariant-loop-word : goal.invariant-loop-word
invariant-loop-word l = record {
  few : l.count ≤ 64 * l.word;
  count : (lanes : List (List ℕ)) (Is Has : ℕ → Bool) → AreMasks Is lanes l.words l.among →
      AreMasks Has lanes l.words l.plane → l.count ≡ count_of (λ x. Is x && Has x) lanes l.word;
}
