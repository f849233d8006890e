use Rattle.std.proofs.Common.{◌≡◌, ◌<◌, ℕ, length, slice_index, take}
use Rattle.footpaths.specs.Changes.{has_stop, longer}
use Rattle.footpaths.proofs.changes.raise.Given as goal

abbrev pub invariant-loop-stop : goal.invariant-loop-stop
invariant-loop-stop l =
    record {
      same : length l.changes ≡ length l.initial.changes;
      raised : (p : ℕ) → p < length l.changes →
          slice_index l.changes p ≡ longer (has_stop p (take l.stop-index l.stops)) (slice_index l.initial.changes p)
          l.seconds;
    }
