use Rattle.std.proofs.Common.{◌≡◌, ℕ, ◌<◌, ◌≤◌, slice_index}
use Rattle.rounds.specs.Minutes.{IsSince}
use Rattle.rounds.proofs.plain.count_from.Given as goal

abbrev pub invariant-loop-label : goal.invariant-loop-label
invariant-loop-label l =
    record {
      done : (p : ℕ) → p < l.label-index → IsSince l.depart (slice_index l.initial.labels p) (slice_index l.labels p);
      left : (p : ℕ) → l.label-index ≤ p → slice_index l.labels p ≡ slice_index l.initial.labels p;
    }
