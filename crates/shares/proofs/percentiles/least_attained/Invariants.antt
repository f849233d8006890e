use Rattle.std.proofs.Common.{◌<◌, ◌≤◌, ◌-◌, ℕ}
use Rattle.rounds.specs.Table.{known_of, label_in}
use Rattle.shares.specs.Percentiles.{Attains}
use Rattle.shares.proofs.percentiles.least_attained.Given as goal

abbrev pub invariant-loop-low : goal.invariant-loop-low
invariant-loop-low l =
    record {
      order : l.low ≤ l.high;
      top : l.high < 4294967295;
      below : (d : ℕ) → d < l.low → Attains (λ m. known_of (label_in l.lanes m)) l.minutes l.share d → ⊥;
      above : Attains (λ m. known_of (label_in l.lanes m)) l.minutes l.share l.high;
    }

abbrev pub decreases-loop-low : goal.decreases-loop-low
decreases-loop-low l = l.high - l.low
