use Rattle.std.proofs.Common.{◌≡◌, ◌≤◌, ◌*◌, ℕ, List, Option, take}
use Rattle.shares.specs.Opportunities.{access_of}
use Rattle.shares.specs.Percentiles.{AreCells}
use Rattle.shares.proofs.opportunities.access_at.Given as goal

abbrev pub invariant-loop-i : goal.invariant-loop-i
invariant-loop-i l = record {
  sum : (cells : List (Option ℕ)) → AreCells l.durations l.share cells →
      l.sum ≡ access_of (take l.i cells) (take l.i l.opportunities) l.within;
  bound : l.sum ≤ l.i * 4294967295;
}
