use Rattle.std.proofs.Common.{◌≡◌, ℕ, List, Option, map, take}
use Rattle.shares.specs.Opportunities.{access_of}
use Rattle.shares.specs.Percentiles.{AreCells}
use Rattle.workers.proofs.rows.sums_of.Given as goal

abbrev pub invariant-loop-limit : goal.invariant-loop-limit
invariant-loop-limit l = (all : List (Option ℕ)) → AreCells l.durations l.share all →
    l.sums.items ≡ map (λ limit. access_of all l.opportunities limit) (take l.limit-index l.limits)
