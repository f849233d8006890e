use Rattle.std.proofs.Common.{◌≡◌, ◌≤◌, ◌*◌, slice_index}
use Rattle.rounds.specs.Table.{known_of}
use Rattle.shares.specs.Opportunities.{counted}
use Rattle.label_cells.specs.Sums.{sum_to}
use Rattle.label_cells.proofs.share_cells.sum_within.Given as goal

abbrev pub invariant-loop-p : goal.invariant-loop-p
invariant-loop-p v = record {
  sum : v.sum ≡ sum_to (λ p. counted (known_of (slice_index v.of_stops p)) (slice_index v.opportunities p)
      v.fn.limit) v.p;
  bound : v.sum ≤ v.p * 4294967295;
}
