-- The cell of a share is that of its rank.
use Rattle.std.proofs.Common.{◌≤◌, ◌+◌, ◌*◌, ◌/◌, ℕ, Option, Some, None, arith}
use Rattle.std.proofs.Math.Nat.{mul-le-mul_right}
use Rattle.rounds.specs.Table.{IsLeastOrNone}
use Rattle.shares.specs.Percentiles.{Attains}
use Rattle.label_cells.specs.Durations.{IsCellOf}

pub cell_for_share : (ds : ℕ → Option ℕ) (n share : ℕ) (cell : Option ℕ) →
    IsCellOf ds n ((share * n + 99) / 100) cell → IsLeastOrNone (Attains ds n share) cell
cell_for_share ds n share None is = λ d a. is d (omega (arith, a))
cell_for_share ds n share (Some cell) is = record {
  holds = (let h = is.holds in omega (arith, h));
  least = λ d a. is.least d (omega (arith, a));
}

-- the rank is at most the number of minutes
pub rank_few : (n share : ℕ) → share ≤ 100 → (share * n + 99) / 100 ≤ n
rank_few n share few =
    let most : share * n ≤ 100 * n = mul-le-mul_right n few in
    omega (arith, most)
