use Rattle.std.proofs.Common.{◌≡◌, ℕ, ◌<◌, [], length, slice_index_or}
use Rattle.useful_minutes.specs.Orders.{IsOrder}
use Rattle.useful_minutes.proofs.orders.orders_of.Given as goal

abbrev pub invariant-loop-group : goal.invariant-loop-group
invariant-loop-group v =
    record {
      count : length v.orders.items ≡ v.group;
      each : (k : ℕ) → k < v.group → IsOrder v.positions k (slice_index_or v.orders.items k []);
    }
