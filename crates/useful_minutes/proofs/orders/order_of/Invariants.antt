use Rattle.std.proofs.Common.{◌≡◌, ℕ, ◌+◌, ◌-◌, ◌*◌, ◌/◌, ◌%◌, ◌<◌, length, slice_index}
use Rattle.useful_minutes.proofs.orders.order_of.Given as goal

abbrev pub invariant-loop-byte : goal.invariant-loop-byte
invariant-loop-byte v =
    record {
      size : length v.order ≡ 16;
      done : (i : ℕ) → i < v.byte → slice_index v.order i
          ≡ 4 * (slice_index v.positions (4 * v.group + i / 4) - slice_index v.positions (4 * v.group)) + i % 4;
    }
