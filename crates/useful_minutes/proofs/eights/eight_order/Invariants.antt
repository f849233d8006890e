use Rattle.std.proofs.Common.{◌≡◌, ℕ, ◌+◌, ◌-◌, ◌*◌, ◌/◌, ◌%◌, ◌<◌, ◌≤◌, ◌⊎◌, length, slice_index}
use Rattle.useful_minutes.proofs.eights.eight_order.Given as goal

abbrev pub invariant-loop-byte : goal.invariant-loop-byte
invariant-loop-byte v =
    record {
      size : length v.order ≡ 16;
      taken : (i : ℕ) → i < v.byte → 8 * v.group + i / 2 < v.minutes → slice_index v.order i
          ≡ 2 * (slice_index v.positions (8 * v.group + i / 2) - slice_index v.positions (8 * v.group)) + i % 2;
      none : (i : ℕ) → i < 16 → (v.byte ≤ i) ⊎ (v.minutes ≤ 8 * v.group + i / 2) → slice_index v.order i ≡ 128;
    }
