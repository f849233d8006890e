use Rattle.std.proofs.Common.{◌≡◌, ℕ, ◌+◌, ◌*◌, ◌<◌, length, slice_index}
use Rattle.useful_minutes.proofs.waits.stand_ins_of.Given as goal

abbrev pub invariant-loop-part : goal.invariant-loop-part
invariant-loop-part v =
    record {
      size : length v.taken ≡ 16;
      done : (k : ℕ) → k < 4 * v.part →
          slice_index v.taken k ≡ slice_index v.near (slice_index v.positions (16 * v.chunk + k));
    }
