use Rattle.std.proofs.Common.{◌≡◌, ◌<◌, ◌-◌, ◌^◌, length}
use Rattle.shares.proofs.RankBitByBit.{Narrowed}
use Rattle.shares.proofs.planes.descend.Given as goal

abbrev pub invariant-loop-k : goal.invariant-loop-k
invariant-loop-k l = record {
  long : length l.among ≡ 23;
  low : l.value < 2 ^ l.k;
  narrowed : Narrowed l.lanes l.bits (l.bits - l.k) l.value l.left l.size l.rank l.among;
}
