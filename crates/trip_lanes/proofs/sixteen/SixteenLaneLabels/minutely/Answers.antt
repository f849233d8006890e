use Rattle.std.proofs.Common.{ℕ, arith}
use Rattle.std.proofs.lemmas.Simd.{get_or-replicate}
use Rattle.trip_lanes.proofs.sixteen.SixteenLaneLabels.minutely.Goals as goal

pub loop-l-init : goal.loop-l-init
loop-l-init c = record {
  done = λ k none. absurd (omega (arith, none));
  rest = λ k from below. get_or-replicate {A = ℕ} 16 k 65535 0 below;
}
