use Rattle.std.proofs.Common.{ℕ}
use Rattle.std.proofs.lemmas.Simd.{get_or-replicate}
use Rattle.trip_lanes.proofs.sixteen.SixteenLaneLabels.all.Goals as goal

pub returns : goal.returns
returns c l h = get_or-replicate {A = ℕ} 16 l c.args.label 0 h
