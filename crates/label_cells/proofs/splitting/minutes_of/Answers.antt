use Rattle.std.proofs.Common.{arith}
use Rattle.std.proofs.lemmas.Simd.{Each2-splat, Each1-all}
use Rattle.label_cells.proofs.LaneSums.{over_at}
use Rattle.label_cells.proofs.splitting.minutes_of.Goals as goal

pub nonzero_div-result : goal.nonzero_div-result
nonzero_div-result c = Each2-splat _ c.args.seconds 16 60 (Each1-all _ (λ a. omega arith) c.args.seconds)

pub returns : goal.returns
returns c l h = over_at 16 c.args.seconds 60 l h (omega arith)
