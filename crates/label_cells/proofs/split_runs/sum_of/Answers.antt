use Rattle.std.proofs.Common.{arith}
use Rattle.label_cells.proofs.LaneSums.{plus_at}
use Rattle.label_cells.proofs.split_runs.sum_of.Goals as goal

pub returns : goal.returns
returns c l h = plus_at 16 c.args.one c.args.other l h (omega arith) (omega arith) (c.requires l h)
