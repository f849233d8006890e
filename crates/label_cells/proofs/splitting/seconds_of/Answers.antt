use Rattle.std.proofs.Common.{arith}
use Rattle.label_cells.proofs.LaneSums.{rest_at}
use Rattle.label_cells.proofs.splitting.seconds_of.Goals as goal

pub returns : goal.returns
returns c l h = rest_at 16 c.args.shortest c.args.whole l h (omega arith) (omega arith) (c.requires.whole l h)
    (c.requires.fits l h)
