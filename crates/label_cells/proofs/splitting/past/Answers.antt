use Rattle.std.proofs.Common.{get_or, ◌∙◌, arith}
use Rattle.label_cells.proofs.LaneSums.{minus_at, minus_is}
use Rattle.label_cells.proofs.splitting.past.Goals as goal

pub returns : goal.returns
returns c l h = minus_at 16 c.args.one c.args.other l h (omega arith) (omega arith)
    ∙ minus_is (get_or c.args.one l 0) (get_or c.args.other l 0) (c.requires.order l h) (c.requires.fits l h)
