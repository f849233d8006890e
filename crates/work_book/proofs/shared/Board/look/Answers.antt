use Rattle.std.proofs.Common.{rules}
use Rattle.work_book.proofs.SettlesKeepTheRule.{looks}
use Rattle.work_book.proofs.shared.Board.look.Goals as goal

pub load-mark-requires : goal.load-mark-requires
load-mark-requires c = (search rules, search rules, looks _ _ _ _ c.args.job (search rules) (search rules))
