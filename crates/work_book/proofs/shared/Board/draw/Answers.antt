use Rattle.std.proofs.Common.{rules}
use Rattle.work_book.proofs.DrawsKeepTheRule.{draws}
use Rattle.work_book.proofs.shared.Board.draw.Goals as goal

pub fetch_add-number-requires : goal.fetch_add-number-requires
fetch_add-number-requires c = (search rules, search rules, draws _ _ _ _ (search rules) (search rules) (search rules))
