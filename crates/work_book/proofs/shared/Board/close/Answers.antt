use Rattle.work_book.proofs.NewAndClosedBoards.{closes}
use Rattle.work_book.proofs.shared.Board.close.Goals as goal

pub returns-clause-closes : goal.returns-clause-closes
returns-clause-closes c = closes _ _ _ _ _ c.args.self.key.0 c.args.self.key.1 c.close_with-words.ensures.values.2
