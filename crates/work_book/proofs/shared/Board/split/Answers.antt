use Rattle.std.proofs.Common.{rules}
use Rattle.work_book.proofs.SplitsAndJoinsKeepTheRule.{splits}
use Rattle.work_book.proofs.shared.Board.split.Goals as goal

pub split_seat-other-requires : goal.split_seat-other-requires
split_seat-other-requires c = (search rules, search rules, splits _ _ _ c.requires.share)
