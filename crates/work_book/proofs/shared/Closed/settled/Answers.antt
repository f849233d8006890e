use Rattle.std.proofs.Common.{[]}
use Rattle.std.specs.Slots.{slots_items}
use Rattle.work_book.proofs.NewAndClosedBoards.{mark_told}
use Rattle.work_book.proofs.shared.Closed.settled.Goals as goal

pub returns : goal.returns
returns c = let closed = c.args.self.now in
    mark_told (record { jobs = closed.jobs; tries = closed.tries }) (slots_items closed.words.words) [] c.args.job
    c.word.result c.word.ensures
