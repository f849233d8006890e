use Rattle.std.proofs.Common.{◌<◌, length, rules, sym, ◌∙◌}
use Rattle.work_book.proofs.DrawnBelow.{some_jobs}
use Rattle.work_book.proofs.plain.Book.may_settle.Goals as goal

pub returns-clause-job : goal.returns-clause-job
returns-clause-job c = λ found.
    let i = c.self.inside in
    let here : c.args.seat < length i.seats.items = search rules in
    let some = some_jobs (record {
      jobs = i.jobs;
      tries = i.tries;
      next = i.next;
      marks = i.marks.items;
      seats = i.seats.items;
    }) c.args.number c.args.seat c.index.result.now c.self.invariant here c.index.ensures
    (sym c.has_drawn.ensures ∙ found) in
    search rules
