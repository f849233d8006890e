use Rattle.std.proofs.Common.{◌∙◌, ◌<◌, ◌%◌, length, rules, false}
use Rattle.std.proofs.Math.ListN.{set}
use Rattle.work_book.specs.Seat.{without_last_drawn, without_last_kept, as_present}
use Rattle.work_book.specs.Book.{BookState}
use Rattle.work_book.specs.declared.steps.Step.TheVariants.{Draw, Settle, Loss}
use Rattle.work_book.specs.declared.steps.Answer.TheVariants.{Lease, Kept, Lost}
use Rattle.work_book.specs.contracts.plain.Book.{the_view}
use Rattle.work_book.proofs.StepsTakenBack.{may_at, same_back, written_seat}
use Rattle.work_book.proofs.plain.Book.take_back.Goals as goal

pub nonzero_rem-number : goal.nonzero_rem-number
nonzero_rem-number c =
    let may = may_at _ _ _ _ (the_view c.self.inside) (Settle c.in-Settle.seat c.in-Settle.number) Kept c.requires.1
    c.self.view_is c.in-Settle.is c.in-Kept.is in
    may.1

pub index_mut-requires-in-Kept-2 : goal.index_mut-requires-in-Kept-2
index_mut-requires-in-Kept-2 c =
    let may = may_at _ _ _ _ (the_view c.self.inside) (Settle c.in-Settle.seat c.in-Settle.number) Kept c.requires.1
    c.self.view_is c.in-Settle.is c.in-Kept.is in
    let here : c.in-Settle.number % c.self.inside.jobs < length c.self.inside.marks.items = may.2 in
    search rules

pub index_mut-requires-in-Lost : goal.index_mut-requires-in-Lost
index_mut-requires-in-Lost c =
    let here : c.in-Loss.seat < length c.self.inside.seats.items =
    may_at _ _ _ _ (the_view c.self.inside) (Loss c.in-Loss.seat) Lost c.requires.1 c.self.view_is c.in-Loss.is
    c.in-Lost.is in
    search rules

pub returns-in-Lease : goal.returns-in-Lease
returns-in-Lease c =
    let seen : BookState = the_view c.self.inside in
    let here = may_at _ _ _ _ seen (Draw c.in-Draw.seat) (Lease c.in-Lease.lease) c.requires.1 c.self.view_is
    c.in-Draw.is c.in-Lease.is in
    let seats = written_seat seen c.in-Draw.seat without_last_drawn c.index_mut.result.now c.undraw.new.self here
    c.index_mut.ensures.value c.undraw.ensures in
    (λ i. record seen { next = c.in-Lease.lease.number; seats = seats i })
    ∙ same_back c.args.self.now seen c.args.step (Draw c.in-Draw.seat) c.args.answer (Lease c.in-Lease.lease)
    c.self.view_is c.in-Draw.is c.in-Lease.is

pub returns-in-Kept : goal.returns-in-Kept
returns-in-Kept c =
    let seen : BookState = the_view c.self.inside in
    let may = may_at _ _ _ _ seen (Settle c.in-Settle.seat c.in-Settle.number) Kept c.requires.1 c.self.view_is
    c.in-Settle.is c.in-Kept.is in
    let seats = written_seat seen c.in-Settle.seat without_last_kept c.index_mut-in-Kept.result.now c.unkeep.new.self
    may.0 c.index_mut-in-Kept.ensures.value c.unkeep.ensures in
    (λ i. record seen { marks = set seen.marks (c.in-Settle.number % seen.jobs) false; seats = seats i })
    ∙ same_back c.args.self.now seen c.args.step (Settle c.in-Settle.seat c.in-Settle.number) c.args.answer Kept
    c.self.view_is c.in-Settle.is c.in-Kept.is

pub returns-in-Lost : goal.returns-in-Lost
returns-in-Lost c =
    let seen : BookState = the_view c.self.inside in
    let here = may_at _ _ _ _ seen (Loss c.in-Loss.seat) Lost c.requires.1 c.self.view_is c.in-Loss.is c.in-Lost.is in
    let seats = written_seat seen c.in-Loss.seat as_present c.index_mut-in-Lost.result.now c.unlose.new.self here
    c.index_mut-in-Lost.ensures.value c.unlose.ensures in
    (λ i. record seen { seats = seats i })
    ∙ same_back c.args.self.now seen c.args.step (Loss c.in-Loss.seat) c.args.answer Lost c.self.view_is c.in-Loss.is
    c.in-Lost.is
