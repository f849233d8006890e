use Rattle.std.proofs.Common.{ap, inl, rules, subst}
use Rattle.work_book.specs.Board.{seen_by}
use Rattle.work_book.specs.declared.rule.View.{View}
use Rattle.workers.specs.Study.{study_of}
use Rattle.workers.proofs.HeldRowsGrow.{holds_new, kept_same, more_none, more_once}
use Rattle.workers.proofs.KnowledgeGrows.{told_more}
use Rattle.workers.proofs.worker.settle_once.Goals as goal

pub returns-in-Kept-clause-rows : goal.returns-in-Kept-clause-rows
returns-in-Kept-clause-rows g c =
    holds_new (study_of c.args.study.now) c.args.hands.now.rows.items c.push_reserved.new.self.items
    (seen_by c.args.hands.now.seat).kept (seen_by c.settle-settled.new.seat).kept c.args.lease.job
    c.in_ok-row.row c.requires.rows c.in_ok-row.ensures
    (search rules)
    (ap (λ (v : View). v.kept) c.in-Kept.ensures.settled.0)

pub returns-in-Kept-clause-told : goal.returns-in-Kept-clause-told
returns-in-Kept-clause-told g c =
    let was_told = g.G.Gate.was_told c.args.gate.now in
    told_more (g.G.Gate.decides c.args.gate.now) was_told (seen_by c.args.hands.now.seat)
    (seen_by c.settle-settled.new.seat) c.args.lease c.settle-settled.result c.settle-settled.ensures.settled
    (λ kept. (subst (was_told c.args.lease) kept c.after.ensures.told, inl c.requires.decided))

pub returns-in_default-clause-told : goal.returns-in_default-clause-told
returns-in_default-clause-told g c =
    let was_told = g.G.Gate.was_told c.args.gate.now in
    told_more (g.G.Gate.decides c.args.gate.now) was_told (seen_by c.args.hands.now.seat)
    (seen_by c.settle-settled.new.seat) c.args.lease c.settle-settled.result c.settle-settled.ensures.settled
    (λ kept. (subst (was_told c.args.lease) kept c.after.ensures.told, inl c.requires.decided))

pub returns-in-Kept-clause-heard : goal.returns-in-Kept-clause-heard
returns-in-Kept-clause-heard g c = (c.settle-settled.result, c.settle-settled.ensures.settled, c.after.ensures.told)

pub returns-in_default-clause-heard : goal.returns-in_default-clause-heard
returns-in_default-clause-heard g c = (c.settle-settled.result, c.settle-settled.ensures.settled, c.after.ensures.told)

pub returns-in-Kept-clause-held : goal.returns-in-Kept-clause-held
returns-in-Kept-clause-held g c =
    more_once (study_of c.args.study.now) c.args.lease.job (seen_by c.args.hands.now.seat)
    (seen_by c.settle-settled.new.seat) c.args.hands.now.rows.items c.push_reserved.new.self.items c.in_ok-row.row
    c.in_ok-row.ensures (search rules) (ap (λ (v : View). v.kept) c.in-Kept.ensures.settled.0)

pub returns-in_default-clause-held : goal.returns-in_default-clause-held
returns-in_default-clause-held g c =
    more_none (study_of c.args.study.now) c.args.lease.job (seen_by c.args.hands.now.seat)
    (seen_by c.settle-settled.new.seat) c.args.hands.now.rows.items c.reserve.new.self.items 1
    (search rules)
    (kept_same (seen_by c.args.hands.now.seat) (seen_by c.settle-settled.new.seat) c.args.lease
    c.settle-settled.result c.settle-settled.ensures.settled c.in_default.not-Kept)
