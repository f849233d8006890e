use Rattle.std.proofs.Common.{rules}
use Rattle.work_book.specs.Board.{seen_by}
use Rattle.workers.specs.Study.{study_of}
use Rattle.workers.specs.declared.gates.Verdict.TheVariants.{Repeat, Work}
use Rattle.workers.proofs.DoneAsDecided.{does_as}
use Rattle.workers.proofs.KnowledgeGrows.{told_same}
use Rattle.workers.proofs.worker.take.Goals as goal

pub returns-then-look-clause-told : goal.returns-then-look-clause-told
returns-then-look-clause-told g c =
    told_same (g.G.Gate.decides c.args.gate.now) (g.G.Gate.was_told c.args.gate.now)
    (seen_by c.args.hands.now.seat) (seen_by c.look.new.seat) (search rules)

pub returns-in-Lose-clause-told : goal.returns-in-Lose-clause-told
returns-in-Lose-clause-told g c =
    told_same (g.G.Gate.decides c.args.gate.now) (g.G.Gate.was_told c.args.gate.now)
    (seen_by c.args.hands.now.seat) (seen_by c.look.new.seat) (search rules)

pub returns-in-Vanish-clause-told : goal.returns-in-Vanish-clause-told
returns-in-Vanish-clause-told g c =
    told_same (g.G.Gate.decides c.args.gate.now) (g.G.Gate.was_told c.args.gate.now)
    (seen_by c.args.hands.now.seat) (seen_by c.look.new.seat) (search rules)

pub returns-in-Work-clause-told : goal.returns-in-Work-clause-told
returns-in-Work-clause-told g c = λ told.
    c.settle_once-done.ensures.told (told_same (g.G.Gate.decides c.args.gate.now)
    (g.G.Gate.was_told c.args.gate.now) (seen_by c.args.hands.now.seat) (seen_by c.look.new.seat) (search rules) told)

pub returns-in-Repeat-clause-told : goal.returns-in-Repeat-clause-told
returns-in-Repeat-clause-told g c = λ told.
    c.settle_twice-done.ensures.told (told_same (g.G.Gate.decides c.args.gate.now)
    (g.G.Gate.was_told c.args.gate.now) (seen_by c.args.hands.now.seat) (seen_by c.look.new.seat) (search rules) told)

pub returns-in-Work-clause-does : goal.returns-in-Work-clause-does
returns-in-Work-clause-does g c =
    does_as (g.G.Gate.decides c.args.gate.now) (study_of c.args.study.now) c.args.lease
    (seen_by c.args.hands.now.seat) (seen_by c.look.new.seat) (seen_by c.settle_once-done.new.hands.seat)
    c.args.hands.now.rows.items c.settle_once-done.new.hands.rows.items (search rules) Work
    c.settle_once-done.result c.next_of.result c.in-Work.ensures c.settle_once-done.ensures.held c.next_of.ensures.ok
    c.next_of.ensures.err

pub returns-in-Repeat-clause-does : goal.returns-in-Repeat-clause-does
returns-in-Repeat-clause-does g c =
    does_as (g.G.Gate.decides c.args.gate.now) (study_of c.args.study.now) c.args.lease
    (seen_by c.args.hands.now.seat) (seen_by c.look.new.seat) (seen_by c.settle_twice-done.new.hands.seat)
    c.args.hands.now.rows.items c.settle_twice-done.new.hands.rows.items (search rules) Repeat
    c.settle_twice-done.result c.next_of-in-Repeat.result c.in-Repeat.ensures c.settle_twice-done.ensures.held
    c.next_of-in-Repeat.ensures.ok c.next_of-in-Repeat.ensures.err
