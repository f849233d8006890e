use Rattle.std.proofs.Common.{◌≡◌, ap, inr, rules, subst, ◌∙◌, ◌∷◌, [], ◌++◌}
use Rattle.work_book.specs.Board.{seen_by}
use Rattle.work_book.specs.declared.lease.Settled.TheVariants.{Kept, Double}
use Rattle.work_book.specs.declared.rule.View.{View}
use Rattle.workers.specs.Study.{study_of}
use Rattle.workers.proofs.HeldRowsGrow.{holds_again, holds_new, holds_same, known_after, more_none, more_twice}
use Rattle.workers.proofs.HeldRowsGrow.{settles_known}
use Rattle.workers.proofs.KnowledgeGrows.{knows_both, knows_settled, second_double, told_again, told_more}
use Rattle.workers.proofs.JobCounts.{last_in}
use Rattle.workers.proofs.worker.settle_twice.Goals as goal

pub returns-in-Kept-clause-rows : goal.returns-in-Kept-clause-rows
returns-in-Kept-clause-rows g c =
    let v = seen_by c.args.hands.now.seat in
    let w = seen_by c.settle-first.new.seat in
    let x = seen_by c.settle-second.new.seat in
    let job = c.args.lease.job in
    let s = study_of c.args.study.now in
    let once : w.kept ≡ v.kept ++ job ∷ [] = ap (λ (z : View). z.kept) c.in-Kept.ensures.settled.0 in
    let twice : x.kept ≡ w.kept =
    settles_known w x c.args.lease c.settle-second.result c.settle-second.ensures.settled
    (known_after v w c.args.lease Kept c.in-Kept.ensures.settled) in
    let now : x.kept ≡ v.kept ++ job ∷ [] = twice ∙ once in
    let one = holds_new s c.args.hands.now.rows.items c.push_reserved.new.self.items v.kept x.kept job c.in_ok-row.row
    c.requires.rows c.in_ok-row.ensures (search rules) now in
    holds_again s c.push_reserved.new.self.items c.push_reserved-in-Kept.new.self.items x.kept job c.in_ok-again.again
    one c.in_ok-again.ensures (last_in job v.kept x.kept now) (search rules)

pub returns-in-Kept-clause-held : goal.returns-in-Kept-clause-held
returns-in-Kept-clause-held g c =
    let v = seen_by c.args.hands.now.seat in
    let w = seen_by c.settle-first.new.seat in
    let x = seen_by c.settle-second.new.seat in
    let job = c.args.lease.job in
    let s = study_of c.args.study.now in
    let once : w.kept ≡ v.kept ++ job ∷ [] = ap (λ (z : View). z.kept) c.in-Kept.ensures.settled.0 in
    let twice : x.kept ≡ w.kept =
    settles_known w x c.args.lease c.settle-second.result c.settle-second.ensures.settled
    (known_after v w c.args.lease Kept c.in-Kept.ensures.settled) in
    more_twice s job v x c.args.hands.now.rows.items c.push_reserved-in-Kept.new.self.items
    c.push_reserved.new.self.items c.in_ok-row.row c.in_ok-again.again c.in_ok-row.ensures c.in_ok-again.ensures
    (search rules) (search rules) (twice ∙ once)

pub returns-in-Double-clause-rows : goal.returns-in-Double-clause-rows
returns-in-Double-clause-rows g c =
    let v = seen_by c.args.hands.now.seat in
    let w = seen_by c.settle-first.new.seat in
    let x = seen_by c.settle-second.new.seat in
    let once : w.kept ≡ v.kept = ap (λ (z : View). z.kept) c.in-Double.ensures.settled in
    let twice : x.kept ≡ w.kept =
    settles_known w x c.args.lease c.settle-second.result c.settle-second.ensures.settled
    (known_after v w c.args.lease Double c.in-Double.ensures.settled) in
    holds_same (study_of c.args.study.now) c.args.hands.now.rows.items c.reserve.new.self.items v.kept x.kept
    c.requires.rows (search rules) (twice ∙ once)

pub returns-in-Double-clause-held : goal.returns-in-Double-clause-held
returns-in-Double-clause-held g c =
    let v = seen_by c.args.hands.now.seat in
    let w = seen_by c.settle-first.new.seat in
    let x = seen_by c.settle-second.new.seat in
    let once : w.kept ≡ v.kept = ap (λ (z : View). z.kept) c.in-Double.ensures.settled in
    let twice : x.kept ≡ w.kept =
    settles_known w x c.args.lease c.settle-second.result c.settle-second.ensures.settled
    (known_after v w c.args.lease Double c.in-Double.ensures.settled) in
    more_none (study_of c.args.study.now) c.args.lease.job v x c.args.hands.now.rows.items c.reserve.new.self.items 2
    (search rules) (twice ∙ once)

pub returns-in-Kept-clause-told : goal.returns-in-Kept-clause-told
returns-in-Kept-clause-told g c = λ told.
    let decides = g.G.Gate.decides c.args.gate.now in
    let was_told = g.G.Gate.was_told c.args.gate.now in
    let v = seen_by c.args.hands.now.seat in
    let w = seen_by c.settle-first.new.seat in
    let x = seen_by c.settle-second.new.seat in
    let known = known_after v w c.args.lease c.settle-first.result c.settle-first.ensures.settled in
    let double =
    second_double w x c.args.lease c.settle-second.result c.settle-second.ensures.settled known in
    told_again decides was_told w x c.args.lease c.settle-second.result c.settle-second.ensures.settled known
    (told_more decides was_told v w c.args.lease c.settle-first.result c.settle-first.ensures.settled
    (λ kept. (
      subst (was_told c.args.lease) kept c.after.ensures.told,
      inr (c.requires.decided, subst (was_told c.args.lease) double c.after-2.ensures.told),
    )) told)

pub returns-in-Kept-clause-known : goal.returns-in-Kept-clause-known
returns-in-Kept-clause-known g c =
    let v = seen_by c.args.hands.now.seat in
    let w = seen_by c.settle-first.new.seat in
    let x = seen_by c.settle-second.new.seat in
    knows_both v w x (knows_settled v w c.args.lease c.settle-first.result c.settle-first.ensures.settled)
    (knows_settled w x c.args.lease c.settle-second.result c.settle-second.ensures.settled)

pub returns-in-Kept-clause-settled : goal.returns-in-Kept-clause-settled
returns-in-Kept-clause-settled g c =
    known_after (seen_by c.settle-first.new.seat) (seen_by c.settle-second.new.seat) c.args.lease
    c.settle-second.result c.settle-second.ensures.settled

pub returns-in-Kept-clause-heard : goal.returns-in-Kept-clause-heard
returns-in-Kept-clause-heard g c = (
  seen_by c.settle-first.new.seat,
  (c.settle-first.result, c.settle-first.ensures.settled, c.after.ensures.told),
  (c.settle-second.result, c.settle-second.ensures.settled, c.after-2.ensures.told),
)

pub returns-in-Double-clause-told : goal.returns-in-Double-clause-told
returns-in-Double-clause-told g c = λ told.
    let decides = g.G.Gate.decides c.args.gate.now in
    let was_told = g.G.Gate.was_told c.args.gate.now in
    let v = seen_by c.args.hands.now.seat in
    let w = seen_by c.settle-first.new.seat in
    let x = seen_by c.settle-second.new.seat in
    let known = known_after v w c.args.lease c.settle-first.result c.settle-first.ensures.settled in
    let double =
    second_double w x c.args.lease c.settle-second.result c.settle-second.ensures.settled known in
    told_again decides was_told w x c.args.lease c.settle-second.result c.settle-second.ensures.settled known
    (told_more decides was_told v w c.args.lease c.settle-first.result c.settle-first.ensures.settled
    (λ kept. (
      subst (was_told c.args.lease) kept c.after.ensures.told,
      inr (c.requires.decided, subst (was_told c.args.lease) double c.after-2.ensures.told),
    )) told)

pub returns-in-Double-clause-known : goal.returns-in-Double-clause-known
returns-in-Double-clause-known g c =
    let v = seen_by c.args.hands.now.seat in
    let w = seen_by c.settle-first.new.seat in
    let x = seen_by c.settle-second.new.seat in
    knows_both v w x (knows_settled v w c.args.lease c.settle-first.result c.settle-first.ensures.settled)
    (knows_settled w x c.args.lease c.settle-second.result c.settle-second.ensures.settled)

pub returns-in-Double-clause-settled : goal.returns-in-Double-clause-settled
returns-in-Double-clause-settled g c =
    known_after (seen_by c.settle-first.new.seat) (seen_by c.settle-second.new.seat) c.args.lease
    c.settle-second.result c.settle-second.ensures.settled

pub returns-in-Double-clause-heard : goal.returns-in-Double-clause-heard
returns-in-Double-clause-heard g c = (
  seen_by c.settle-first.new.seat,
  (c.settle-first.result, c.settle-first.ensures.settled, c.after.ensures.told),
  (c.settle-second.result, c.settle-second.ensures.settled, c.after-2.ensures.told),
)
