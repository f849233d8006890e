use Rattle.std.proofs.Common.{◌≡◌, rules, subst, sym}
use Rattle.work_book.specs.Moves.{IsOnce, IsWhole}
use Rattle.work_book.specs.declared.rule.View.{View}
use Rattle.work_book.proofs.SettlesKeepTheRule.{shows}
use Rattle.work_book.proofs.SplitsAndJoinsKeepTheRule.{joins}
use Rattle.work_book.proofs.shared.Board.join.Goals as goal

pub join_seat-requires : goal.join_seat-requires
join_seat-requires c = (search rules, search rules, search rules, search rules, joins _ _ _ _ _ (search rules))

pub load-requires : goal.load-requires
load-requires c = (search rules, search rules, shows _ _ _ _)

pub returns-clause-once : goal.returns-clause-once
returns-clause-once c = let told = c.load.ensures.2 in
    subst IsOnce (sym told.1) (record { drawn = told.2.drawn; kept = told.2.kept })

pub returns-clause-whole : goal.returns-clause-whole
returns-clause-whole c =
    let told = c.load.ensures.2 in
    subst (λ (v : View). v.share ≡ 65536 → IsWhole v) (sym told.1) (λ all.
    let h = told.4 all in
    record { next = h.next; within = h.within; drawn = h.drawn; told = h.told; kept = h.kept })
