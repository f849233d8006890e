use Rattle.std.proofs.Common.{ℕ, List, [], subst, sym, ◌∙◌}
use Rattle.atomic_table.specs.Table.{opening}
use Rattle.work_book.specs.Views.{first_view}
use Rattle.work_book.specs.Rule.{IsKept}
use Rattle.work_book.specs.declared.rule.Extent.{Extent}
use Rattle.work_book.proofs.RuleAsSums.{limit_of}
use Rattle.work_book.proofs.NewAndClosedBoards.{opens, few_numbers}
use Rattle.work_book.proofs.shared.Board.new.Goals as goal

pub of_words-requires : goal.of_words-requires
of_words-requires c =
    let k : Extent = record { jobs = c.args.jobs; tries = c.args.tries } in
    subst (λ (words : List ℕ). IsKept k (opening words [] (first_view (limit_of k))))
    (sym (c.as_slice.ensures.value ∙ c.in_ok-words.ensures))
    (opens k (few_numbers k c.requires.jobs c.requires.tries.1))
