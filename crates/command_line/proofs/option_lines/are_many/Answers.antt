use Rattle.std.proofs.Common.{ap, nat_lt, rules, tests}
use Rattle.std.proofs.lemmas.Iterator.Consumers.{count_from_yields_List}
use Rattle.std.proofs.lemmas.Iterator.Splits.{YieldsList-from_slice_split}
use Rattle.command_line.specs.declared.numbers.TheConstants.{MOST_NUMBERS}
use Rattle.command_line.proofs.option_lines.are_many.Goals as goal

pub returns : goal.returns
returns c =
    ap (nat_lt MOST_NUMBERS)
    (count_from_yields_List c.split.result c.count.result c.count.ensures.ran
    (YieldsList-from_slice_split _ _ c.args.text.now c.split.ensures.rest c.split.ensures.done c.split.ensures.closure
    (λ x r q k. search (rules, tests))))
