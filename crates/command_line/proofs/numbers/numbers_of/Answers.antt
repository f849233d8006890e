use Rattle.std.proofs.Common.{◌≡◌, ◌∙◌, ◌≤◌, ℕ, List, ap, false, length, option_map, subst, sym, true}
use Rattle.std.specs.List.Sorted.{IsStrictlyIncreasing}
use Rattle.command_line.proofs.ListedNumbers.{listed, no_list, no_number, not_taken, taken}
use Rattle.command_line.proofs.numbers.numbers_of.Goals as goal
use Rattle.command_line.specs.declared.numbers.TheConstants.{MOST_NUMBERS}

pub returns-in_default-clause-nothing : goal.returns-in_default-clause-nothing
returns-in_default-clause-nothing c =
    no_number c.args.text.now (sym c.in_ok-numbers.ensures ∙ ap (option_map (λ numbers. numbers.items)) c.in_default.is)

pub returns-then-are_few_and_ascend-clause-listed : goal.returns-then-are_few_and_ascend-clause-listed
returns-then-are_few_and_ascend-clause-listed c =
    listed c.args.text.now c.in-Some.numbers.items
    (sym c.in_ok-numbers.ensures ∙ ap (option_map (λ numbers. numbers.items)) c.in-Some.is)
    (subst (λ (ns : List ℕ). (length ns ≤ MOST_NUMBERS)
    × IsStrictlyIncreasing ns) c.deref.ensures.value
    (c.are_few_and_ascend.ensures.0 c.if-are_few_and_ascend.true))

pub returns-then-are_few_and_ascend-clause-value : goal.returns-then-are_few_and_ascend-clause-value
returns-then-are_few_and_ascend-clause-value c =
    taken c.args.text.now c.in-Some.numbers.items
    (sym c.in_ok-numbers.ensures ∙ ap (option_map (λ numbers. numbers.items)) c.in-Some.is)
    (subst (λ (ns : List ℕ). (length ns ≤ MOST_NUMBERS)
    × IsStrictlyIncreasing ns) c.deref.ensures.value
    (c.are_few_and_ascend.ensures.0 c.if-are_few_and_ascend.true))

pub returns-else-are_few_and_ascend-clause-nothing : goal.returns-else-are_few_and_ascend-clause-nothing
returns-else-are_few_and_ascend-clause-nothing c =
    no_list c.args.text.now c.in-Some.numbers.items
    (sym c.in_ok-numbers.ensures ∙ ap (option_map (λ numbers. numbers.items)) c.in-Some.is)
    (λ fit. (let bad : true ≡ false =
    sym (c.are_few_and_ascend.ensures.1 (subst (λ (ns : List ℕ). (length ns ≤ MOST_NUMBERS)
    × IsStrictlyIncreasing ns) (sym c.deref.ensures.value) fit)) ∙ c.if-are_few_and_ascend.false in
    cc))

pub returns-else-are_few_and_ascend-clause-value : goal.returns-else-are_few_and_ascend-clause-value
returns-else-are_few_and_ascend-clause-value c =
    not_taken c.args.text.now c.in-Some.numbers.items
    (sym c.in_ok-numbers.ensures ∙ ap (option_map (λ numbers. numbers.items)) c.in-Some.is)
    (λ fit. (let bad : true ≡ false =
    sym (c.are_few_and_ascend.ensures.1 (subst (λ (ns : List ℕ). (length ns ≤ MOST_NUMBERS)
    × IsStrictlyIncreasing ns) (sym c.deref.ensures.value) fit)) ∙ c.if-are_few_and_ascend.false in
    cc))
