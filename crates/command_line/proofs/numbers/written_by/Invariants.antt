use Rattle.std.proofs.Common.{◌≡◌, map}
use Rattle.command_line.specs.Numbers.{written_by}
use Rattle.command_line.proofs.ListedNumbers.{onto, from_text}
use Rattle.command_line.proofs.numbers.written_by.Given as goal

abbrev pub invariant-loop-text : goal.invariant-loop-text
invariant-loop-text l = onto l.numbers.items (from_text l.texts l.text-index)
    ≡ written_by (map (λ text. text.now) l.texts)
