use Rattle.std.proofs.Common.{◌≡◌, ◌++◌, drop}
use Rattle.command_line.specs.Questions.{first_line}
use Rattle.command_line.proofs.questions.first_line.Given as goal

abbrev pub invariant-loop-byte : goal.invariant-loop-byte
invariant-loop-byte l = first_line l.text ≡ l.line.items ++ first_line (drop l.byte-index l.text)
