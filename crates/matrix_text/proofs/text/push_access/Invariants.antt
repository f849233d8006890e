use Rattle.std.proofs.Common.{◌≡◌, ◌++◌, map, take, decimal}
use Rattle.matrix_text.proofs.text.push_access.Given as goal

abbrev pub invariant-loop-sum : goal.invariant-loop-sum
invariant-loop-sum l = l.line ≡ l.fn.line ++ map decimal (take l.sum-index l.access)
