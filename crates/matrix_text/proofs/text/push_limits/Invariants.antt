use Rattle.std.proofs.Common.{◌≡◌, ◌++◌, map, take}
use Rattle.matrix_text.specs.Text.{limit_field}
use Rattle.matrix_text.proofs.text.push_limits.Given as goal

abbrev pub invariant-loop-limit : goal.invariant-loop-limit
invariant-loop-limit l = l.line ≡ l.fn.line ++ map limit_field (take l.limit-index l.limits)
