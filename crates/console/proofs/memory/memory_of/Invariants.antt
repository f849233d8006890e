use Rattle.std.proofs.Common.{◌≡◌, drop, length}
use Rattle.console.specs.Memory as spec
use Rattle.console.proofs.memory.memory_of.Given as goal

-- no earlier line states a figure
abbrev pub invariant-loop-line : goal.invariant-loop-line
invariant-loop-line l = spec.first_figure l.name (drop (length l.yielded) (spec.lines_of l.text))
    ≡ spec.first_figure l.name (spec.lines_of l.text)
