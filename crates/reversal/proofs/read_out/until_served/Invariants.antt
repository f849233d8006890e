use Rattle.std.proofs.Common.{◌≡◌, drop}
use Rattle.reversal.specs.ReadOut.{until_served}
use Rattle.reversal.proofs.read_out.until_served.Given as goal

-- the deadlines that are left decide
abbrev pub invariant-loop-j : goal.invariant-loop-j
invariant-loop-j l =
    until_served (drop l.j l.deadlines) (drop l.j l.labels) l.start ≡ until_served l.deadlines l.labels l.start
