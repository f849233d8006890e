use Rattle.std.proofs.Common.{◌≡◌, length}
use Rattle.command_line.specs.Paths.{after_slash}
use Rattle.command_line.proofs.Slashes.{found}
use Rattle.command_line.proofs.paths.after_slash.Given as goal

abbrev pub invariant-loop-rest : goal.invariant-loop-rest
invariant-loop-rest l = after_slash l.fn.path ≡ found l.name l.rest

abbrev pub decreases-loop-rest : goal.decreases-loop-rest
decreases-loop-rest l = length l.rest
