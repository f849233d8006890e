use Rattle.std.proofs.Common.{◌≡◌, take}
use Rattle.studies.specs.MinuteLine.{runs_from}
use Rattle.studies.proofs.plain.runs_of.Given as goal

abbrev pub invariant-loop-number : goal.invariant-loop-number
invariant-loop-number l = l.runs.items ≡ runs_from 0 (take l.number l.feed.trips)
