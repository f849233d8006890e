use Rattle.std.proofs.Common.{IfSome, ◌≤ℤ◌}
use Rattle.jiff.specs.Words.{epoch_day}
use Rattle.reports.proofs.calendar_lines.scheduled_dates.Given as goal

abbrev pub invariant-loop-row : goal.invariant-loop-row
invariant-loop-row l = IfSome l.dates (λ dates. epoch_day dates.first ≤ℤ epoch_day dates.last)
