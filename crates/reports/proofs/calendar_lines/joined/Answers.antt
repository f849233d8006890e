use Rattle.std.proofs.Common.{◌≤ℤ◌, arith}
use Rattle.std.proofs.lemmas.Int.{ints}
use Rattle.jiff.specs.Words.{epoch_day}
use Rattle.reports.proofs.calendar_lines.joined.Goals as goal

pub returns-in-Some : goal.returns-in-Some
returns-in-Some c = λ ordered.
    let low : epoch_day c.earlier.result ≤ℤ epoch_day c.args.first = c.earlier.ensures.last in
    let high : epoch_day c.args.last ≤ℤ epoch_day c.later.result = c.later.ensures.last in
    omega (arith, ints)
