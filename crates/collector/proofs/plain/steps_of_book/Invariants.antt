use Rattle.std.proofs.Common.{◌≡◌, ◌++◌, drop}
use Rattle.collector.specs.Plain.{book_steps}
use Rattle.collector.proofs.plain.steps_of_book.Given as goal

abbrev pub invariant-loop-step : goal.invariant-loop-step
invariant-loop-step l = l.own.items ++ book_steps (drop l.step-index l.steps) ≡ book_steps l.fn.steps
