use Rattle.std.proofs.Common.{◌≡◌, ◌≤◌, length, vec_len, vec_capacity}
use Rattle.work_book.specs.Book.{IsSameSize}
use Rattle.work_book.specs.TakenBack.{HasRun}
use Rattle.work_book.proofs.plain.Book.run.Given as goal

abbrev pub invariant-loop-step : goal.invariant-loop-step
invariant-loop-step l = record {
  run : HasRun l.fn.self l.steps l.answers.items l.self;
  size : IsSameSize l.fn.self l.self;
  count : vec_len l.answers ≡ l.step-index;
  room : length l.steps ≤ vec_capacity l.answers;
}
