use Rattle.std.proofs.Common.{◌≡◌, ◌≤◌, replicate, false, vec_capacity}
use Rattle.work_book.proofs.plain.open_marks.Given as goal

abbrev pub invariant-loop : goal.invariant-loop
invariant-loop l = record {
  marks : l.marks.items ≡ replicate l.counter false;
  room : l.jobs ≤ vec_capacity l.marks;
}
