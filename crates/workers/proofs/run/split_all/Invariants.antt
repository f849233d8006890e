use Rattle.std.proofs.Common.{◌≡◌, ◌+◌, ◌≤◌, vec_items, vec_len, vec_capacity}
use Rattle.work_book.specs.Board.{seen_by, IsOf}
use Rattle.workers.specs.Threads.{AreReady}
use Rattle.workers.specs.Outcomes.{without}
use Rattle.workers.proofs.run.split_all.Given as goal

abbrev pub invariant-loop : goal.invariant-loop
invariant-loop l = record {
  board : IsOf l.board l.seat;
  lists : ((seen_by l.seat).drawn ≡ (seen_by l.fn.seat).drawn) × ((seen_by l.seat).kept ≡ (seen_by l.fn.seat).kept);
  left : seen_by l.seat ≡ without l.counter (seen_by l.fn.seat);
  share : (seen_by l.seat).share + l.counter ≡ (seen_by l.fn.seat).share;
  count : vec_len l.seats ≡ l.counter;
  room : l.workers ≤ vec_capacity l.seats;
  ready : AreReady l.board (vec_items l.seats);
}
