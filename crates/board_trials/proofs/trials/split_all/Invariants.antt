use Rattle.std.proofs.Common.{◌≡◌, ◌+◌, ◌≤◌, All, vec_items, vec_len, vec_capacity}
use Rattle.work_book.specs.Board.{seen_by, IsOf}
use Rattle.board_trials.proofs.trials.split_all.Given as goal

abbrev pub invariant-loop : goal.invariant-loop
invariant-loop l = record {
  board : IsOf l.board l.seat;
  share : (seen_by l.seat).share + l.counter ≡ (seen_by l.fn.seat).share;
  count : vec_len l.seats ≡ l.counter;
  room : l.threads ≤ vec_capacity l.seats;
  seats : All (λ s. IsOf l.board s) (vec_items l.seats);
}
