use Rattle.std.proofs.Common.{◌≡◌, ◌+◌, ◌≤◌, All, vec_items, vec_len, vec_capacity}
use Rattle.std.specs.Vec.Iter.{into_iter_items, into_iter_len}
use Rattle.workers.proofs.threads.start_all.Given as goal

abbrev pub invariant-loop-seat : goal.invariant-loop-seat
invariant-loop-seat g l = record {
  room : into_iter_len l.seat-iterator + vec_len l.handles ≤ vec_capacity l.handles;
  room_left : vec_len l.fn.seats ≤ vec_capacity l.done;
  count : vec_len l.handles + vec_len l.done + into_iter_len l.seat-iterator ≡ vec_len l.fn.seats;
  takes : All (λ seat. g.T.Task.takes l.fn.task seat) (into_iter_items l.seat-iterator);
  left : All (λ worked. g.T.Task.gives l.fn.task worked) (vec_items l.done);
  promised : All (λ handle. handle.promise.task.now ≡ l.fn.task) (vec_items l.handles);
}
