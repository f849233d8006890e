use Rattle.std.proofs.Common.{◌≡◌, ◌+◌, ◌≤◌, All, vec_items, vec_len, vec_capacity}
use Rattle.std.specs.Vec.Iter.{into_iter_items, into_iter_len}
use Rattle.workers.proofs.threads.join_all.Given as goal

abbrev pub invariant-loop-handle : goal.invariant-loop-handle
invariant-loop-handle g l = record {
  room : vec_len l.done + into_iter_len l.handle-iterator ≤ vec_capacity l.done;
  count : vec_len l.done + into_iter_len l.handle-iterator ≡ vec_len l.fn.done + vec_len l.fn.handles;
  promised : All (λ handle. handle.promise.task.now ≡ l.fn.task) (into_iter_items l.handle-iterator);
  worked : All (λ worked. g.T.Task.gives l.fn.task worked) (vec_items l.done);
}
