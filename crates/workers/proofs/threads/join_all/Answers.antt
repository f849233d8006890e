use Rattle.std.proofs.Common.{◌≡◌, vec_items, subst, arith}
use Rattle.std.specs.Vec.Iter.{into_iter_items}
use Rattle.workers.proofs.OneMoreOfAll.{first_of_all, rest_of_all, one_more_of_all}
use Rattle.workers.proofs.threads.join_all.Goals as goal

pub loop-handle-preserved : goal.loop-handle-preserved
loop-handle-preserved g c =
    let task = c.args.task.now in
    let was = c.loop-handle.invariant in
    let steps = c.in-Some.ensures.steps in
    let all = into_iter_items c.loop-handle.handle-iterator in
    let rest = into_iter_items c.next.new.self in
    let mine = first_of_all (λ h. h.promise.task.now ≡ task) c.in-Some.handle rest all steps.0 was.promised in
    record {
      room = omega (arith, steps.1, c.push_reserved.ensures.len, c.push_reserved.ensures.capacity);
      count = omega (arith, steps.1, c.push_reserved.ensures.len);
      promised = rest_of_all (λ h. h.promise.task.now ≡ task) c.in-Some.handle rest all steps.0 was.promised;
      worked =
          one_more_of_all (λ w. g.T.Task.gives task w) (vec_items c.loop-handle.done)
          (vec_items c.push_reserved.new.self) c.join.result c.push_reserved.ensures.items was.worked
          (subst (λ t. g.T.Task.gives t c.join.result) mine c.join.ensures);
    }
