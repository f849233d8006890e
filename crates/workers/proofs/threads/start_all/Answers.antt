use Rattle.std.proofs.Common.{◌≡◌, vec_items, arith}
use Rattle.std.specs.Vec.Iter.{into_iter_items}
use Rattle.workers.proofs.OneMoreOfAll.{rest_of_all, one_more_of_all}
use Rattle.workers.proofs.threads.start_all.Goals as goal

pub loop-seat-preserved-in-Ok : goal.loop-seat-preserved-in-Ok
loop-seat-preserved-in-Ok g c =
    let task = c.args.task.now in
    let was = c.loop-seat.invariant in
    let steps = c.in-Some.ensures.steps in
    record {
      room = omega (arith, steps.1, c.push_reserved.ensures.len, c.push_reserved.ensures.capacity);
      room_left = was.room_left;
      count = omega (arith, steps.1, c.push_reserved.ensures.len);
      takes = rest_of_all (λ seat. g.T.Task.takes task seat) c.in-Some.seat (into_iter_items c.next.new.self)
          (into_iter_items c.loop-seat.seat-iterator) steps.0 was.takes;
      left = was.left;
      promised =
          one_more_of_all (λ h. h.promise.task.now
          ≡ task) (vec_items c.loop-seat.handles) (vec_items c.push_reserved.new.self) c.in-Ok.handle
          c.push_reserved.ensures.items was.promised c.in-Ok.ensures.promised;
    }

pub loop-seat-preserved : goal.loop-seat-preserved
loop-seat-preserved g c =
    let task = c.args.task.now in
    let was = c.loop-seat.invariant in
    let steps = c.in-Some.ensures.steps in
    record {
      room = omega (arith, steps.1);
      room_left = omega (arith, was.room_left, c.push_reserved-in-Err.ensures.capacity);
      count = omega (arith, steps.1, c.push_reserved-in-Err.ensures.len);
      takes = rest_of_all (λ seat. g.T.Task.takes task seat) c.in-Some.seat (into_iter_items c.next.new.self)
          (into_iter_items c.loop-seat.seat-iterator) steps.0 was.takes;
      left =
          one_more_of_all (λ w. g.T.Task.gives task w) (vec_items c.loop-seat.done)
          (vec_items c.push_reserved-in-Err.new.self) c.in-Err.left c.push_reserved-in-Err.ensures.items was.left
          c.in-Err.ensures.left;
      promised = was.promised;
    }
