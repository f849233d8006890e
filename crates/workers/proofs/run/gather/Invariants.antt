use Rattle.std.proofs.Common.{◌≡◌, ◌⊎◌, ◌||◌, All, length}
use Rattle.std.specs.Vec.Iter.{into_iter_items}
use Rattle.work_book.specs.Board.{seen_by, IsOf}
use Rattle.work_book.specs.Moves.{IsOnce, IsWhole}
use Rattle.workers.specs.Study.{StudyData, StudyFits}
use Rattle.workers.specs.Held.{HoldsRows}
use Rattle.workers.specs.Filling.{AreFilledAs}
use Rattle.workers.specs.Outcomes.{is_some_short, is_some_started, joined}
use Rattle.workers.proofs.run.gather.Given as goal

abbrev pub invariant-loop-done : goal.invariant-loop-done
invariant-loop-done l = record {
  board : IsOf l.board l.seat;
  seats : All (λ w. IsOf l.board w.seat) (into_iter_items l.done-iterator);
  once : IsOnce (seen_by l.seat);
  joined : joined (seen_by l.seat) (into_iter_items l.done-iterator) ≡ joined (seen_by l.fn.seat) l.fn.worked.items;
  whole : (seen_by l.seat).share ≡ 65536 →
      (length l.fn.worked.items ≡ length (into_iter_items l.done-iterator)) ⊎ IsWhole (seen_by l.seat);
  short : (l.ends.short || is_some_short (into_iter_items l.done-iterator)) ≡ is_some_short l.fn.worked.items;
  started : (l.ends.started || is_some_started (into_iter_items l.done-iterator)) ≡ is_some_started l.fn.worked.items;
  filled : (s : StudyData) → StudyFits s → All (λ w. HoldsRows s w.rows.items (seen_by w.seat).kept) l.fn.worked.items →
      AreFilledAs s (seen_by l.fn.seat).kept l.fn.collector
      → All (λ w. HoldsRows s w.rows.items (seen_by w.seat).kept) (into_iter_items l.done-iterator)
      × AreFilledAs s (seen_by l.seat).kept l.collector;
}
