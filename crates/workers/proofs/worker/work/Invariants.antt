use Rattle.std.proofs.Common.{◌≡◌, ◌-◌, ◌*◌}
use Rattle.work_book.specs.Board.{seen_by, IsOf}
use Rattle.workers.specs.Study.{study_of}
use Rattle.workers.specs.Held.{AreDone, AreTold, HoldsRows}
use Rattle.workers.proofs.JobCounts.{past_last}
use Rattle.workers.proofs.worker.work.Given as goal

abbrev pub invariant-loop-lease : goal.invariant-loop-lease
invariant-loop-lease g l = record {
  board : IsOf l.board l.hands.seat;
  share : (seen_by l.hands.seat).share ≡ 1;
  holds : HoldsRows (study_of l.study) l.hands.rows.items (seen_by l.hands.seat).kept;
  told : AreTold (g.G.Gate.decides l.gate) (g.G.Gate.was_told l.gate) (seen_by l.hands.seat).kept;
  done : AreDone (g.G.Gate.decides l.gate) l.board.jobs (seen_by l.hands.seat).drawn (seen_by l.hands.seat);
}

abbrev pub decreases-loop-lease : goal.decreases-loop-lease
decreases-loop-lease g l = l.board.jobs * l.board.tries - past_last (seen_by l.hands.seat).drawn
