use Rattle.std.proofs.Common.{All}
use Rattle.std.specs.Vec.Iter.{into_iter_items}
use Rattle.work_book.specs.Board.{IsOf}
use Rattle.board_trials.proofs.trials.join_all.Given as goal

abbrev pub invariant-loop-one : goal.invariant-loop-one
invariant-loop-one l = record {
  board : IsOf l.board l.seat;
  told : All (λ t. IsOf l.board t.seat) (into_iter_items l.one-iterator);
}
