use Rattle.std.specs.Vec.Iter.{into_iter_items}
use Rattle.std.proofs.lemmas.List.Elements.{All-rest}
use Rattle.work_book.specs.Board.{IsOf}
use Rattle.board_trials.proofs.trials.join_all.Goals as goal

pub loop-one-preserved : goal.loop-one-preserved
loop-one-preserved c =
    let b = c.args.board.now in
    record {
      board = c.join.ensures.board;
      told = All-rest (λ t. IsOf b t.seat) c.in-Some.one (into_iter_items c.next.new.self)
          (into_iter_items c.loop-one.one-iterator) c.in-Some.ensures.steps.0 c.loop-one.invariant.told;
    }
