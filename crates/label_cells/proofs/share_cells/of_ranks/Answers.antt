use Rattle.label_cells.specs.declared.share_cells.ShareCells.{ShareCells}
use Rattle.label_cells.specs.ShareCells.{IsOfRank}
use Rattle.label_cells.proofs.PushedElements.{pushed, longer_by_one}
use Rattle.label_cells.proofs.share_cells.of_ranks.Goals as goal

pub loop-k-preserved : goal.loop-k-preserved
loop-k-preserved c =
    let was = c.loop-k.invariant in
    let old = c.loop-k.given.items in
    let n = c.loop-k.k in
    let new = c.in_ok-here.here in
    rw c.in_ok-push.ensures.items (record {
      size = longer_by_one ShareCells old new n was.size;
      each = λ k none less. pushed ShareCells
          (λ j x. IsOfRank c.args.ranks c.args.cells.now j c.args.numbers.now c.args.question x) old new none n was.size
          (λ j l. was.each j none l) c.in_ok-here.ensures k less;
    })
