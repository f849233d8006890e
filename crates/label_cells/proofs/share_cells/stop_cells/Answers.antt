use Rattle.std.proofs.Common.{◌≡◌, ℕ, slice_index, refl, arith}
use Rattle.label_cells.specs.Groups.{cell_at}
use Rattle.label_cells.proofs.PushedElements.{pushed, longer_by_one}
use Rattle.label_cells.proofs.share_cells.stop_cells.Goals as goal

pub loop-number-preserved : goal.loop-number-preserved
loop-number-preserved c =
    let was = c.loop-number.invariant in
    let old = c.loop-number.of_stops.items in
    let n = c.loop-number.number-index in
    let numbers = c.args.numbers.now in
    let ranks = c.args.ranks in
    let cells = c.args.cells.now in
    let k = c.args.k in
    let new : ℕ = cell_at ranks cells (slice_index numbers n) k in
    rw c.in_ok-push.ensures.items (record {
      count = longer_by_one ℕ old new n was.count;
      each = pushed ℕ (λ p x. x ≡ cell_at ranks cells (slice_index numbers p) k) old new 0 n was.count was.each refl;
    })

pub returns : goal.returns
returns c = record {
  count = omega (arith, c.loop-number.invariant.count, c.loop-number-test.false, c.loop-number.auto.number-index-end);
  each = λ p less. c.loop-number.invariant.each p (omega (arith, less, c.loop-number-test.false));
}
