use Rattle.std.proofs.Common.{◌≡◌, ℕ, slice_index, arith}
use Rattle.label_cells.specs.ShareCells.{access_by_stop}
use Rattle.label_cells.proofs.PushedElements.{pushed, longer_by_one}
use Rattle.label_cells.proofs.share_cells.sums_within.Goals as goal

pub loop-limit-preserved : goal.loop-limit-preserved
loop-limit-preserved c =
    let was = c.loop-limit.invariant in
    let old = c.loop-limit.sums.items in
    let n = c.loop-limit.limit-index in
    let of_stops = c.args.of_stops.now in
    let ns = c.args.opportunities.now in
    let limits = c.args.limits.now in
    let new = c.sum_within.result in
    rw c.in_ok-push.ensures.items (record {
      count = longer_by_one ℕ old new n was.count;
      each = pushed ℕ (λ i x. x ≡ access_by_stop of_stops ns (slice_index limits i)) old new 0 n was.count was.each
          c.sum_within.ensures;
    })

pub returns : goal.returns
returns c = record {
  count = omega (arith, c.loop-limit.invariant.count, c.loop-limit-test.false, c.loop-limit.auto.limit-index-end);
  each = λ i less. c.loop-limit.invariant.each i (omega (arith, less, c.loop-limit-test.false));
}
