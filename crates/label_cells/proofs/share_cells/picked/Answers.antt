use Rattle.std.proofs.Common.{◌≡◌, ℕ, Option, None, slice_index, arith}
use Rattle.rounds.specs.Table.{known_of}
use Rattle.label_cells.specs.Groups.{stop_at}
use Rattle.label_cells.proofs.PushedElements.{pushed, longer_by_one}
use Rattle.label_cells.proofs.share_cells.picked.Goals as goal

pub loop-k-preserved : goal.loop-k-preserved
loop-k-preserved c =
    let was = c.loop-k.invariant in
    let old = c.loop-k.cells.items in
    let n = c.loop-k.k in
    let of_stops = c.args.of_stops.now in
    let stops = c.args.destinations.now in
    let new = c.known.result in
    rw c.in_ok-push.ensures.items (record {
      count = longer_by_one (Option ℕ) old new n was.count;
      each = pushed (Option ℕ) (λ j x. x ≡ known_of (slice_index of_stops (stop_at stops j))) old new None n was.count
          was.each c.known.ensures;
    })

pub returns : goal.returns
returns c = record {
  count = omega (arith, c.loop-k.invariant.count, c.loop-k-test.false, c.loop-k.auto.k-end);
  each = λ k less. c.loop-k.invariant.each k (omega (arith, less, c.loop-k-test.false));
}
