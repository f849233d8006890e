use Rattle.std.proofs.Common.{◌≡◌, ◌≤◌, ◌<◌, ◌+◌, ◌*◌, ◌/◌, ℕ, length, slice_index}
use Rattle.std.proofs.Common.{refl, arith}
use Rattle.std.proofs.lemmas.List.Elements.{All-get_or}
use Rattle.label_cells.proofs.PushedElements.{pushed, longer_by_one}
use Rattle.label_cells.proofs.SharesByRank.{rank_few}
use Rattle.label_cells.proofs.share_cells.ranks_of.Goals as goal

pub loop-share-preserved : goal.loop-share-preserved
loop-share-preserved c =
    let was = c.loop-share.invariant in
    let old = c.loop-share.ranks.items in
    let n = c.loop-share.share-index in
    let shares = c.args.shares.now in
    let minutes = c.args.minutes in
    let new : ℕ = (slice_index shares n * minutes + 99) / 100 in
    rw c.in_ok-push.ensures.items (record {
      count = longer_by_one ℕ old new n was.count;
      each = pushed ℕ (λ k x. x ≡ (slice_index shares k * minutes + 99) / 100) old new 0 n was.count was.each refl;
    })

pub returns-clause-ranks : goal.returns-clause-ranks
returns-clause-ranks c = record {
  count = omega (arith, c.loop-share.invariant.count, c.loop-share-test.false, c.loop-share.auto.share-index-end);
  each = λ k less. c.loop-share.invariant.each k (omega (arith, less, c.loop-share-test.false));
}

pub returns-clause-few : goal.returns-clause-few
returns-clause-few c k less =
    let there : k < length c.args.shares.now = omega (
      arith,
      less,
      c.loop-share.invariant.count,
      c.loop-share-test.false,
      c.loop-share.auto.share-index-end,
    ) in
    let share = All-get_or (λ (share : ℕ). share ≤ 100) c.args.shares.now k 0 there c.requires.shares in
    let is = c.loop-share.invariant.each k (omega (arith, less, c.loop-share.invariant.count)) in
    let few = rank_few c.args.minutes (slice_index c.args.shares.now k) share in
    omega (arith, is, few)
