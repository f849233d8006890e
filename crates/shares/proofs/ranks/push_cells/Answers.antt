use Rattle.std.proofs.Common.{◌<◌, length, get_or, arith}
use Rattle.std.proofs.lemmas.Option.{slice_get_within, slice_get-get_or}
use Rattle.shares.proofs.RankAmongMinutes.{longer_next}
use Rattle.shares.proofs.ranks.push_cells.Goals as goal

pub loop-k-preserved : goal.loop-k-preserved
loop-k-preserved c =
    let k = c.loop-k.k in
    let shares = c.args.shares.now in
    let in_shares : k < length shares = c.loop-k-test.true in
    let in_lists : k < length c.loop-k.lists = omega (arith, in_shares, c.loop-k.invariant.count, c.requires.count) in
    let was = c.index-lists-k.result in
    longer_next c.args.lanes.now c.args.minutes shares c.args.lists.now c.loop-k.lists k (get_or shares k 0)
    (get_or c.loop-k.lists k was) c.push.new.self c.loop-k.invariant
    (slice_get-get_or c.loop-k.lists k was in_lists) (slice_get-get_or shares k 0 in_shares)
    (record { cell = c.at_rank.result; items = c.in_ok-push.ensures.items; is_cell = c.at_rank.ensures })

pub returns-clause-longer : goal.returns-clause-longer
returns-clause-longer c = record {
  count = c.loop-k.invariant.count;
  each = λ k share before after of_share.
      let in_shares = slice_get_within c.args.shares.now k share of_share in
      c.loop-k.invariant.done k share before after (omega (arith, in_shares, c.loop-k-test.false)) of_share;
}
