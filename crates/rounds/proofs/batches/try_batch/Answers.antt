use Rattle.std.proofs.Common.{◌≢◌, ◌+◌, slice_index, arith}
use Rattle.rounds.specs.Batches.{departure_at}
use Rattle.rounds.proofs.LastArrivals.{none_late}
use Rattle.rounds.proofs.SearchedBatches.{after_first}
use Rattle.rounds.proofs.batches.try_batch.Goals as goal

pub returns-clause-exact : goal.returns-clause-exact
returns-clause-exact g c =
    let q = c.args.query in
    let from = c.args.from in
    let are = c.run_batch-batch.ensures.arrivals in
    let suffice = c.in_ok-labels_suffice_for_reachable.ensures in
    record {
      early = are.early;
      before = λ l h within. let t = (are.departures l h).used within in omega (arith, t);
      near = λ l h within. let near = are.near l h within in omega (arith, near);
      each = λ l p h within there.
          let t = (are.departures l h).used within in
          let near = are.near l h within in
          let departures : slice_index (g.R.LaneLabels.labels c.run_batch-batch.result.departures) l ≢ g.R.LaneLabels.NEVER =
          λ late. omega (arith, late, t, near) in
          are.told l p h within there (λ late. none_late q.network.now q.origin.0 (departure_at q 0) q.rides
          c.labels_suffice_for_reachable.new.last_arrivals.times.items suffice.last_arrivals.none_later (departure_at q (from + l))
          (c.run_batch-batch.result.base + g.R.LaneLabels.NEVER) p
          (after_first q.times.now c.requires.search.query.times (from + l) within) there
          (suffice.suffice c.if-not-branch.false l p h (omega (arith, there, c.run_batch-batch.ensures.workspace.ready))
          departures late) near);
    }
