use Rattle.std.proofs.Common.{ℕ, sym, subst}
use Rattle.rounds.specs.Table.{at, known_of, label_in, IsLeastOrNone}
use Rattle.shares.specs.Percentiles.{Attains, HoldMinutes}
use Rattle.shares.proofs.MinutesWithinLimits.{cell_alike}
use Rattle.shares.proofs.percentiles.cell.Goals as goal

pub least_attained-requires-clause-lanes : goal.least_attained-requires-clause-lanes
least_attained-requires-clause-lanes c =
    subst (λ (n : ℕ). HoldMinutes c.lanes_of.result.now n) (sym c.minutes.ensures) (record {
      few = c.known.ensures.few_minutes;
      batches = c.lanes_of.ensures.batches;
      dead = c.lanes_of.ensures.dead;
    })

pub returns : goal.returns
returns c =
    let t = c.args.durations.now in
    let p = c.args.stop.0 in
    let lanes = c.lanes_of.result.now in
    let is = subst (λ (n : ℕ). IsLeastOrNone (Attains (λ m. known_of (label_in lanes m)) n c.args.share)
    c.least_attained.result) c.minutes.ensures c.least_attained.ensures in
    cell_alike (λ m. known_of (label_in lanes m)) (λ m. at t p m) t.minutes c.args.share c.least_attained.result
    c.lanes_of.ensures.minutes is
