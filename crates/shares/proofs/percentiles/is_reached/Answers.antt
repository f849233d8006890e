use Rattle.std.proofs.Common.{◌≡◌, ◌<◌, ◌≤◌, ℕ, Some, sym, subst, arith}
use Rattle.std.specs.Prelude.{IsTrue, ◌↔◌}
use Rattle.rounds.specs.Table.{at, known_of, label_in}
use Rattle.shares.specs.Percentiles.{Attains, HoldMinutes}
use Rattle.shares.proofs.MinutesWithinLimits.{reached_further, reached_nearer}
use Rattle.shares.proofs.percentiles.is_reached.Goals as goal

pub attains-requires-clause-lanes : goal.attains-requires-clause-lanes
attains-requires-clause-lanes c =
    subst (λ (n : ℕ). HoldMinutes c.lanes_of-lanes.result.now n) (sym c.minutes.ensures) (record {
      few = c.known.ensures.few_minutes;
      batches = c.lanes_of-lanes.ensures.batches;
      dead = c.lanes_of-lanes.ensures.dead;
    })

pub returns : goal.returns
returns c =
    let t = c.args.durations.now in
    let p = c.args.stop.0 in
    let lanes = c.lanes_of-lanes.result.now in
    let labels = λ (m : ℕ). known_of (label_in lanes m) in
    let is = subst (λ (n : ℕ). IsTrue c.attains.result
    ↔ Attains (λ m. known_of (label_in lanes m)) n c.args.share c.reach_of.result) c.minutes.ensures
    c.attains.ensures in
    let all : (m s : ℕ) → m < t.minutes → known_of (label_in lanes m) ≡ Some s → s ≤ c.args.within →
    s ≤ c.reach_of.result =
    λ m s l. c.reach_of.ensures.all m s (let long = c.lanes_of-lanes.ensures.batches in omega (arith, l, long)) in (
      λ h. reached_further (λ m. known_of (label_in lanes m)) (λ m. at t p m) t.minutes c.args.share c.reach_of.result
          c.args.within c.lanes_of-lanes.ensures.minutes c.reach_of.ensures.upto all (is.0 h),
      λ h. is.1 (reached_nearer (λ m. known_of (label_in lanes m)) (λ m. at t p m) t.minutes c.args.share
          c.reach_of.result c.args.within c.lanes_of-lanes.ensures.minutes c.reach_of.ensures.upto all h),
    )
