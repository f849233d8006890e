use Rattle.std.proofs.Common.{◌≡◌, ◌≤◌, ◌+◌, ◌-◌, ◌/◌, ℕ, arith, inl, inr, subst, IsTrue, false, ◌↔◌}
use Rattle.std.proofs.lemmas.Bool.{cases_lt}
use Rattle.shares.specs.Percentiles.{Attains}
use Rattle.rounds.specs.Table.{known_of, label_in}
use Rattle.shares.proofs.MinutesWithinLimits.{attains_more, attains_top}
use Rattle.shares.proofs.percentiles.least_attained.Goals as goal

pub loop-low-preserved : goal.loop-low-preserved
loop-low-preserved c = record {
  order = omega (arith, c.loop-low-test.true);
  top = c.loop-low.invariant.top;
  below = λ d h a.
      let middle = c.loop-low.low + (c.loop-low.high - c.loop-low.low) / 2 in
      let low : d ≤ middle = omega (arith, h) in
      let more = attains_more (λ m. known_of (label_in c.args.lanes.now m)) c.args.minutes c.args.share d middle low a
      in
      let is : IsTrue false ↔ Attains (λ m. known_of (label_in c.args.lanes.now m)) c.args.minutes c.args.share middle =
      c.if-attains.ensures in
      let wrong : IsTrue false = is.1 more in
      absurd (grind (arith, wrong));
  above = c.loop-low.invariant.above;
}

pub returns : goal.returns
returns c =
    let same : c.loop-low.high ≡ c.loop-low.low = omega (arith, c.loop-low-test.false, c.loop-low.invariant.order) in
    record {
      holds = subst (λ (k : ℕ). Attains (λ m. known_of (label_in c.args.lanes.now m)) c.args.minutes c.args.share k)
          same c.loop-low.invariant.above;
      least = λ e a. elim (cases_lt e c.loop-low.low) [
        | inl l ↦ absurd (c.loop-low.invariant.below e l a)
        | inr g ↦ g
      ];
    }

pub returns-then-not-attains : goal.returns-then-not-attains
returns-then-not-attains c = λ d a.
    let high = c.greatest-high.result in
    let top = attains_top (λ m. known_of (label_in c.args.lanes.now m)) c.args.minutes c.args.share high d
    (λ m s l is. c.greatest-high.ensures.greatest m s (let many = c.requires.lanes.batches in
    omega (arith, many, l)) is) a in
    let is : IsTrue false ↔ Attains (λ m. known_of (label_in c.args.lanes.now m)) c.args.minutes c.args.share high =
    c.if-not-attains.ensures in
    let wrong : IsTrue false = is.1 top in
    absurd (grind (arith, wrong))
