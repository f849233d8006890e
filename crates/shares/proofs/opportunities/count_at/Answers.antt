use Rattle.rounds.specs.Table.{at}
use Rattle.shares.proofs.MinutesWithinLimits.{counted_in, counted_out}
use Rattle.shares.proofs.opportunities.count_at.Goals as goal

pub returns-then-is_reached-clause-value : goal.returns-then-is_reached-clause-value
returns-then-is_reached-clause-value c cell is =
    let t = c.args.durations.now in
    counted_in (λ m. at t c.args.stop.0 m) t.minutes c.args.share c.args.within c.args.opportunities cell is
    (c.is_reached.ensures.0 c.if-is_reached.true)

pub returns-else-is_reached-clause-value : goal.returns-else-is_reached-clause-value
returns-else-is_reached-clause-value c cell is =
    let t = c.args.durations.now in
    counted_out (λ m. at t c.args.stop.0 m) t.minutes c.args.share c.args.within c.args.opportunities cell is (λ a.
    let yes = c.is_reached.ensures.1 a in
    let no = c.if-is_reached.false in
    absurd (cc))
