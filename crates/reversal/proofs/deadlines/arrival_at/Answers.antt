use Rattle.std.proofs.Common.{refl}
use Rattle.std.specs.List.{slice_index}
use Rattle.reversal.proofs.DeadlinesFound.{arrival_found}
use Rattle.reversal.proofs.deadlines.arrival_at.Goals as goal

pub returns-then-seconds : goal.returns-then-seconds
returns-then-seconds c =
    let one = c.requires.walks.each c.args.event.now.stop.0 c.requires.stop in
    record {
      holds = λ some. absurd (some refl);
      least = λ m b. absurd (one.none c.if-seconds.true b.seconds b.walk);
      none = λ never m b. one.none c.if-seconds.true b.seconds b.walk;
    }

pub returns : goal.returns
returns c =
    let stop = c.args.event.now.stop.0 in
    arrival_found c.args.feet.now c.known.ensures c.args.event.now c.args.p.0 (slice_index c.args.walks.now stop)
    c.if-not-event.false c.requires.axis c.if-seconds.false (c.requires.walks.each stop c.requires.stop)
