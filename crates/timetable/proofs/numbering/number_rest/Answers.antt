use Rattle.std.proofs.Common.{arith}
use Rattle.timetable.proofs.NumberedStops.{all_numbered}
use Rattle.timetable.proofs.numbering.number_rest.Goals as goal

pub returns : goal.returns
returns c = all_numbered c.args.stops c.loop-stop.stop c.loop-stop.numbering.numbers.items
    c.loop-stop.numbering.order.items c.loop-stop.invariant.begun c.loop-stop.invariant.all (omega arith)
