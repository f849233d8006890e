use Rattle.std.proofs.Common.{arith}
use Rattle.useful_minutes.proofs.InnerStops.{inner_noted}
use Rattle.useful_minutes.proofs.marks.note_inner.Goals as goal

pub returns-then-is_inner : goal.returns-then-is_inner
returns-then-is_inner c =
    inner_noted c.args.network.now c.args.walks.now c.args.inner.now c.args.stop.0
    (omega (arith, c.requires.stop, c.requires.walks, c.requires.inner.long)) (c.is_inner.ensures c.if-is_inner.true)
    c.requires.inner
