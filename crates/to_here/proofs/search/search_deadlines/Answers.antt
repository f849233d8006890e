use Rattle.std.proofs.Common.{arith}
use Rattle.to_here.proofs.RowSearched.{row_empty}
use Rattle.to_here.proofs.search.search_deadlines.Goals as goal

pub returns-then-deadlines-eq0 : goal.returns-then-deadlines-eq0
returns-then-deadlines-eq0 c =
    row_empty c.args.question c.requires.question c.known.ensures c.args.deadlines.now c.requires.deadlines
    (omega (arith, c.if-deadlines-eq0.true)) c.args.row.now c.requires.row
