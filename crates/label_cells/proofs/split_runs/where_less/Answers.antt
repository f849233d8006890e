use Rattle.std.proofs.Common.{ltb, arith}
use Rattle.trip_lanes.proofs.VectorChoices.{sel_at}
use Rattle.label_cells.proofs.split_runs.where_less.Goals as goal
use mir.Syntax.{w16}

pub returns : goal.returns
returns c l h = sel_at w16 16 ltb c.args.one c.args.other c.args.then c.args.otherwise l h (omega arith) (omega arith)
    (omega arith) (omega arith)
