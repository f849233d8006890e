use Rattle.table_files.proofs.EndFacts.{no_stops_pair}
use Rattle.table_files.proofs.ends.have_pair.Goals as goal

pub returns-then-is_empty : goal.returns-then-is_empty
returns-then-is_empty c = no_stops_pair c.args.from.now c.args.to.now c.if-is_empty.ensures
