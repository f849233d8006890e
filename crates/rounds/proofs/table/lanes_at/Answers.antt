use Rattle.rounds.proofs.LabelsAsDurations.{part_at}
use Rattle.rounds.proofs.table.lanes_at.Goals as goal

pub returns-clause-each : goal.returns-clause-each
returns-clause-each c m l = part_at c.args.labels.now c.args.minutes c.args.number m c.requires.number l
