use Rattle.std.proofs.Common.{subst}
use Rattle.rounds.specs.Table.{DurationTable, IsDurationTable}
use Rattle.rounds.proofs.LabelsAsDurations.{table_in_range}
use Rattle.rounds.proofs.table.Durations.known.Goals as goal

pub returns : goal.returns
returns c =
    let d = c.self.inside in
    subst (λ (t : DurationTable). IsDurationTable t) c.self.view_is
    (table_in_range d.stops d.minutes d.numbers.items d.labels.items c.self.invariant)
