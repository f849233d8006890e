use Rattle.rounds.proofs.LabelledDurations.{labels_represent}
use Rattle.rounds.proofs.laws.labels_represent_durations.Goals as goal

pub returns : goal.returns
returns c = labels_represent
