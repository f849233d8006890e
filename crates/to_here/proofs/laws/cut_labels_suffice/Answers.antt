use Rattle.to_here.proofs.CutLabels.{cut_labels_suffice}
use Rattle.to_here.proofs.laws.cut_labels_suffice.Goals as goal

pub returns : goal.returns
returns c = cut_labels_suffice
