use Rattle.std.proofs.Common.{◌≡◌, List, map, subst, sym}
use Rattle.std.proofs.lemmas.Result.{IfOk-weaker}
use Rattle.collector.specs.Row.{CellsData}
use Rattle.workers.specs.Study.{study_of}
use Rattle.workers.specs.FoundRows.{AreOfLabels, row_cells}
use Rattle.workers.proofs.FoundRows.{labels_give}
use Rattle.workers.proofs.rows.shares_of_labels.Goals as goal

pub returns : goal.returns
returns c =
    let s = c.args.study.now in
    let labels = c.args.labels in
    let given = c.in_ok-given.given.items in
    let gives = labels_give s labels given c.requires.fits c.requires.stops c.in_ok-given.ensures in
    IfOk-weaker c.in_row.result (λ shares. shares.items ≡ map row_cells given)
    (λ shares. AreOfLabels labels (study_of s) shares.items)
    (λ shares same. subst (λ (l : List CellsData). AreOfLabels labels (study_of s) l) (sym same) gives)
    c.in_row.ensures
