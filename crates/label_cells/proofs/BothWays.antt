-- Labels and durations lead to the same cells and access.
use Rattle.std.proofs.Common.{◌≡◌, ◌<◌, ◌∙◌, ℕ, List, Option, None, length, sym, arith}
use Rattle.std.proofs.Common.{slice_index_or}
use Rattle.std.proofs.lemmas.List.{ext_get_or}
use Rattle.std.proofs.lemmas.Option.{slice_get-get_or}
use Rattle.timetable.specs.declared.trips.StopNo.{StopNo}
use Rattle.rounds.specs.Table.{DurationTable}
use Rattle.rounds.proofs.LabelledDurations.{labels_represent}
use Rattle.shares.specs.Percentiles.{AreCellsAt}
use Rattle.shares.proofs.CellsExist.{cells_there}
use Rattle.shares.proofs.CellsUnique.{cell_unique}
use Rattle.label_cells.specs.Laws.{LabelsGiveTheCellsOfDurations, ShareCellsAreUnique}
use Rattle.label_cells.specs.ShareCells.{IsShareCells}

pub labels_give : LabelsGiveTheCellsOfDurations
labels_give n origin w k labels t q given is durations of_labels =
    of_labels t (labels_represent n origin w k labels t is durations)

-- some stops have one list of cells
cells_at_unique : (t : DurationTable) (stops : List StopNo) (share : ℕ) (some others : List (Option ℕ)) →
    AreCellsAt t stops share some → AreCellsAt t stops share others → some ≡ others
cells_at_unique t stops share some others one two =
    let no_stop : StopNo = record { 0 = 0 } in
    let count = one.count in
    ext_get_or None some others (one.count ∙ sym two.count) (λ i less.
    let stop : StopNo = slice_index_or stops i no_stop in
    let here = slice_get-get_or stops i no_stop (omega (arith, less, count)) in
    cell_unique t share stop.0 (slice_index_or some i None) (slice_index_or others i None) (one.each i stop here)
    (two.each i stop here))

pub share_cells_unique : ShareCellsAreUnique
share_cells_unique t q some others are too k share one other of_share at_one at_other =
    let first : IsShareCells t q share one = are.each k share one of_share at_one in
    let second : IsShareCells t q share other = too.each k share other of_share at_other in
    let all = cells_there t share in
    let count = first.count in (
      cells_at_unique t q.destinations.now share one.cells.items other.cells.items first.cells second.cells,
      ext_get_or 0 one.access.items other.access.items (first.count ∙ sym second.count) (λ i less.
          let within : i < length q.limits.now = omega (arith, less, count) in
          first.access i within all.0 all.1 ∙ sym (second.access i within all.0 all.1)),
    )
