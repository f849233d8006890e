use Rattle.std.proofs.Common.{◌∙◌, ℕ, Option, Vec, Global, map, ap}
use Rattle.std.specs.List.{range_with_len}
use Rattle.std.proofs.lemmas.Result.{IfOk-weaker}
use Rattle.shares.specs.Percentiles.{AreCells, AreCellsAt}
use Rattle.shares.proofs.CellsOfAllStops.{all_cells, all_within, stop_no}
use Rattle.shares.proofs.percentiles.cells.Goals as goal

pub cells_at-requires-clause-stops : goal.cells_at-requires-clause-stops
cells_at-requires-clause-stops c =
    all_within c.args.durations.now c.deref.result.now (c.deref.ensures.value ∙ c.in_ok-all.ensures
    ∙ ap (λ (n : ℕ). map stop_no (range_with_len 0 n)) c.stops.ensures)

pub returns : goal.returns
returns c =
    let t = c.args.durations.now in
    let share = c.args.share in
    let all = c.deref.ensures.value ∙ c.in_ok-all.ensures
    ∙ ap (λ (n : ℕ). map stop_no (range_with_len 0 n)) c.stops.ensures in
    IfOk-weaker c.cells_at.result (λ (v : Vec (Option ℕ) Global). AreCellsAt t c.deref.result.now share v.items)
    (λ (v : Vec (Option ℕ) Global). AreCells t share v.items)
    (λ v are. all_cells t c.deref.result.now all share v.items are) c.cells_at.ensures
