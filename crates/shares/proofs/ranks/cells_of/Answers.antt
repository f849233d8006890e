use Rattle.std.proofs.Common.{◌∙◌, ℕ, Option, Vec, Global, map, ap}
use Rattle.std.specs.List.{range_with_len}
use Rattle.std.proofs.lemmas.Result.{IfOk-weaker}
use Rattle.shares.specs.Percentiles.{AreCellsOf, AreCellsOfAt}
use Rattle.shares.proofs.CellsOfAllStops.{all_lists, all_within, stop_no}
use Rattle.shares.proofs.ranks.cells_of.Goals as goal

pub cells_of_at-requires-clause-stops : goal.cells_of_at-requires-clause-stops
cells_of_at-requires-clause-stops c =
    all_within c.args.durations.now c.deref.result.now (c.deref.ensures.value ∙ c.in_ok-all.ensures
    ∙ ap (λ (n : ℕ). map stop_no (range_with_len 0 n)) c.stops.ensures)

pub returns : goal.returns
returns c =
    let t = c.args.durations.now in
    let shares = c.args.shares.now in
    let all = c.deref.ensures.value ∙ c.in_ok-all.ensures
    ∙ ap (λ (n : ℕ). map stop_no (range_with_len 0 n)) c.stops.ensures in
    IfOk-weaker c.cells_of_at.result
    (λ (v : Vec (Vec (Option ℕ) Global) Global). AreCellsOfAt t c.deref.result.now shares v.items)
    (λ (v : Vec (Vec (Option ℕ) Global) Global). AreCellsOf t shares v.items)
    (λ v are. all_lists t c.deref.result.now all shares v.items are) c.cells_of_at.ensures
