use Rattle.std.proofs.Common.{◌≡◌, ◌*◌, ℕ, Bool, List, Vec, Global, length, slice_index, ap}
use Rattle.std.proofs.Common.{subst, sym, ◌∙◌, arith}
use Rattle.std.proofs.lemmas.Result.{IfOk-weaker}
use Rattle.rounds.specs.Table.{DurationTable}
use Rattle.label_cells.specs.declared.share_cells.ShareCells.{ShareCells}
use Rattle.label_cells.specs.Groups.{AreRankCells}
use Rattle.label_cells.specs.ShareCells.{AreOfRanks, AreRanks, AreShareCells}
use Rattle.rounds.specs.Labels.{Represent}
use Rattle.label_cells.proofs.CellsOfShares.{share_cells}
use Rattle.label_cells.proofs.StopsOfGroups.{rows_within}
use Rattle.label_cells.proofs.share_cells.cells_and_access.Goals as goal

pub of_ranks-requires-clause-cells : goal.of_ranks-requires-clause-cells
of_ranks-requires-clause-cells c p less =
    let w = c.args.window in
    let ranks = c.as_slice-ranks.result.now in
    let n = length w.numbers.now in
    let rows = rows_within n (slice_index w.numbers.now p) (length ranks) (c.requires.window.numbers p less) in
    let groups : length c.as_slice.result.now ≡ length c.in_ok-used.used.items = ap length c.as_slice.ensures.value in
    let size = c.in_ok-cells.ensures.size in
    let cells : length c.as_slice-2.result.now ≡ length c.in_ok-cells.cells.items = ap length
    c.as_slice-2.ensures.value in
    let of_groups = ap (λ (g : ℕ). g * length ranks) (groups ∙ c.in_ok-used.ensures.count) in
    omega (arith, rows, size, cells, of_groups)

pub returns : goal.returns
returns c =
    let w = c.args.window in
    let q = c.args.question in
    let ranks = c.as_slice-ranks.result.now in
    let used = c.in_ok-used.used.items in
    let cells = c.in_ok-cells.cells.items in
    let ranked = subst (λ (xs : List ℕ). AreRanks w.minutes q.shares.now xs) (sym c.as_slice-ranks.ensures.value)
    c.in_ok-rank_list.ensures.ranks in
    let are = subst (λ (xs : List Bool). AreRankCells w xs ranks cells) c.as_slice.ensures.value
    c.in_ok-cells.ensures in
    IfOk-weaker c.of_ranks.result
    (λ (v : Vec ShareCells Global). AreOfRanks (length ranks) c.as_slice-2.result.now w.numbers.now q (length ranks)
    v.items)
    (λ (v : Vec ShareCells Global). (t : DurationTable) → Represent w t → AreShareCells t q v.items)
    (λ v of t means. share_cells w q t c.requires.window means used ranks cells ranked are c.requires.destinations
    c.requires.opportunities c.in_ok-used.ensures.destinations c.in_ok-used.ensures.opportunities v.items
    (subst (λ (xs : List (List ℕ)). AreOfRanks (length ranks) xs w.numbers.now q (length ranks) v.items)
    c.as_slice-2.ensures.value of)) c.of_ranks.ensures
