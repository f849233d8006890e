use Rattle.std.proofs.Common.{◌≡◌, ◌<◌, ℕ, List, length, ap, refl, subst, ◌∙◌}
use Rattle.rounds.specs.Table.{known_of}
use Rattle.rounds.proofs.BoundedStops.{written}
use Rattle.rounds.specs.Labels.{least_walk, lesser}
use Rattle.label_cells.specs.Groups.{cell_at}
use Rattle.label_cells.proofs.StopsOfGroups.{cell_with_walks}
use Rattle.label_cells.proofs.group_cells.rank_cells.Goals as goal

pub returns : goal.returns
returns c =
    let w = c.args.window in
    let ranks = c.args.ranks.now in
    let walks = w.walks.now in
    let cells = c.in_ok-cells.cells in
    let new = c.lower_walks.new.cells in
    let had = c.as_mut_slice.ensures.value in
    let same : length new ≡ length cells.items = c.lower_walks.ensures.same ∙ ap length had in
    let back = written cells new refl had c.as_mut_slice.ensures.len same in
    let walked = subst (λ (xs : List (List ℕ)). (q k : ℕ) → k < length ranks → known_of (cell_at (length ranks) new q k)
    ≡ lesser (known_of (cell_at (length ranks) xs q k)) (least_walk walks q (length walks))) had
    c.lower_walks.ensures.walked in
    rw back (record {
      size = same ∙ c.in_ok-cells.ensures.size;
      each = cell_with_walks w c.args.used.now ranks cells.items new c.in_ok-cells.ensures c.requires.used
          c.requires.ranks
          walked;
    })
