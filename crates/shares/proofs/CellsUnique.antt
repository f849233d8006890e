-- Cells are unique.
use Rattle.std.proofs.Common.{◌<◌, None, slice_index_or, sym, ◌∙◌, arith}
use Rattle.std.proofs.lemmas.List.{ext_get_or}
use Rattle.rounds.proofs.DurationsUnique.{option_unique}
use Rattle.rounds.specs.Table.{at}
use Rattle.shares.specs.Percentiles.{Attains}
use Rattle.shares.specs.Laws.{CellIsUnique, CellsAreUnique}

pub cell_unique : CellIsUnique
cell_unique t share p a b h g = option_unique (Attains (λ m. at t p m) t.minutes share) a b h g

pub cells_unique : CellsAreUnique
cells_unique t share xs ys a b =
    ext_get_or None xs ys (a.stops ∙ sym b.stops) (λ p below.
    let within : p < t.stops = omega (arith, a.stops) in
    cell_unique t share p (slice_index_or xs p None) (slice_index_or ys p None) (a.each p within) (b.each p within))
