use Rattle.std.proofs.Common.{◌<◌, ◌∙◌, slice_index, ap, subst, arith}
use Rattle.rounds.specs.LatestFirst.{DepartureSearch, IsLaneDuration, after_batch}
use Rattle.to_here.proofs.RowSearched.{alone, same_stops}
use Rattle.to_here.proofs.search.labels_of_end.Goals as goal

pub returns-clause-each : goal.returns-clause-each
returns-clause-each c o l =
    let q = c.args.question in
    let ok = c.known.ensures in
    let at = c.next.ensures.new ∙ ap after_batch c.in_ok-search.ensures in
    let label = slice_index c.in_ok-labels.labels.items o in
    let stops = same_stops q c.requires.question ok in
    let lane = subst (λ (s : DepartureSearch). o < s.net.stops → IsLaneDuration s o 0 label) at
    (c.in_ok-labels.ensures.each o) in
    alone q c.requires.question ok c.args.end o label (lane (omega (arith, l, stops)))
