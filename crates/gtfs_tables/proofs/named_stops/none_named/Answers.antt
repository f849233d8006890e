use Rattle.std.proofs.Common.{◌≡◌, false, replicate, rules, subst}
use Rattle.gtfs_tables.proofs.MarkFacts.{none_marked}
use Rattle.gtfs_tables.proofs.NamedFacts.{none_named}
use Rattle.gtfs_tables.proofs.named_stops.none_named.Goals as goal

pub returns : goal.returns
returns c =
    let stops = c.args.feed.now.stops in
    let count = c.stop_count-stops.result in
    let marks : c.in_ok-vec.field-0.items ≡ replicate count false = search rules in
    let zeros : c.in_ok-vec-2.field-0.items ≡ replicate count 0 = search rules in
    none_named stops _ (none_marked stops count c.in_ok-vec.field-0.items c.stop_count-stops.ensures marks)
    c.new.ensures.items
    (subst (λ n. c.in_ok-vec-2.field-0.items ≡ replicate n 0) c.stop_count-stops.ensures zeros)
