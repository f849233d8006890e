use Rattle.std.proofs.Common.{ℕ, slice_index, if◌then◌else◌, ◌∙◌, ap, arith}
use Rattle.std.specs.Prelude.{nat_le}
use Rattle.rounds.specs.Table.{known_of}
use Rattle.shares.specs.Opportunities.{counted}
use Rattle.label_cells.proofs.AccessByStop.{counted_known}
use Rattle.label_cells.proofs.SumsOfPlaces.{sum_next}
use Rattle.label_cells.proofs.share_cells.sum_within.Goals as goal

pub loop-p-preserved : goal.loop-p-preserved
loop-p-preserved c =
    let p = c.loop-p.p in
    let of_stops = c.args.of_stops.now in
    let ns = c.args.opportunities.now in
    let limit = c.args.limit in
    let one = c.counted-sum.ensures.value
    ∙ (ap (λ (m : ℕ). if nat_le (slice_index of_stops p) m then slice_index ns p else 0) c.min-limit.ensures
    ∙ counted_known (slice_index of_stops p) (slice_index ns p) limit (omega (arith, c.ranges.limit))) in
    let next = sum_next (λ q. counted (known_of (slice_index of_stops q)) (slice_index ns q) limit) p in
    record {
      sum = omega (arith, c.loop-p.invariant.sum, next, one);
      bound = omega (arith, c.loop-p.invariant.bound, c.counted-sum.ensures.bound);
    }
