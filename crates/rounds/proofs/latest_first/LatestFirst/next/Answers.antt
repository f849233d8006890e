use Rattle.std.proofs.Common.{◌≡◌, ℕ, ◌+◌, ◌-◌, slice_index, sym, subst, arith}
use Rattle.rounds.specs.LatestFirst.{IsUnderWay}
use Rattle.rounds.proofs.latest_first.LatestFirst.next.Goals as goal

pub search_batch-requires-clause-progress : goal.search_batch-requires-clause-progress
search_batch-requires-clause-progress c =
    let s = c.self.inside in
    let is = c.self.invariant.under_way in
    let same : s.from - 16 + 16 ≡ s.from = omega (arith, is.whole, c.if-self-eq0.false) in
    subst (λ (x : ℕ). IsUnderWay (record {
      net = s.renumbered;
      origin = slice_index s.numbers.now s.origin.0;
      times = s.times.now;
      rides = s.rides;
      from = x;
    }) s.lines.now s.progress) (sym same) is
