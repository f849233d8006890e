use Rattle.std.proofs.Common.{◌≡◌, ◌+◌, ◌-◌, ◌<◌, ℕ, length, take, sym, ap, subst, arith}
use Rattle.std.specs.List.{slice_range}
use Rattle.rounds.specs.LatestFirst.{DepartureSearch}
use Rattle.to_here.specs.Search.{AreOriginsSearched, HaveTaken}
use Rattle.to_here.proofs.BatchTaken.{batch_taken}
use Rattle.to_here.proofs.search.advance_next.Goals as goal

pub returns-clause-row : goal.returns-clause-row
returns-clause-row c =
    let q = c.args.question in
    let w = q.window in
    let times = c.args.deadlines.now in
    let count = length times in
    let s = c.args.search.now in
    let after = c.next.new.self in
    let old = c.args.row.now in
    let new = c.advance_batch.new.row in
    let from = c.saturating_sub-from.result in
    let to = c.saturating_sub-to.result in
    let left : after.from ≡ s.from - 16 = ap (λ (x : DepartureSearch). x.from) c.next.ensures.new in
    let is_from : from ≡ count - s.from = omega (arith, c.saturating_sub-from.ensures, c.position.ensures.position) in
    let is_to : to ≡ count - (s.from - 16) =
    omega (arith, c.saturating_sub-to.ensures, c.position-2.ensures.position, left) in
    let taken = subst (λ (x : DepartureSearch). HaveTaken w
    (slice_range times (count - s.from) (count - (s.from - 16))) x old new) c.next.ensures.new
    (subst (λ (i : ℕ). HaveTaken w (slice_range times i (count - (s.from - 16))) after old new) is_from
    (subst (λ (i : ℕ). HaveTaken w (slice_range times from i) after old new) is_to c.advance_batch.ensures.taken)) in
    let few : s.from < count + 16 = omega (arith, c.position.ensures.few, c.requires.search.departures.count) in
    subst (λ (k : ℕ). AreOriginsSearched q (take (count - k) times) new) (sym left)
    (batch_taken q times s c.requires.search c.requires.more c.position.ensures.whole few old new
    c.requires.row c.advance_batch.ensures.count c.advance_batch.ensures.origins taken)
