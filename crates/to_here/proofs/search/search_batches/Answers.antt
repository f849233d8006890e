use Rattle.std.proofs.Common.{◌≡◌, ◌-◌, ◌*◌, ◌∙◌, ℕ, List, length, slice_index, sym, ap, subst, arith}
use Rattle.std.proofs.lemmas.List.{get_or_default}
use Rattle.rounds.specs.LatestFirst.{DepartureSearch}
use Rattle.rounds.specs.Query.{AreDepartures}
use Rattle.rounds.specs.Table.{batches_of}
use Rattle.to_here.specs.Row.{AreLastFronts}
use Rattle.to_here.specs.Search.{IsSearchOf}
use Rattle.to_here.proofs.RowSearched.{departures_ascend, in_range, row_complete, row_reached}
use Rattle.to_here.proofs.search.search_batches.Goals as goal

pub labels_of_end-requires-clause-end : goal.labels_of_end-requires-clause-end
labels_of_end-requires-clause-end c =
    in_range c.args.question c.requires.question c.known.ensures c.args.deadlines.now c.requires.deadlines
    (length c.args.deadlines.now - 1) (omega (arith, c.requires.some))

pub mirrored_departures-requires : goal.mirrored_departures-requires
mirrored_departures-requires c k d l =
    let times = c.args.deadlines.now in
    let low = in_range c.args.question c.requires.question c.known.ensures times c.requires.deadlines k l in
    let e = get_or_default times k d 0 l in
    omega (arith, low, e)

pub new-requires-clause-times : goal.new-requires-clause-times
new-requires-clause-times c =
    subst AreDepartures (sym c.deref-2.ensures.value)
    (departures_ascend c.args.question c.requires.question c.known.ensures c.args.deadlines.now c.requires.deadlines
    c.requires.some c.in_ok-departures.departures.items c.in_ok-departures.ensures)

pub returns-then-is_row_full : goal.returns-then-is_row_full
returns-then-is_row_full c =
    let q = c.args.question in
    let times = c.args.deadlines.now in
    let w = q.window in
    let end = slice_index times (length times - 1) in
    let labels = c.in_ok-labels.labels.items in
    let lasts = c.in_ok-lasts.lasts.items in
    let left = c.advance_next.new.search.from in
    let is : left ≡ c.loop.search.from - 16 = ap (λ (x : DepartureSearch). x.from) c.advance_next.ensures.search in
    let ends = subst (λ (ls : List ℕ). AreLastFronts w end ls lasts) c.deref.ensures.value c.in_ok-lasts.ensures in
    row_reached q c.requires.question c.known.ensures times c.requires.deadlines (length times - left)
    (omega (arith, is, c.loop.invariant.from, c.requires.some)) (omega arith) labels lasts c.advance_next.new.row
    c.advance_next.ensures.row c.in_ok-labels.ensures.count c.in_ok-labels.ensures.each ends
    (λ o x at.
    let full = c.is_row_full.ensures c.if-is_row_full.true o x at in
    let e = ap (λ (ls : List ℕ). slice_index ls o) c.deref-in-loop.ensures.value in
    omega (arith, full, e))

pub loop-preserved : goal.loop-preserved
loop-preserved c =
    let q = c.args.question in
    let times = c.args.deadlines.now in
    let s = c.loop.invariant.search in
    let is : c.advance_next.new.search.from ≡ c.loop.search.from - 16 =
    ap (λ (x : DepartureSearch). x.from) c.advance_next.ensures.search in
    let batches : c.in_ok-search.search.from ≡ 16 * batches_of (length c.deref-2.result.now) =
    ap (λ (x : DepartureSearch). x.from) c.in_ok-search.ensures in
    let count : length c.deref-2.result.now ≡ length times =
    ap length c.deref-2.ensures.value ∙ c.in_ok-departures.ensures.count in
    record {
      search = subst (IsSearchOf q times) (sym c.advance_next.ensures.search) (record {
        net = s.net;
        origin = s.origin;
        rides = s.rides;
        departures = s.departures;
      });
      from = omega (
        arith,
        is,
        batches,
        count,
        c.loop.invariant.from,
        c.loop-test.true,
        c.position-batches.ensures.position,
      );
      row = c.advance_next.ensures.row;
    }

pub returns : goal.returns
returns c =
    let q = c.args.question in
    let times = c.args.deadlines.now in
    let left = c.loop.search.from in
    let batches : c.in_ok-search.search.from ≡ 16 * batches_of (length c.deref-2.result.now) =
    ap (λ (x : DepartureSearch). x.from) c.in_ok-search.ensures in
    let count : length c.deref-2.result.now ≡ length times =
    ap length c.deref-2.ensures.value ∙ c.in_ok-departures.ensures.count in
    let none : left ≡ 0 = omega (
      arith,
      batches,
      count,
      c.loop.invariant.from,
      c.loop-test.false,
      c.position-batches.ensures.position,
    ) in
    row_complete q c.requires.question c.known.ensures times c.requires.deadlines (length times - left)
    (omega (arith, none, c.requires.some)) (omega arith) c.loop.row (omega (arith, none)) c.loop.invariant.row
