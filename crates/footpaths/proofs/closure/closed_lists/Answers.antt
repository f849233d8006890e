use Rattle.std.proofs.Common.{◌≡◌, ◌<◌, ◌∷◌, ◌++◌, [], ℕ, Vec, length, rules, arith, refl, ◌∙◌, subst}
use Rattle.std.specs.declared.alloc.Global.{Global}
use Rattle.std.proofs.lemmas.List.{map_push}
use Rattle.std.proofs.lemmas.List.Elements.{Contains-get_or}
use Rattle.timetable.specs.declared.trips.StopNo.{StopNo}
use Rattle.timetable.specs.Footpaths.{rows_of}
use Rattle.footpaths.specs.Dijkstra.{marks, row_of, AreFresh}
use Rattle.footpaths.proofs.ClosedRows.{row_shortest, closed_more, closed_all, sum_more, too_many}
use Rattle.footpaths.proofs.closure.closed_lists.Goals as goal

pub returns-then-reached-pairs-clause-fault : goal.returns-then-reached-pairs-clause-fault
returns-then-reached-pairs-clause-fault c =
    let h = c.loop-source.invariant in
    let m = marks c.reach.new.self in
    let here : c.loop-source.source < c.args.direct.now.stops = (let end = c.stops-source-end.ensures in
    omega (arith, end, c.loop-source-test.true)) in
    let row = row_shortest c.args.direct.now c.args.limit c.loop-source.source _ c.in_ok-footpaths.footpaths m
    c.known.ensures c.in_ok-footpaths.ensures h.count here c.requires c.in_ok-reach.ensures in
    let sum = h.sum in
    too_many c.args.direct.now.pairs c.args.limit c.loop-source.source (rows_of c.loop-source.lists.items) (row_of m)
    h.closed row
    (omega (arith, sum, c.if-reached-pairs.true, c.reached.ensures))

pub row-requires : goal.row-requires
row-requires c = λ k d below. (c.in_ok-reach.ensures.touched.reached _
    (Contains-get_or c.reach.new.self.touched.items k d below)).0

pub loop-source-preserved : goal.loop-source-preserved
loop-source-preserved c =
    let h = c.loop-source.invariant in
    let m = marks c.reach.new.self in
    let feet = rows_of c.loop-source.lists.items in
    let list = c.in_ok-row.field-0 in
    let here : c.loop-source.source < c.args.direct.now.stops = (let end = c.stops-source-end.ensures in
    omega (arith, end, c.loop-source-test.true)) in
    let row = row_shortest c.args.direct.now c.args.limit c.loop-source.source _ c.in_ok-footpaths.footpaths m
    c.known.ensures c.in_ok-footpaths.ensures h.count here c.requires c.in_ok-reach.ensures in
    let items : c.push.new.self.items ≡ c.loop-source.lists.items ++ list ∷ [] = search rules in
    let pushed : rows_of c.push.new.self.items ≡ feet ++ row_of m ∷ [] =
    rw (
      items,
      map_push (λ (w : Vec (StopNo × ℕ) Global). w.items) c.loop-source.lists.items list,
      c.in_ok-row.ensures,
    ) refl in
    let sum = h.sum in
    let more = sum_more feet (row_of m) in
    let count : length c.reach.new.self.labels.items ≡ c.args.direct.now.stops =
    c.in_ok-reach.ensures.count ∙ h.count in
    record {
      closed = rw pushed (closed_more c.args.direct.now.pairs c.args.limit c.loop-source.source feet (row_of m) h.closed
          row);
      sum = rw pushed (more ∙ (omega (arith, sum, c.reached-in-loop-source.ensures)));
      few = omega (arith, c.if-reached-pairs.false, c.reached.ensures, c.reached-in-loop-source.ensures, h.few);
      count = c.clear.ensures.count ∙ count;
      fresh = subst (λ (n : ℕ). AreFresh n (marks c.clear.new.self)) count c.clear.ensures;
    }

pub returns-clause-ok : goal.returns-clause-ok
returns-clause-ok c =
    let h = c.loop-source.invariant in
    let sum = h.sum in
    let few = h.few in
    let end : c.loop-source.source ≡ c.args.direct.now.stops = search rules in
    record {
      closed = closed_all c.args.direct.now c.args.limit c.loop-source.source (rows_of c.loop-source.lists.items)
          c.known.ensures end h.closed;
      few = omega (arith, sum, few);
    }
