use Rattle.std.proofs.Common.{◌≡◌, ℕ, ◌<◌, get_or, min, slice_get, slice_index, set, Some, sym, ◌∙◌, List, length, ap}
use Rattle.std.proofs.Common.{subst, rules, arith, replicate}
use Rattle.std.proofs.lemmas.List.{get_or_default, get_or-set_other, get_or-set_same, length-set}
use Rattle.std.proofs.lemmas.Option.{slice_get-get_or}
use Rattle.std.proofs.lemmas.Simd.{get_or-replicate}
use Rattle.timetable.specs.declared.trips.StopNo.{StopNo}
use Rattle.timetable.proofs.KnownParts.{foot_in_range}
use Rattle.useful_minutes.proofs.WalksAlone.{walked_not_yet, walked_more, walked_all}
use Rattle.useful_minutes.proofs.marks.walks_from.Goals as goal

pub loop-stop-init : goal.loop-stop-init
loop-stop-init c =
    let n = c.args.network.now in
    let origin : ℕ = c.args.origin.0 in
    let walks = c.in_ok-walks.walks.items in
    let row = c.leaving-stop-items.result.now in
    let items : walks ≡ replicate c.stops.result 4294967295 =
    c.in_ok-walks.ensures.items_if_clones_equal (λ y h. search rules) in
    let size : length walks ≡ n.stops =
    omega (arith, c.in_ok-walks.ensures.len, c.in_ok-walks.walks.ok.0, c.stops.ensures) in
    let long = length-set walks origin 0 in
    record {
      long = omega (arith, size, long);
      each = λ p l. walked_not_yet n origin row p (slice_index (set walks origin 0) p)
          (λ e. ap (λ (i : ℕ). slice_index (set walks origin 0) i) e
          ∙ get_or-set_same walks origin 0 0 (omega (arith, c.requires.origin, size)))
          (λ ne. get_or-set_other walks origin p 0 0 ne ∙ (ap (λ (xs : List ℕ). slice_index xs p) items
          ∙ get_or-replicate {A = ℕ} c.stops.result p 4294967295 0 (omega (arith, l, c.stops.ensures))));
    }

pub index-requires : goal.index-requires
index-requires c =
    let n = c.args.network.now in
    let row = c.leaving-stop-items.result.now in
    let k = c.loop-stop.stop-index in
    let none : StopNo × ℕ = (record { 0 = 0 }, 0) in
    let here = slice_get-get_or row k none c.loop-stop-test.true in
    let at : slice_get n.feet.walks c.args.origin.0 ≡ Some row = rw c.feet.ensures at c.leaving-stop-items.ensures in
    let target = foot_in_range n.feet c.known.ensures.feet c.args.origin.0 (get_or row k none).0.0 (get_or row k none).1
    (row, k, at, here) in
    omega (arith, target.0, c.known.ensures.in_range.lists, c.loop-stop.invariant.long, c.loop-stop.walks.ok.0)

pub index_mut-requires-in-loop-stop : goal.index_mut-requires-in-loop-stop
index_mut-requires-in-loop-stop c =
    let n = c.args.network.now in
    let row = c.leaving-stop-items.result.now in
    let k = c.loop-stop.stop-index in
    let none : StopNo × ℕ = (record { 0 = 0 }, 0) in
    let here = slice_get-get_or row k none c.loop-stop-test.true in
    let at : slice_get n.feet.walks c.args.origin.0 ≡ Some row = rw c.feet.ensures at c.leaving-stop-items.ensures in
    let target = foot_in_range n.feet c.known.ensures.feet c.args.origin.0 (get_or row k none).0.0 (get_or row k none).1
    (row, k, at, here) in
    omega (arith, target.0, c.known.ensures.in_range.lists, c.loop-stop.invariant.long, c.loop-stop.walks.ok.0)

pub loop-stop-preserved : goal.loop-stop-preserved
loop-stop-preserved c =
    let n = c.args.network.now in
    let row = c.leaving-stop-items.result.now in
    let k = c.loop-stop.stop-index in
    let none : StopNo × ℕ = (record { 0 = 0 }, 0) in
    let walk = get_or row k none in
    let here = slice_get-get_or row k none c.loop-stop-test.true in
    let at : slice_get n.feet.walks c.args.origin.0 ≡ Some row = rw c.feet.ensures at c.leaving-stop-items.ensures in
    let target = foot_in_range n.feet c.known.ensures.feet c.args.origin.0 walk.0.0 walk.1 (row, k, at, here) in
    let old = c.loop-stop.invariant in
    let walks = c.loop-stop.walks.items in
    let x : ℕ = c.min.result in
    let long = length-set walks walk.0.0 x in
    let inside : walk.0.0 < length walks = omega (arith, target.0, c.known.ensures.in_range.lists, old.long) in
    let read = get_or_default walks walk.0.0 c.index.result.now 0 inside in
    let least : x ≡ min (slice_index walks walk.0.0) walk.1 = omega (arith, c.min.ensures, read) in
    record {
      long = omega (arith, old.long, long);
      each = λ p l. walked_more n c.args.origin.0 row at k p 4294967295 (slice_index walks p)
          (slice_index (set walks walk.0.0 x) p) walk here
          (λ e. subst (λ (q : ℕ). slice_index (set walks walk.0.0 x) q ≡ min (slice_index walks q) walk.1) (sym e)
          (get_or-set_same walks walk.0.0 x 0 inside ∙ least))
          (λ ne. get_or-set_other walks walk.0.0 p x 0 ne) (old.each p l);
    }

pub returns : goal.returns
returns c =
    let n = c.args.network.now in
    let row = c.leaving-stop-items.result.now in
    let at : slice_get n.feet.walks c.args.origin.0 ≡ Some row = rw c.feet.ensures at c.leaving-stop-items.ensures in
    record {
      long = c.loop-stop.invariant.long;
      each = λ p l. walked_all n c.args.origin.0 row at c.loop-stop.stop-index p _ _
          (omega (arith, c.loop-stop-test.false)) (c.loop-stop.invariant.each p l);
    }
