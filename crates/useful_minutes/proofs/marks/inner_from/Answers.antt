use Rattle.std.proofs.Common.{rules, ◌≡◌, ℕ, List, get_or, length, replicate, slice_get, slice_index, Some, ap, ◌∙◌}
use Rattle.std.proofs.Common.{arith}
use Rattle.std.proofs.lemmas.Option.{slice_get-get_or}
use Rattle.std.proofs.lemmas.Simd.{get_or-replicate}
use Rattle.timetable.specs.declared.trips.StopNo.{StopNo}
use Rattle.timetable.proofs.KnownParts.{foot_in_range}
use Rattle.useful_minutes.proofs.InnerStops.{none_noted}
use Rattle.useful_minutes.proofs.marks.inner_from.Goals as goal

pub note_inner-requires-clause-inner : goal.note_inner-requires-clause-inner
note_inner-requires-clause-inner c =
    let walks = c.args.walks.now in
    let inner = c.in_ok-inner.inner.items in
    let items : inner ≡ replicate (length walks) 4294967295 =
    c.in_ok-inner.ensures.items_if_clones_equal (λ y h. search rules) in
    let size : length inner ≡ length walks = omega (arith, c.in_ok-inner.ensures.len, c.in_ok-inner.inner.ok.0) in
    rw c.deref_mut.ensures.value (none_noted c.args.network.now walks inner size
    (λ p l. ap (λ (xs : List ℕ). slice_index xs p) items
    ∙ get_or-replicate {A = ℕ} (length walks) p 4294967295 0 (omega (arith, l, size))))

pub note_inner-requires-in-loop-stop-clause-stop : goal.note_inner-requires-in-loop-stop-clause-stop
note_inner-requires-in-loop-stop-clause-stop c =
    let n = c.args.network.now in
    let row = c.leaving-stop-items.result.now in
    let k = c.loop-stop.stop-index in
    let none : StopNo × ℕ = (record { 0 = 0 }, 0) in
    let here = slice_get-get_or row k none c.loop-stop-test.true in
    let at : slice_get n.feet.walks c.args.origin.0 ≡ Some row = rw c.feet.ensures at c.leaving-stop-items.ensures in
    let target = foot_in_range n.feet c.known.ensures.feet c.args.origin.0 (get_or row k none).0.0 (get_or row k none).1
    (row, k, at, here) in
    omega (arith, target.0, c.known.ensures.in_range.lists)
