use Rattle.std.proofs.Common.{◌≡◌, ℕ, get_or, slice_get, slice_index, Some, arith}
use Rattle.std.proofs.lemmas.Option.{slice_get-get_or}
use Rattle.timetable.specs.declared.trips.StopNo.{StopNo}
use Rattle.timetable.proofs.KnownParts.{foot_in_range}
use Rattle.useful_minutes.proofs.InnerStops.{is_inner_stop, none_more}
use Rattle.useful_minutes.proofs.marks.is_inner.Goals as goal
use Rattle.useful_minutes.proofs.marks.is_inner.Goals.{
  else-walk-there-via-then-walk-there+else-seconds-there,
  else-walk-there-via-else-walk-there,
}

pub bounds-walks-next : goal.bounds-walks-next
bounds-walks-next c =
    let n = c.args.network.now in
    let row = c.leaving-onward.result.now in
    let k = c.loop-next.next-index in
    let none : StopNo × ℕ = (record { 0 = 0 }, 0) in
    let here = slice_get-get_or row k none c.loop-next-test.true in
    let at : slice_get n.feet.walks c.args.stop.0 ≡ Some row = rw c.feet.ensures at c.leaving-onward.ensures in
    let target = foot_in_range n.feet c.known.ensures.feet c.args.stop.0 (get_or row k none).0.0 (get_or row k none).1
    (row, k, at, here) in
    omega (arith, target.0, c.known.ensures.in_range.lists, c.requires.walks)

pub loop-next-preserved : goal.loop-next-preserved
loop-next-preserved c =
    let row = c.leaving-onward.result.now in
    let k = c.loop-next.next-index in
    let none : StopNo × ℕ = (record { 0 = 0 }, 0) in
    let here = slice_get-get_or row k none c.loop-next-test.true in
    let walks = c.args.walks.now in
    none_more walks row (slice_index walks c.args.stop.0) k (get_or row k none) here (elim c.else-walk-there.branch [
      | else-walk-there-via-then-walk-there+else-seconds-there w ↦
          omega (arith, w.if-walk-there.true, w.if-seconds-there.false)
      | else-walk-there-via-else-walk-there w ↦ omega (arith, w.if-walk-there.false)
    ]) c.loop-next.invariant

pub returns : goal.returns
returns c _ =
    let n = c.args.network.now in
    let row = c.leaving-onward.result.now in
    let at : slice_get n.feet.walks c.args.stop.0 ≡ Some row = rw c.feet.ensures at c.leaving-onward.ensures in
    is_inner_stop n c.args.walks.now c.args.stop.0 row at c.loop-next.next-index (omega (arith, c.loop-next-test.false))
    c.loop-next.invariant
