use Rattle.std.proofs.Common.{ℕ, ◌+◌, ◌-◌, ◌<◌, List, length, slice_index, arith}
use Rattle.std.proofs.lemmas.Bool.{lt-ltb, ltb-true}
use Rattle.timetable.specs.declared.limits.TheConstants.{END_OF_AXIS}
use Rattle.rounds.specs.Query.{AreDepartures}
use Rattle.rounds.proofs.SearchedBatches.{rises_to}
use Rattle.rounds.proofs.latest_first.are_departures.Goals as goal

-- times that ascend are on the axis if the last one is
on_axis : (times : List ℕ) → 0 < length times →
    ((j : ℕ) → j + 1 < length times → slice_index times j < slice_index times (j + 1)) →
    slice_index times (length times - 1) < END_OF_AXIS → AreDepartures times
on_axis times some ascend last =
    record {
      some = some;
      ascend = ascend;
      on_axis = λ j h.
          let low = rises_to times ascend j (length times - 1) (omega (arith, h)) (omega (arith, some)) in
          omega (arith, low, last);
    }

pub returns-then-count-gt0 : goal.returns-then-count-gt0
returns-then-count-gt0 c =
    let times = c.args.times.now in
    let last = slice_index times (length times - 1) in (
      λ early. on_axis times c.if-count-gt0.true (λ j h. c.loop-j.invariant j (omega (arith, h, c.loop-j-test.false)))
          (ltb-true last 16777216 early),
      λ are. lt-ltb last 16777216 (are.on_axis (length times - 1) (omega (arith, are.some))),
    )
