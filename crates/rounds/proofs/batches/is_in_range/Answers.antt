use Rattle.std.proofs.Common.{◌+◌, ◌-◌, slice_index, arith}
use Rattle.std.proofs.lemmas.Bool.{ltb-true}
use Rattle.rounds.proofs.SearchedBatches.{ascends}
use Rattle.rounds.proofs.batches.is_in_range.Goals as goal

pub overflow_sub-result : goal.overflow_sub-result
overflow_sub-result g c =
    let few = c.requires.from in
    let last = c.min-last.ensures in
    ascends c.args.query.times.now c.requires.query.times c.args.from c.min-last.result (omega (arith, last, few))
    (omega (arith, last, few))

pub returns : goal.returns
returns g c less l h within =
    let times = c.args.query.times.now in
    let from = c.args.from in
    let few = c.requires.from in
    let last = c.min-last.ensures in
    let first = ascends times c.requires.query.times from c.min-last.result (omega (arith, last, few))
    (omega (arith, last, few)) in
    let up = ascends times c.requires.query.times (from + l) c.min-last.result (omega (
      arith,
      last,
      c.LANES.ensures,
      h,
      within,
    )) (omega (arith, last, few)) in
    let span = ltb-true (slice_index times c.min-last.result - slice_index times from) (c.NEVER.result - 7201) less in
    omega (arith, first, up, span, c.NEVER.ensures, g.met.R.LaneLabels.room)
