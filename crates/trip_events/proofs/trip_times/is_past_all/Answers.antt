use Rattle.std.proofs.Common.{◌≡◌, ◌<◌, ◌-◌, ◌∙◌, length, get_or, ltb-true, arith, ap}
use Rattle.std.proofs.lemmas.List.{get_or_default}
use Rattle.trip_events.specs.declared.trip_times.StopTime.{StopTime}
use Rattle.trip_events.proofs.TripTimeFacts.{below_last, fits_last}
use Rattle.trip_events.proofs.trip_times.is_past_all.Goals as goal

pub returns-else-count-eq0-clause-past : goal.returns-else-count-eq0-clause-past
returns-else-count-eq0-clause-past c = λ below k d within.
    let xs = c.args.trip_times.now.items in
    let last = c.len-count.result - 1 in
    let at_last : last < length xs = omega (arith, within, c.len-count.ensures, c.if-count-eq0.false) in
    let here : c.index.result.now ≡ get_or xs last d =
    c.index.ensures ∙ get_or_default xs last c.index.result.now d at_last in
    let same = ap (λ (s : StopTime). s.sequence) here in
    below_last c.args.sequence xs c.requires last (omega (
      arith,
      c.len-count.ensures,
      c.if-count-eq0.false,
    )) d (omega (arith, same, ltb-true _ _ below)) k within

pub returns-else-count-eq0-clause-last : goal.returns-else-count-eq0-clause-last
returns-else-count-eq0-clause-last c = λ below.
    fits_last c.args.sequence c.args.trip_times.now.items c.requires (returns-else-count-eq0-clause-past c below)
