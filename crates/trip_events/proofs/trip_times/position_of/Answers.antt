use Rattle.std.proofs.Common.{◌≡◌, ◌<◌, ◌≤◌, ◌∙◌, length, get_or, arith, ap}
use Rattle.std.proofs.lemmas.List.{get_or_default}
use Rattle.trip_events.specs.declared.trip_times.StopTime.{StopTime}
use Rattle.trip_events.proofs.TripTimeFacts.{fits}
use Rattle.trip_events.proofs.trip_times.position_of.Goals as goal
use Rattle.trip_events.proofs.trip_times.position_of.Goals.{else-i-len-via-then-i-len+else-index-sequence}
use Rattle.trip_events.proofs.trip_times.position_of.Goals.{else-i-len-via-else-i-len}

pub returns-clause-free : goal.returns-clause-free
returns-clause-free c =
    let xs = c.args.trip_times.now.items in
    let i = c.count_below-i.result in
    let beyond : i < length xs → (d : StopTime) →
    c.args.sequence < (get_or xs i d).sequence = λ lt d. elim c.else-i-len.branch [
      | else-i-len-via-then-i-len+else-index-sequence w ↦
          let least : c.args.sequence ≤ (get_or xs i d).sequence = c.count_below-i.ensures.from i d (omega arith) lt in
          let here : w.index.result.now ≡ get_or xs i d =
          w.index.ensures ∙ get_or_default xs i w.index.result.now d lt in
          let same = ap (λ (s : StopTime). s.sequence) here in
          omega (arith, least, same, w.if-index-sequence.false)
      | else-i-len-via-else-i-len w ↦ absurd (omega (arith, lt, w.if-i-len.false, c.len.ensures))
    ]
    in
    fits i c.args.sequence xs c.requires c.count_below-i.ensures.within
    (λ m e d. c.count_below-i.ensures.below m d (omega (arith, e))) beyond
