use Rattle.std.proofs.Common.{◌≡◌, ◌*◌, ◌<◌, ◌∙◌, ℕ, List, get_or, sym, ap, arith, slice_index}
use Rattle.std.proofs.lemmas.List.{get_or_default}
use Rattle.rounds.specs.Table.{AreLanes, DurationTable, batches_of, label_of, known_of, at}
use Rattle.rounds.proofs.LabelsAsDurations.{all_before, known_at}
use Rattle.rounds.proofs.table.Durations.lanes_of.Goals as goal

-- the number that is read
number_read : (stops minutes p number : ℕ) (numbers : List ℕ) (labels : List (List ℕ)) →
    AreLanes stops minutes numbers labels → p < stops → number ≡ get_or numbers p number →
    number ≡ slice_index numbers p
number_read stops minutes p number numbers labels are l e =
    e ∙ get_or_default numbers p number 0 (omega (arith, l, are.count))

pub lanes_at-requires-clause-number : goal.lanes_at-requires-clause-number
lanes_at-requires-clause-number c =
    let d = c.self.inside in
    let p = c.args.stop.0 in
    let there : p < d.stops = omega (arith, c.requires.stop, ap (λ (t : DurationTable). t.stops) c.self.view_is) in
    let number = number_read d.stops d.minutes p c.index-number.result.now d.numbers.items d.labels.items
    c.self.invariant there c.index-number.ensures in
    let before =
    all_before (batches_of d.minutes) (slice_index d.numbers.items p) d.stops (c.self.invariant.low p there) in
    rw (number, c.as_slice.ensures.value, c.self.invariant.size) before

pub returns-clause-minutes : goal.returns-clause-minutes
returns-clause-minutes c m l =
    let d = c.self.inside in
    let p = c.args.stop.0 in
    let there : p < d.stops = omega (arith, c.requires.stop, ap (λ (t : DurationTable). t.stops) c.self.view_is) in
    let within : m < d.minutes = omega (arith, l, ap (λ (t : DurationTable). t.minutes) c.self.view_is) in
    let number = number_read d.stops d.minutes p c.index-number.result.now d.numbers.items d.labels.items
    c.self.invariant there c.index-number.ensures in
    let read = c.lanes_at.ensures.each m (omega (arith, within)) in
    ap known_of (read ∙ (ap (λ ls. label_of d.minutes ls c.index-number.result.now m) c.as_slice.ensures.value
    ∙ ap (λ q. label_of d.minutes d.labels.items q m) number))
    ∙ (sym (known_at d.stops d.minutes d.numbers.items d.labels.items p m there within)
    ∙ ap (λ (t : DurationTable). at t p m) c.self.view_is)

pub returns-clause-dead : goal.returns-clause-dead
returns-clause-dead c m past l =
    let d = c.self.inside in
    let p = c.args.stop.0 in
    let there : p < d.stops = omega (arith, c.requires.stop, ap (λ (t : DurationTable). t.stops) c.self.view_is) in
    let same : d.minutes ≡ c.args.self.now.minutes = ap (λ (t : DurationTable). t.minutes) c.self.view_is in
    let number = number_read d.stops d.minutes p c.index-number.result.now d.numbers.items d.labels.items
    c.self.invariant there c.index-number.ensures in
    let within : m < 16 * batches_of d.minutes = rw same l in
    let read = c.lanes_at.ensures.each m within in
    read ∙ (ap (λ ls. label_of d.minutes ls c.index-number.result.now m) c.as_slice.ensures.value
    ∙ (ap (λ q. label_of d.minutes d.labels.items q m) number
    ∙ c.self.invariant.dead (slice_index d.numbers.items p) m (c.self.invariant.low p there) (omega (arith, past, same))
    within))
