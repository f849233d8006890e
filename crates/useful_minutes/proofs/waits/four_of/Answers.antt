use Rattle.std.proofs.Common.{◌≡◌, ◌*◌, ◌+◌, ◌-◌, ◌≤◌, ◌<◌, ℕ, ap, ◌∙◌, arith, slice_index, length}
use Rattle.trip_lanes.proofs.VectorParts.{lane_of}
use Rattle.useful_minutes.proofs.LabelsInOrder.{some_on}
use Rattle.useful_minutes.proofs.waits.four_of.Goals as goal

pub in_order-requires-clause-labels : goal.in_order-requires-clause-labels
in_order-requires-clause-labels c k h =
    let from = slice_index c.args.positions.now (4 * c.args.group) in
    let room : from + 4 ≤ length c.args.near.now =
    c.requires.near (4 * c.args.group) 0 (omega (arith, c.requires.group)) in
    let here = lane_of 4 c.args.near.now from k room h in
    let f = (c.type_inv.near (from + k)).fits in
    omega (arith, f, here.0)

pub returns : goal.returns
returns c l h =
    let positions = c.args.positions.now in
    let at : ℕ = 4 * c.args.group in
    let from = slice_index positions at in
    let room : from + 4 ≤ length c.args.near.now = c.requires.near at 0 (omega (arith, c.requires.group)) in
    let on = some_on positions c.requires.steps at l (omega (arith, h, c.requires.group)) in
    let k : ℕ = slice_index positions (at + l) - from in
    let there : k < 4 = omega (arith, on.1, h) in
    let order = c.requires.orders.each c.args.group (omega (arith, c.requires.group, c.requires.orders.count)) in
    let same : from + k ≡ slice_index positions (at + l) = omega (arith, on.0) in
    c.in_order.ensures l k h there (order.takes l h)
    ∙ ((lane_of 4 c.args.near.now from k room there).0 ∙ ap (λ (i : ℕ). slice_index c.args.near.now i) same)
