use Rattle.std.proofs.Common.{◌*◌, ◌+◌, ◌-◌, ◌≤◌, ℕ, ap, ◌∙◌, arith, get_or, slice_index, length, take, drop, min}
use Rattle.std.proofs.lemmas.Simd.{length-chunk}
use Rattle.std.proofs.lemmas.List.{length-take, length-drop}
use Rattle.trip_lanes.proofs.VectorParts.{lane_of}
use Rattle.useful_minutes.proofs.LabelsInOrder.{waits_at}
use Rattle.useful_minutes.proofs.waits.with_waits.Goals as goal
use lib.Lanes.{chunk}

pub returns : goal.returns
returns c l h =
    let from : ℕ = 16 * c.args.chunk in
    let all = c.args.waits.now in
    let part = take (from + 16 - from) (drop from all) in
    let part_len : 0 + 16 ≤ length part =
    omega (arith, length-take (from + 16 - from) (drop from all), length-drop from all, c.requires) in
    let waits = chunk 0 16 part in
    let here = lane_of 16 all from l (omega (arith, c.requires)) h in
    let fits : get_or waits l 0 ≤ 4294967295 = let f = (c.type_inv.waits (from + l)).fits in omega (arith, f, here.0) in
    waits_at c.args.labels waits l h (omega arith) (length-chunk 0 16 part part_len) fits
    ∙ ap (λ (w : ℕ). min (slice_index c.args.labels l + w) 4294967295) here.0
