use Rattle.std.proofs.Common.{◌≡◌, ◌+◌, ◌∙◌, ℕ, ltb, length, get_or, ap, arith}
use Rattle.trip_lanes.proofs.VectorChoices.{chosen}
use Rattle.label_cells.specs.Runs.{below}
use Rattle.label_cells.proofs.LaneSums.{plus_at, below_at, length-below, less_by}
use Rattle.label_cells.proofs.split_runs.add_below.Goals as goal
use mir.Syntax.{w16}

pub returns : goal.returns
returns c l h =
    let count = c.args.count in
    let to = c.args.to in
    let whole = c.args.whole in
    let span = c.args.span in
    let cl : length count ≡ 16 = omega arith in
    let tl : length to ≡ 16 = omega arith in
    let wl : length whole ≡ 16 = omega arith in
    let sl : length span ≡ 16 = omega arith in
    let one = chosen w16 ltb (less_by 16 to whole) span (less_by 16 to whole) span in
    let long = length-below 16 to whole span tl wl sl in
    let t = c.requires.to l h in
    let v = c.requires.whole l h in
    let room = c.requires.room l h in
    let lane : get_or one l 0 ≡ below (get_or to l 0) (get_or whole l 0) (get_or span l 0) =
    below_at 16 to whole span l h tl wl sl (omega (arith, t)) (omega (arith, v)) in
    plus_at 16 count one l h cl long (omega (arith, lane, room)) ∙ ap (λ (k : ℕ). get_or count l 0 + k) lane
