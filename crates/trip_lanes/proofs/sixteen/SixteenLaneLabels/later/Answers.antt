use Rattle.std.proofs.Common.{◌-◌, ◌+◌, ◌%◌, ◌≡◌, ◌≤◌, ℕ, arith, length, List, refl, replicate, ◌∙◌}
use Rattle.std.proofs.lemmas.Simd.{length-zip2}
use Rattle.trip_lanes.proofs.VectorChoices.{later_at, room_at}
use Rattle.trip_lanes.proofs.sixteen.SixteenLaneLabels.later.Goals as goal
use Rattle.trip_lanes.proofs.sixteen.SixteenLaneLabels.later.Goals.{then-seconds, else-seconds}
use lib.Lanes.{zip2}
use mir.Syntax.{w16}

pub returns : goal.returns
returns c l h =
    let more = c.if-seconds.more in
    let greatest : List ℕ = replicate 16 65535 in
    let less : ℕ → ℕ → ℕ = λ a b. (a + (65536 - b)) % 65536 in
    let room = zip2 less greatest (replicate 16 more) in
    let room_len : length room ≡ 16 = length-zip2 less greatest (replicate 16 more) refl in
    let stops = λ (fits : more ≤ 65535).
    later_at w16 16 c.args.self room more 65535 l h (omega arith) room_len (room_at w16 16 more 65535 l h fits) fits in
    elim c.if-seconds.branch [
      | then-seconds w ↦ stops (omega (arith, w.if-seconds, w.more-is)) ∙ omega (arith, w.more-is)
      | else-seconds w ↦ stops (omega (arith, w.more-is)) ∙ omega (arith, w.if-seconds, w.more-is)
    ]
