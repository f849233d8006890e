use Rattle.std.proofs.Common.{◌≡◌, ◌+◌, ◌++◌, [], ◌∷◌, slice_index, arith}
use Rattle.trip_lanes.proofs.LanesSideBySide.{front_at}
use Rattle.trip_lanes.proofs.TurnedEights.{below_two}
use Rattle.trip_lanes.proofs.eights.by_two.Goals as goal
use lib.Lanes.{pick_l}

pub returns : goal.returns
returns c =
    let eight = c.args.eight in
    let turned = pick_l 0 (eight ++ eight) (2 ∷ 3 ∷ 4 ∷ 5 ∷ 6 ∷ 7 ∷ 0 ∷ 1 ∷ []) in
    below_two (λ k. slice_index turned k ≡ slice_index eight (2 + k))
    (front_at eight eight 8 2 (omega arith) (omega arith))
    (front_at eight eight 8 3 (omega arith) (omega arith))
