use Rattle.std.proofs.Common.{◌≡◌, ◌+◌, ◌++◌, [], ◌∷◌, slice_index, arith}
use Rattle.trip_lanes.proofs.LanesSideBySide.{front_at}
use Rattle.trip_lanes.proofs.TurnedEights.{below_four}
use Rattle.trip_lanes.proofs.eights.by_four.Goals as goal
use lib.Lanes.{pick_l}

pub returns : goal.returns
returns c =
    let eight = c.args.eight in
    let turned = pick_l 0 (eight ++ eight) (4 ∷ 5 ∷ 6 ∷ 7 ∷ 0 ∷ 1 ∷ 2 ∷ 3 ∷ []) in
    below_four (λ k. slice_index turned k ≡ slice_index eight (4 + k))
    (front_at eight eight 8 4 (omega arith) (omega arith))
    (front_at eight eight 8 5 (omega arith) (omega arith))
    (front_at eight eight 8 6 (omega arith) (omega arith))
    (front_at eight eight 8 7 (omega arith) (omega arith))
