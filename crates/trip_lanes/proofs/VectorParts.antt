-- Parts of a list that a vector is loaded from.
use Rattle.std.proofs.Common.{◌≡◌, ◌+◌, ◌-◌, ◌<◌, ◌≤◌, ℕ, List, length, get_or, take, drop, arith, ◌∙◌}
use Rattle.std.proofs.lemmas.List.{get_or-take, get_or-drop, length-take, length-drop}
use Rattle.std.proofs.lemmas.Simd.{get_or-chunk, length-chunk}
use lib.Lanes.{chunk}

-- a lane of n that are loaded from a slice
pub lane_of : (n : ℕ) (row : List ℕ) (from l : ℕ) → from + n ≤ length row → l < n
    → (get_or (chunk 0 n (take (from + n - from) (drop from row))) l 0 ≡ get_or row (from + l) 0)
    × (l < length (chunk 0 n (take (from + n - from) (drop from row))))
lane_of n row from l inside lt =
    let slice = take (from + n - from) (drop from row) in
    let slice_len : 0 + n ≤ length slice =
    omega (arith, length-take (from + n - from) (drop from row), length-drop from row, inside) in
    let lane : 0 + l ≡ l = omega arith in (
      get_or-chunk 0 n slice l 0 lt ∙ rw lane (get_or-take (from + n - from) (drop from row) l 0 (omega (arith, lt))
          ∙ get_or-drop from row l 0),
      omega (arith, length-chunk 0 n slice slice_len, lt),
    )
