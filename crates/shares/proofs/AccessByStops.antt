-- Access is summed up stop by stop.
use Rattle.std.proofs.Common.{◌≡◌, ◌<◌, ◌+◌, ℕ, zero, suc, Option, None, List, [], ◌∷◌, length, take, get_or, arith}
use Rattle.std.proofs.Common.{subst}
use Rattle.shares.specs.Opportunities.{access_of, counted}

pub access_more : (cs : List (Option ℕ)) (ns : List ℕ) (w i : ℕ) → i < length cs → length cs ≡ length ns →
    access_of (take (suc i) cs) (take (suc i) ns) w
    ≡ access_of (take i cs) (take i ns) w + counted (get_or cs i None) (get_or ns i 0) w
access_more [] ns w i h e = absurd (omega (arith, h))
access_more (c ∷ cs) [] w i h e = absurd (omega (arith, e))
access_more (c ∷ cs) (n ∷ ns) w zero h e = omega arith
access_more (c ∷ cs) (n ∷ ns) w (suc i) h e =
    let rest = access_more cs ns w i (omega (arith, h)) (omega (arith, e)) in
    omega (arith, rest)

pub access_next : (cs : List (Option ℕ)) (ns : List ℕ) (w i : ℕ) → i < length cs → length cs ≡ length ns →
    access_of (take (i + 1) cs) (take (i + 1) ns) w
    ≡ access_of (take i cs) (take i ns) w + counted (get_or cs i None) (get_or ns i 0) w
access_next cs ns w i h e =
    let step : suc i ≡ i + 1 = omega arith in
    subst (λ (k : ℕ). access_of (take k cs) (take k ns) w
    ≡ access_of (take i cs) (take i ns) w + counted (get_or cs i None) (get_or ns i 0) w) step
    (access_more cs ns w i h e)
