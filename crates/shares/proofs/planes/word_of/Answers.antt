use Rattle.std.proofs.Common.{◌≡◌, ◌+◌, ◌*◌, ◌≤◌, ◌++◌, ◌⊎◌, ℕ, [], inl, inr, length, slice_index_or, arith}
use Rattle.std.proofs.lemmas.Bool.{cases_lt}
use Rattle.std.proofs.lemmas.List.{get_or_past}
use Rattle.shares.specs.Planes.{block, has}
use Rattle.shares.proofs.Masks.{mask_joined}
use Rattle.shares.proofs.planes.word_of.Goals as goal

pub returns : goal.returns
unfolding block
returns c =
    let lanes = c.args.lanes.now in
    let w : ℕ = 4 * c.args.word in
    let row = λ (i : ℕ). slice_index_or lanes i [] in
    let P = has c.args.bit in
    let past : (i : ℕ) → length lanes ≤ i → row i ≡ [] = λ i h. get_or_past lanes i [] h in
    let first : (length (row w) ≡ 16) ⊎ (row (w + 1) ++ (row (w + 2) ++ row (w + 3)) ≡ []) =
    elim (cases_lt w (length lanes)) [
      | inl lt ↦ inl (c.told-lanes w lt)
      | inr ge ↦ inr ((λ i. past (w + 1) (omega (
        arith,
        ge,
      )) i ++ (past (w + 2) (omega (arith, ge)) i ++ past (w + 3) (omega (arith, ge)) i)))
    ] in
    let second : (length (row (w + 1)) ≡ 16) ⊎ (row (w + 2) ++ row (w + 3) ≡ []) =
    elim (cases_lt (w + 1) (length lanes)) [
      | inl lt ↦ inl (c.told-lanes (w + 1) lt)
      | inr ge ↦ inr ((λ i. past (w + 2) (omega (arith, ge)) i ++ past (w + 3) (omega (arith, ge)) i))
    ] in
    let third : (length (row (w + 2)) ≡ 16) ⊎ (row (w + 3) ≡ []) = elim (cases_lt (w + 2) (length lanes)) [
      | inl lt ↦ inl (c.told-lanes (w + 2) lt)
      | inr ge ↦ inr (past (w + 3) (omega (arith, ge)))
    ] in
    let x = mask_joined P (row w) (row (w + 1) ++ (row (w + 2) ++ row (w + 3))) first in
    let y = mask_joined P (row (w + 1)) (row (w + 2) ++ row (w + 3)) second in
    let z = mask_joined P (row (w + 2)) (row (w + 3)) third in
    omega (
      arith,
      x,
      y,
      z,
      c.mask_at-first.ensures.mask,
      c.mask_at-second.ensures.mask,
      c.mask_at-third.ensures.mask,
      c.mask_at-fourth.ensures.mask,
    )
