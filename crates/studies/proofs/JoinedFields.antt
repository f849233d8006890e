-- Fields joined one after another.
use Rattle.std.proofs.Common.{◌≡◌, ◌+◌, ◌<◌, ◌∙◌, ℕ, suc, List, [], ◌∷◌, ◌++◌, refl, sym, ap, append_assoc, length, map}
use Rattle.std.proofs.Common.{take, get_or, arith}
use Rattle.std.proofs.Math.Seq.{take-suc}
use Rattle.std.proofs.lemmas.List.{length-map, length-take-le, map-append}
use Rattle.std.specs.List.{join_with_byte}

-- one more field, after some
pub join_with_byte-append : (c : ℕ) (xs : List (List ℕ)) (y : List ℕ) → 0 < length xs
    → join_with_byte c (xs ++ y ∷ []) ≡ (join_with_byte c xs ++ c ∷ []) ++ y
join_with_byte-append c [] y h = absurd (omega (arith, h))
join_with_byte-append c (x ∷ []) y h = simp append_assoc refl
join_with_byte-append c (x ∷ z ∷ xs) y h =
    let more : join_with_byte c ((z ∷ xs) ++ y ∷ []) ≡ (join_with_byte c (z ∷ xs) ++ c ∷ []) ++ y =
    join_with_byte-append c (z ∷ xs) y (omega arith) in
    rw more (simp append_assoc refl)

module _ (c : ℕ) (field : ℕ → List ℕ) (ds : List ℕ) (i : ℕ) (before : List ℕ) (lt : i < length ds) (so_far : before
    ≡ join_with_byte c (map field (take i ds))) where
  next_fields : map field (take (i + 1) ds) ≡ map field (take i ds) ++ field (get_or ds i 0) ∷ []
  next_fields =
      let one : take (i + 1) ds ≡ take i ds ++ get_or ds i 0 ∷ [] = let step : i + 1 ≡ suc i = omega arith in
      ap (λ (n : ℕ). take n ds) step ∙ take-suc ds i 0 lt in
      ap (λ (l : List ℕ). map field l) one ∙ map-append field (take i ds) (get_or ds i 0 ∷ [])

  count : length (map field (take i ds)) ≡ i
  count = length-map (take i ds) field ∙ length-take-le i ds (omega arith)

  -- the first field stands alone
  pub first_joined : (after : List ℕ) → i ≡ 0 → after ≡ before ++ field (get_or ds i 0) →
      after ≡ join_with_byte c (map field (take (i + 1) ds))
  first_joined after none is =
      let nothing : before ≡ [] = so_far ∙ ap (λ (n : ℕ). join_with_byte c (map field (take n ds))) none in
      let here : map field (take (i + 1) ds) ≡ field (get_or ds i 0) ∷ [] =
      next_fields ∙ ap (λ (n : ℕ). map field (take n ds) ++ field (get_or ds i 0) ∷ []) none in
      is ∙ ap (λ (l : List ℕ). l ++ field (get_or ds i 0)) nothing ∙ sym (ap (join_with_byte c) here)

  -- a later field comes after a separator
  pub next_joined : (between after : List ℕ) → 0 < i → between ≡ before ++ c ∷ [] →
      after ≡ between ++ field (get_or ds i 0) → after ≡ join_with_byte c (map field (take (i + 1) ds))
  next_joined between after some then is =
      let joined : join_with_byte c (map field (take i ds) ++ field (get_or ds i 0) ∷ [])
      ≡ (join_with_byte c (map field (take i ds)) ++ c ∷ []) ++ field (get_or ds i 0) =
      join_with_byte-append c (map field (take i ds)) (field (get_or ds i 0)) (omega (arith, count)) in
      is ∙ ap (λ (l : List ℕ). l ++ field (get_or ds i 0)) (then ∙ ap (λ (l : List ℕ). l ++ c ∷ []) so_far)
      ∙ sym (ap (join_with_byte c) next_fields ∙ joined)
