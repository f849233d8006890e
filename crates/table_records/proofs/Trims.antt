-- Spaces at the end of a text.
use Rattle.std.proofs.Common.{◌≡◌, ◌<◌, ◌≤◌, ◌==◌, ℕ, zero, suc, List, [], ◌∷◌, ◌++◌, take, length, get_or, arith, ap}
use Rattle.std.proofs.Common.{sym, false, refl}
use Rattle.std.proofs.lemmas.Bool.{and_right}
use Rattle.table_records.specs.Fields.{trim_end, is_empty}

pub end_space : (xs : List ℕ) → trim_end (xs ++ 32 ∷ []) ≡ trim_end xs
end_space [] = refl
end_space (x ∷ xs) = rw (end_space xs) refl

-- a text that does not end in a space
kept : (b : ℕ) (xs : List ℕ) → (is_empty (xs ++ b ∷ [])) ≡ false
kept b [] = refl
kept b (x ∷ xs) = refl

pub end_other : (xs : List ℕ) (b : ℕ) → (b == 32) ≡ false → trim_end (xs ++ b ∷ []) ≡ xs ++ b ∷ []
end_other [] b h = rw h refl
end_other (x ∷ xs) b h = rw (end_other xs b h, kept b xs, and_right (x == 32) false refl) refl

-- the front of a text, with one more element
take_last : (n : ℕ) (xs : List ℕ) → n < length xs → take (suc n) xs ≡ take n xs ++ get_or xs n 0 ∷ []
take_last zero [] h = absurd (omega arith)
take_last (suc n) [] h = absurd (omega arith)
take_last zero (x ∷ xs) h = refl
take_last (suc n) (x ∷ xs) h = ap (λ (l : List ℕ). x ∷ l) (take_last n xs (omega arith))

pub take_before : (n m : ℕ) (xs : List ℕ) → n ≡ suc m → n ≤ length xs → take n xs ≡ take m xs ++ get_or xs m 0 ∷ []
take_before n m xs e h = rw e (take_last m xs (omega arith))

pub shorter_by_space : (n m : ℕ) (xs : List ℕ) → n ≡ suc m → n ≤ length xs → get_or xs m 0 ≡ 32 →
    trim_end (take m xs) ≡ trim_end (take n xs)
shorter_by_space n m xs e h space = rw (take_before n m xs e h, space) (sym (end_space (take m xs)))

pub ends_here : (n m : ℕ) (xs : List ℕ) → n ≡ suc m → n ≤ length xs → (get_or xs m 0 == 32) ≡ false →
    trim_end (take n xs) ≡ take n xs
ends_here n m xs e h other = rw (take_before n m xs e h) (end_other (take m xs) (get_or xs m 0) other)
