-- The records of a table, one after another.
use Rattle.std.proofs.Common.{◌≡◌, ◌∙◌, ◌+◌, ◌≤◌, ℕ, zero, suc, List, [], ◌∷◌, Some, ap, drop, length, refl, slice_get, sym, true}
use Rattle.std.proofs.Common.{false, arith}
use Rattle.table_records.specs.Table.{Gives}

-- the record that is given is the first of those to come
pub given_at : (xs : List (List (List ℕ))) (k : ℕ) (fields : List (List ℕ)) (rest : List (List (List ℕ))) →
    Gives (drop k xs) true fields rest → (slice_get xs k ≡ Some fields) × (rest ≡ drop (k + 1) xs)
given_at [] zero fields rest h = absurd (cc (h.0))
given_at [] (suc k) fields rest h = absurd (cc (h.0))
given_at (x ∷ xs) zero fields rest h = (ap Some (sym h.1), h.2)
given_at (x ∷ xs) (suc k) fields rest h =
    let step = given_at xs k fields rest h in
    let same : suc (k + 1) ≡ suc k + 1 = omega arith in
    (step.0, step.1 ∙ ap (λ (n : ℕ). drop n (x ∷ xs)) same)

-- none is given only after the last one
pub none_left : (xs : List (List (List ℕ))) (k : ℕ) (fields : List (List ℕ)) (rest : List (List (List ℕ))) →
    k ≤ length xs → Gives (drop k xs) false fields rest → k ≡ length xs
none_left [] k fields rest few h = omega (arith, few)
none_left (x ∷ xs) zero fields rest few h = absurd (cc (h.0))
none_left (x ∷ xs) (suc k) fields rest few h = let e : k ≡ length xs = none_left xs k fields rest (omega (arith, few)) h in omega (arith, e)

-- a record is given only before the end
pub given_below : (xs : List (List (List ℕ))) (k : ℕ) (fields : List (List ℕ)) (rest : List (List (List ℕ))) →
    Gives (drop k xs) true fields rest → k + 1 ≤ length xs
given_below [] zero fields rest h = absurd (cc (h.0))
given_below [] (suc k) fields rest h = absurd (cc (h.0))
given_below (x ∷ xs) zero fields rest h = omega arith
given_below (x ∷ xs) (suc k) fields rest h =
    let below : k + 1 ≤ length xs = given_below xs k fields rest h in omega (arith, below)
