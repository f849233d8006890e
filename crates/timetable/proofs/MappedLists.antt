-- What stands in a list that a function was mapped over.
use Rattle.std.proofs.Common.{◌≡◌, ℕ, zero, suc, ◌+◌, ◌<◌, List, [], ◌∷◌, ◌++◌, length, map, take, drop}
use Rattle.std.proofs.Common.{get_or, set, slice_get, Some, refl, ◌∙◌, ap, add-one, arith}
use Rattle.std.proofs.lemmas.Option.{same_Some, slice_get_within, slice_get-map}
use Rattle.std.specs.Option.{option_map}

-- what stands in a mapped list comes from what stands there in the list
pub map_got : {A B : Type 0} (f : A → B) (xs : List A) (k : ℕ) (y : B) → slice_get (map f xs) k ≡ Some y →
    (x : A) × (slice_get xs k ≡ Some x) × (f x ≡ y)
map_got f [] k y h = absurd (let w = slice_get_within [] k y h in omega (arith, w))
map_got f (x ∷ xs) zero y h = (x, refl, same_Some (f x) y h)
map_got f (x ∷ xs) (suc k) y h = map_got f xs k y h

-- and the other way round
pub map_put : {A B : Type 0} (f : A → B) (xs : List A) (k : ℕ) (x : A) → slice_get xs k ≡ Some x →
    slice_get (map f xs) k ≡ Some (f x)
map_put f xs k x h = slice_get-map f xs k ∙ ap (option_map f) h

more_mapped : {A : Type 0} (f : A → A) (xs : List A) (i : ℕ) (d y : A) → i < length xs →
    y ≡ f (get_or (map f (take i xs) ++ drop i xs) i d) →
    set (map f (take i xs) ++ drop i xs) i y ≡ map f (take (suc i) xs) ++ drop (suc i) xs
more_mapped f [] i d y l e = absurd (omega (arith, l))
more_mapped f (x ∷ xs) zero d y l e = ap (λ z. z ∷ xs) e
more_mapped f (x ∷ xs) (suc i) d y l e = ap (λ ys. f x ∷ ys) (more_mapped f xs i d y (omega (arith, l)) e)

-- one more item of a list is replaced by what a function makes of it
pub mapped_more : {A : Type 0} (f : A → A) (xs : List A) (i : ℕ) (d y : A) → i < length xs →
    y ≡ f (get_or (map f (take i xs) ++ drop i xs) i d) →
    set (map f (take i xs) ++ drop i xs) i y ≡ map f (take (i + 1) xs) ++ drop (i + 1) xs
mapped_more f xs i d y l e = rw (add-one i) (more_mapped f xs i d y l e)
