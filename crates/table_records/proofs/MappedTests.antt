-- A test of what a function gives, over a list.
use Rattle.std.proofs.Common.{◌≡◌, ◌||◌, Bool, List, [], ◌∷◌, map, position, refl, ap}
use Rattle.std.specs.List.{list_any, position_or_len}
use Rattle.std.proofs.lemmas.List.{length-map}

pub list_any-map : {A B : Type 0} (f : A → B) (p : B → Bool) (xs : List A) →
    list_any p (map f xs) ≡ list_any (λ x. p (f x)) xs
list_any-map f p [] = refl
list_any-map f p (x ∷ xs) = ap (λ b. p (f x) || b) (list_any-map f p xs)

position_or_len-map : {A B : Type 0} (f : A → B) (p : B → Bool) (xs : List A) →
    position_or_len p (map f xs) ≡ position_or_len (λ x. p (f x)) xs
position_or_len-map f p [] = refl
position_or_len-map f p (x ∷ xs) = rw (position_or_len-map f p xs) refl

pub position-map : {A B : Type 0} (f : A → B) (p : B → Bool) (xs : List A) →
    position p (map f xs) ≡ position (λ x. p (f x)) xs
position-map f p xs = rw (position_or_len-map f p xs, length-map xs f) refl
