-- The first fault of several lists, one after another.
use Rattle.std.proofs.Common.{◌≡◌, List, [], ◌∷◌, ◌++◌, None, slice_get, refl, inl, inr}
use Rattle.table_records.specs.Faults.{IsFirst, Tells}
use Rattle.table_records.specs.declared.fault.FeedFault.{FeedFault}

pub first_left : {F : Type 0} (e : F) (xs ys : List F) → IsFirst e xs → IsFirst e (xs ++ ys)
first_left e [] ys h = cc
first_left e (x ∷ xs) ys h = h

pub first_right : {F : Type 0} (e : F) (xs ys : List F) → xs ≡ [] → IsFirst e ys → IsFirst e (xs ++ ys)
first_right e xs ys none h = rw none h

pub tells_right : (e : FeedFault) (xs ys : List FeedFault) → xs ≡ [] → Tells e ys → Tells e (xs ++ ys)
tells_right e xs ys none h = elim h [ inl m ↦ inl m | inr f ↦ inr (first_right e xs ys none f) ]

pub none_of_both : {F : Type 0} (xs ys : List F) → xs ≡ [] → ys ≡ [] → xs ++ ys ≡ []
none_of_both xs ys none_left none_right = rw (none_left, none_right) refl

pub none_left : {F : Type 0} (xs ys : List F) → xs ++ ys ≡ [] → xs ≡ []
none_left [] ys h = refl
none_left (x ∷ xs) ys h = cc

pub none_right : {F : Type 0} (xs ys : List F) → xs ++ ys ≡ [] → ys ≡ []
none_right [] ys h = h
none_right (x ∷ xs) ys h = cc

-- where a list has no element it has no first one
pub no_first : {F : Type 0} (e : F) (xs : List F) → xs ≡ [] → IsFirst e xs → ⊥
no_first e xs none h =
    let nothing : slice_get xs 0 ≡ None = rw none refl in
    cc (h, nothing)
