-- The pairs that two ends give.
use Rattle.std.proofs.Common.{◌≡◌, ◌∙◌, ◌||◌, ◌++◌, ◌==◌, ℕ, suc, Bool, true, false, List, [], ◌∷◌, length, map, filter}
use Rattle.std.proofs.Common.{arith, refl, sym, if◌then◌else◌}
use Rattle.std.specs.Prelude.{is_some, slice_get}
use Rattle.std.specs.List.{list_any}
use Rattle.std.proofs.lemmas.Bool.Decides.{nat_tests}
use Rattle.timetable.specs.declared.trips.StopNo.{StopNo}
use Rattle.table_files.specs.Ends.{differ, have_pair, pairs_between}

-- an end without stops gives no pair
pub no_pair : (from : List StopNo) → have_pair from [] ≡ false
no_pair [] = refl
no_pair (a ∷ from) = no_pair from

-- an end that has no stops
pub no_stops_pair : (from to : List StopNo) → true ≡ (length to == 0) → false ≡ have_pair from to
no_stops_pair from [] e = sym (no_pair from)
no_stops_pair from (b ∷ to) e = absurd (not_empty (length to) e)
  where
    not_empty : (n : ℕ) → true ≡ (suc n == 0) → ⊥
    not_empty n h = grind (arith, nat_tests)

first_of_both : {X : Type 0} (xs ys : List X) →
    is_some (slice_get (xs ++ ys) 0) ≡ (is_some (slice_get xs 0) || is_some (slice_get ys 0))
first_of_both [] ys = refl
first_of_both (x ∷ xs) ys = refl

first_kept : {X Y : Type 0} (p : X → Bool) (f : X → Y) (xs : List X) →
    is_some (slice_get (map f (filter p xs)) 0) ≡ list_any p xs
first_kept p f [] = refl
first_kept p f (x ∷ xs) = by (p x) (first_kept p f xs)
  where
    by : (b : Bool) → is_some (slice_get (map f (filter p xs)) 0) ≡ list_any p xs →
        is_some (slice_get (map f (if b then x ∷ filter p xs else filter p xs)) 0) ≡ (b || list_any p xs)
    by true e = refl
    by false e = e

-- two ends give a first pair exactly where two of their stops differ
pub first_pair : (from to : List StopNo) (seconds : ℕ) →
    is_some (slice_get (pairs_between from to seconds) 0) ≡ have_pair from to
first_pair [] to seconds = refl
first_pair (a ∷ from) to seconds =
    let pair : StopNo → StopNo × StopNo × ℕ = λ b. (a, b, seconds) in
    first_of_both (map pair (filter (differ a) to)) (pairs_between from to seconds)
    ∙ (λ k. first_kept (differ a) pair to k || first_pair from to seconds k)
