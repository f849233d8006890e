-- A search by halves finds a number of an ascending list exactly where it is.
use Rattle.std.proofs.Common.{◌≡◌, ◌<◌, ◌==◌, inl, inr, ℕ, List, false, Result, Ok, Err, is_ok, sym, arith}
use Rattle.std.specs.List.{list_any}
use Rattle.std.specs.List.Sorted.{IsBinarySearchResult}
use Rattle.std.specs.Ordering.{nat_cmp}
use Rattle.std.proofs.lemmas.Bool.Decides.{nat_tests}
use Rattle.std.proofs.lemmas.List.Elements.{All-from_get_or}
use Rattle.std.proofs.lemmas.List.Folds.{list_any_at, list_any_none}
use Rattle.std.proofs.lemmas.List.Sorted.{searched}
use Rattle.std.proofs.lemmas.Bool.{eq-eqb, cases_lt}
use Rattle.work_book.specs.Seat.{IsAscending}

lower : (a b : ℕ) → a < b → (a == b) ≡ false
lower a b l = grind (arith, nat_tests)

higher : (a b : ℕ) → b < a → (a == b) ≡ false
higher a b l = grind (arith, nat_tests)

pub found_where_it_stands : (xs : List ℕ) (number : ℕ) (r : Result ℕ ℕ) →
    IsBinarySearchResult (λ y. nat_cmp y number) xs r → IsAscending xs
    → is_ok r ≡ list_any (λ x. x == number) xs
found_where_it_stands xs number (Ok i) found up =
    let at = searched xs number (Ok i) found up in
    sym (list_any_at (λ x. x == number) xs i 0 at.0 (eq-eqb _ _ at.1))
found_where_it_stands xs number (Err i) found up =
    let at = searched xs number (Err i) found up in
    sym (list_any_none (λ x. x == number) xs (All-from_get_or (λ x. (x == number) ≡ false) xs 0
    (λ k here. elim (cases_lt k i) [ inl l ↦ lower _ _ (at.1 k l) | inr l ↦ higher _ _ (at.2 k l here) ])))
