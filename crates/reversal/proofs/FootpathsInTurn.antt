-- Footpaths that are reversed one after another are all reversed.
use Rattle.std.proofs.Common.{◌≡◌, ℕ, zero, suc, ◌+◌, ◌<◌, ◌≤◌, List, [], ◌∷◌, ◌++◌, length, get_or}
use Rattle.std.proofs.Common.{drop, slice_get, Some, refl, sym, ◌∙◌, ap, append_assoc, append-nil, add-one, arith}
use Rattle.std.proofs.lemmas.List.{ext_get_or}
use Rattle.std.proofs.lemmas.List.FromFn.{get_or-map-range_with_len, length-map-range_with_len}
use Rattle.std.proofs.lemmas.Option.{none-some, same_Some}
use Rattle.timetable.specs.declared.trips.StopNo.{StopNo}
use Rattle.timetable.specs.Footpaths.{FeetData, FootLists}
use Rattle.reversal.specs.Mirror.{mirrored_feet, reversed_between, reversed_to}

-- the rest of a list, at one of its elements and past its end
pub drop_at : {X : Type 0} (xs : List X) (k : ℕ) (x : X) → slice_get xs k ≡ Some x → drop k xs ≡ x ∷ drop (k + 1) xs
drop_at [] k x h = absurd (none-some x h)
drop_at (y ∷ xs) zero x h = ap (λ z. z ∷ xs) (same_Some y x h)
drop_at (y ∷ xs) (suc k) x h = rw (add-one (suc k)) (drop_at xs k x h ∙ rw (add-one k) refl)

drop_past : {X : Type 0} (xs : List X) (k : ℕ) → length xs ≤ k → drop k xs ≡ []
drop_past [] zero l = refl
drop_past [] (suc k) l = refl
drop_past (x ∷ xs) zero l = absurd (omega (arith, l))
drop_past (x ∷ xs) (suc k) l = drop_past xs k (omega (arith, l))

-- the row of one stop
pub rows_more : (lists new walks : FootLists) (a b : ℕ) (row : List (StopNo × ℕ)) → slice_get walks a ≡ Some row →
    get_or new b [] ≡ get_or lists b [] ++ reversed_between a b row →
    get_or new b [] ++ reversed_to b (a + 1) (drop (a + 1) walks) ≡ get_or lists b [] ++ reversed_to b a (drop a walks)
rows_more lists new walks a b row at is =
    let rest = drop (a + 1) walks in
    let left : reversed_to b a (drop a walks) ≡ reversed_between a b row ++ reversed_to b (a + 1) rest =
    ap (reversed_to b a) (drop_at walks a row at)
    ∙ ap (λ c. reversed_between a b row ++ reversed_to b c rest) (sym (add-one a)) in
    ap (λ r. r ++ reversed_to b (a + 1) rest) is
    ∙ (append_assoc (get_or lists b []) (reversed_between a b row) (reversed_to b (a + 1) rest)
    ∙ ap (λ r. get_or lists b [] ++ r) (sym left))

-- the rows of all stops
pub all_rows : (feet : FeetData) (lists : FootLists) (a : ℕ) → length feet.walks ≤ a →
    length lists ≡ length feet.walks →
    ((b : ℕ) → b < length lists →
    get_or lists b [] ++ reversed_to b a (drop a feet.walks) ≡ reversed_to b 0 feet.walks) →
    lists ≡ (mirrored_feet feet).walks
all_rows feet lists a past count each =
    let n = length feet.walks in
    let f = λ (b : ℕ). reversed_to b 0 feet.walks in
    ext_get_or [] lists (mirrored_feet feet).walks (count ∙ sym (length-map-range_with_len f 0 n)) (λ b l.
    let low : b < n = omega (arith, l, count) in
    sym (append-nil (get_or lists b []))
    ∙ (ap (λ ws. get_or lists b [] ++ reversed_to b a ws) (sym (drop_past feet.walks a past))
    ∙ (each b l ∙ sym (get_or-map-range_with_len f 0 n b b [] low (omega arith)))))
