-- Where a text stands among distinct ones.
use Rattle.std.proofs.Common.{◌≡◌, ◌<◌, ◌≤◌, ◌+◌, ◌-◌, ◌++◌, ◌∙◌, ℕ, true, false, List, Some, drop, length, get_or, map}
use Rattle.std.proofs.Common.{position, take, arith, sym, ap}
use Rattle.std.proofs.lemmas.List.{drop-drop, take-append-drop}
use Rattle.std.proofs.lemmas.Map.Keys.{apart_from_distinct}
use Rattle.std.proofs.lemmas.Slice.Eq.{bytes_eq-Decides}
use Rattle.std.specs.List.{IsDistinct}
use Rattle.std.specs.Str.{bytes_eq}
use Rattle.table_records.proofs.FieldFacts.{first_at}
use Rattle.table_records.proofs.MappedTests.{position-map}

-- a text that equals another differs from what differs from it
differs : (id here other : List ℕ) → bytes_eq here id ≡ true → bytes_eq other here ≡ false → bytes_eq id other ≡ false
differs id here other same apart = grind (arith, bytes_eq-Decides)

same_text : (id here : List ℕ) → bytes_eq here id ≡ true → bytes_eq id here ≡ true
same_text id here same = grind (arith, bytes_eq-Decides)

-- it is first where it stands
pub position_here : {K : Type 0} (text : K → List ℕ) (ks : List K) (i : ℕ) (d : K) (id : List ℕ) →
    IsDistinct (λ a b. bytes_eq (text a) (text b)) ks → i < length ks
    → d ≡ get_or ks i d → bytes_eq (text d) id ≡ true → position (bytes_eq id) (map text ks) ≡ Some i
position_here text ks i d id apart lt at same =
    position-map text (bytes_eq id) ks
    ∙ first_at (λ k. bytes_eq id (text k)) ks d i lt
    (λ k below. differs id (text (get_or ks i d)) (text (get_or ks k d)) (ap (λ x. bytes_eq (text x) id) (sym at)
    ∙ same)
    (apart_from_distinct (λ a b. bytes_eq (text a) (text b)) ks k i d apart below lt))
    (same_text id (text (get_or ks i d)) (ap (λ x. bytes_eq (text x) id) (sym at) ∙ same))

-- texts that are the same are found equal
pub same_bytes : (a b : List ℕ) → a ≡ b → bytes_eq a b ≡ true
same_bytes a b same = grind (arith, bytes_eq-Decides)

-- and texts that are found equal are the same
pub found_same : (a b : List ℕ) → bytes_eq a b ≡ true → a ≡ b
found_same a b same = grind (arith, bytes_eq-Decides)

-- texts of one length, with at least n bytes and at most twice as many, are equal where their first n bytes are, and
-- their last n
pub equal_ends : (n : ℕ) (a b : List ℕ) → length a ≡ length b → n ≤ length a → length a ≤ n + n → take n a ≡ take n b
    → drop (length a - n) a ≡ drop (length b - n) b → a ≡ b
equal_ends n a b len long short first last =
    sym (take-append-drop n a) ∙ ap (λ (l : List ℕ). l ++ drop n a) first ∙ ap (λ (l : List ℕ). take n b ++ l) rest
    ∙ take-append-drop n b
  where
    skip : (l : List ℕ) → n ≤ length l → length l ≤ n + n → drop (n + n - length l) (drop (length l - n) l) ≡ drop n l
    skip l long short =
        let sum : length l - n + (n + n - length l) ≡ n = omega (arith, long, short) in
        drop-drop (n + n - length l) (length l - n) l ∙ ap (λ (k : ℕ). drop k l) sum

    longer : n ≤ length b
    longer = omega (arith, len, long)

    shorter : length b ≤ n + n
    shorter = omega (arith, len, short)

    rest : drop n a ≡ drop n b
    rest =
        sym (skip a long short) ∙ ap (λ (l : List ℕ). drop (n + n - length a) l) last
        ∙ ap (λ (k : ℕ). drop (n + n - k) (drop (length b - n) b)) len
        ∙ skip b longer shorter
