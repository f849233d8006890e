use Rattle.std.proofs.Common.{◌≡◌, ◌<◌, ◌≤◌, ◌+◌, ◌*◌, ◌-◌, ℕ, List, [], ◌∷◌, drop, length, get_or, drop-cons, arith}
use Rattle.std.proofs.Common.{◌∙◌, sym, None, Some, ◌&&◌, nat_le, not, Bool, true, false, refl, suc, if◌then◌else◌}
use Rattle.std.proofs.lemmas.Bool.{lt-leb}
use Rattle.std.specs.List.{list_all}
use Rattle.table_records.specs.Fields.{value_after, number_of, is_digit, is_empty}
use Rattle.table_records.proofs.fields.number.Goals as goal

value_grows : (xs : List ℕ) (n : ℕ) → n ≤ value_after n xs
value_grows [] n = omega arith
value_grows (x ∷ xs) n = omega (arith, value_grows xs (n * 10 + (x - 48)))

never : (p q : Bool) (v : ℕ) → (if p && q && false then Some v else None) ≡ None
never true true v = refl
never true false v = refl
never false q v = refl

-- a number past the greatest is none
too_big : (text : List ℕ) (i value : ℕ) → value_after 0 text ≡ value_after value (drop i text) → i < length text
    → 4294967295 < value * 10 + (get_or text i 0 - 48) → None ≡ number_of text
too_big text i value e lt big =
    let next : value_after 0 text ≡ value_after (value * 10 + (get_or text i 0 - 48)) (drop (suc i) text) =
    e ∙ rw (drop-cons text i 0) refl in
    let grown = value_grows (drop (suc i) text) (value * 10 + (get_or text i 0 - 48)) in
    let past : nat_le (value_after 0 text) 4294967295 ≡ false = lt-leb _ _ (omega (arith, next)) in
    rw past (sym (never (not (is_empty text)) (list_all is_digit text) (value_after 0 text)))

pub returns-then-more : goal.returns-then-more
returns-then-more c = too_big c.args.digits.now c.loop-digit.digit-index c.loop-digit.value c.loop-digit.invariant.0
    (omega arith) (omega arith)
