-- The numbers that a text lists: they are read from its parts one by one, and the text lists no others.
use Rattle.std.proofs.Common.{zero, suc, ◌≡◌, ◌∙◌, ◌<◌, ◌≤◌, ◌+◌, ◌++◌, ℕ, Bool, true, false, Bor, List, [], ◌∷◌, map}
use Rattle.std.proofs.Common.{drop, length, Option, Some, None, option_map, option_and_then, nat_eq, nat_le, nat_lt}
use Rattle.std.proofs.Common.{slice_index, refl, sym, ap, subst, arith}
use Rattle.std.proofs.lemmas.Bool.{ltb-true, lt-ltb, leb-true, le-leb, and_parts}
use Rattle.std.proofs.lemmas.List.{length-map}
use Rattle.std.proofs.lemmas.List.Splits.{length-slice_split}
use Rattle.std.proofs.lemmas.Option.{none-some, same_Some}
use Rattle.std.specs.List.Sorted.{IsStrictlyIncreasing}
use Rattle.table_records.specs.Fields.{number_of}
use Rattle.command_line.specs.Numbers.{Lists, ascend, numbers_of, parts_of, written_by}
use Rattle.command_line.specs.declared.numbers.TheConstants.{MOST_NUMBERS}

-- numbers that are read, and before them those that were read already
abbrev pub onto : List ℕ → Option (List ℕ) → Option (List ℕ)
onto read rest = option_map (λ more. read ++ more) rest

-- the numbers of texts from one on
abbrev pub from_text : List (Bor (List ℕ)) → ℕ → Option (List ℕ)
from_text texts i = written_by (map (λ text. text.now) (drop i texts))

-- ---- the test of order

one_on : (n : ℕ) (ns : List ℕ) (k : ℕ) → slice_index (n ∷ ns) (suc k + 1) ≡ slice_index ns (k + 1)
one_on n ns k = ap (slice_index (n ∷ ns)) more
  where
    more : suc k + 1 ≡ suc (k + 1)
    more = omega arith

pub rises : (ns : List ℕ) → ascend ns ≡ true → IsStrictlyIncreasing ns
rises [] e k lt = absurd (omega (arith, lt))
rises (n ∷ []) e k lt = absurd (omega (arith, lt))
rises (n ∷ m ∷ ns) e zero lt = ltb-true n m (and_parts (nat_lt n m) (ascend (m ∷ ns)) e).0
rises (n ∷ m ∷ ns) e (suc k) lt =
    subst (λ i. slice_index (m ∷ ns) k < i) (sym (one_on n (m ∷ ns) k))
    (rises (m ∷ ns) (and_parts (nat_lt n m) (ascend (m ∷ ns)) e).1 k (omega (arith, lt)))

pub is_ascending : (ns : List ℕ) → IsStrictlyIncreasing ns → ascend ns ≡ true
is_ascending [] up = refl
is_ascending (n ∷ []) up = refl
is_ascending (n ∷ m ∷ ns) up =
    let first : nat_lt n m ≡ true = lt-ltb n m (up zero (omega arith)) in
    let rest : ascend (m ∷ ns) ≡ true =
    is_ascending (m ∷ ns) (λ k lt. subst (λ i. slice_index (m ∷ ns) k
    < i) (one_on n (m ∷ ns) k) (up (suc k) (omega (arith, lt)))) in
    rw (first, rest) refl

-- ---- what is written

-- what texts write is one number each
pub each_writes : (texts : List (List ℕ)) (ns : List ℕ) → written_by texts ≡ Some ns → map number_of texts ≡ map Some ns
each_writes [] [] e = refl
each_writes [] (n ∷ ns) e = absurd (let bad : Some [] ≡ Some (n ∷ ns) = e in cc)
each_writes (t ∷ ts) ns e = go (λ more r. each_writes ts more r) (number_of t) (written_by ts) refl refl e
  where
    go : ((more : List ℕ) → written_by ts ≡ Some more → map number_of ts ≡ map Some more) →
        (first : Option ℕ) (rest : Option (List ℕ)) → number_of t ≡ first → written_by ts ≡ rest
        → option_and_then (λ n. option_map (λ more. n ∷ more) rest) first ≡ Some ns →
        map number_of (t ∷ ts) ≡ map Some ns
    go again None rest f r e = absurd (none-some ns e)
    go again (Some n) None f r e = absurd (none-some ns e)
    go again (Some n) (Some more) f r e =
        let is : n ∷ more ≡ ns = same_Some (n ∷ more) ns e in
        let tail : map number_of ts ≡ map Some more = again more r in
        rw (f, tail) (ap (map Some) is)

pub all_written : (texts : List (List ℕ)) (ns : List ℕ) → map number_of texts ≡ map Some ns → written_by texts ≡ Some ns
all_written [] [] e = refl
all_written [] (n ∷ ns) e = absurd (let bad : [] ≡ Some n ∷ map Some ns = e in cc)
all_written (t ∷ ts) [] e = absurd (let bad : number_of t ∷ map number_of ts ≡ [] = e in cc)
all_written (t ∷ ts) (n ∷ ns) e =
    let first : number_of t ≡ Some n = ap (head (Some n)) e in
    let rest : written_by ts ≡ Some ns = all_written ts ns (ap tail e) in
    rw (first, rest) refl
  where
    head : Option ℕ → List (Option ℕ) → Option ℕ
    head d [] = d
    head d (x ∷ xs) = x

    tail : List (Option ℕ) → List (Option ℕ)
    tail [] = []
    tail (x ∷ xs) = xs

-- a text has a part
some_numbers : (text ns : List ℕ) → map number_of (parts_of text) ≡ map Some ns → 1 ≤ length ns
some_numbers text ns e =
    let parts = length-slice_split (λ b. nat_eq b 44) text in
    let texts = length-map (parts_of text) number_of in
    let numbers : length (map Some ns) ≡ length ns = length-map ns Some in
    let same : length (map number_of (parts_of text)) ≡ length (map Some ns) = ap length e in
    omega (arith, parts, texts, numbers, same)

-- ---- what a text lists

pub listed : (text ns : List ℕ) → written_by (parts_of text) ≡ Some ns →
    (length ns ≤ MOST_NUMBERS) × IsStrictlyIncreasing ns → Lists text ns
listed text ns is fit =
    let written = each_writes (parts_of text) ns is in
    record { written = written; some = some_numbers text ns written; few = fit.0; ascending = fit.1 }

pub no_number : (text : List ℕ) → written_by (parts_of text) ≡ None → (numbers : List ℕ) → Lists text numbers → ⊥
no_number text none numbers lists = none-some numbers (sym none ∙ all_written (parts_of text) numbers lists.written)

pub no_list : (text ns : List ℕ) → written_by (parts_of text) ≡ Some ns →
    ((length ns ≤ MOST_NUMBERS) × IsStrictlyIncreasing ns → ⊥)
    → (numbers : List ℕ) → Lists text numbers → ⊥
no_list text ns is unfit numbers lists =
    let same : numbers ≡ ns = same_Some numbers ns (sym (all_written (parts_of text) numbers lists.written) ∙ is) in
    unfit (subst (λ (them : List ℕ). (length them ≤ MOST_NUMBERS) × IsStrictlyIncreasing them) same
    (lists.few, lists.ascending))

pub taken : (text ns : List ℕ) → written_by (parts_of text) ≡ Some ns →
    (length ns ≤ MOST_NUMBERS) × IsStrictlyIncreasing ns → Some ns ≡ numbers_of text
taken text ns is fit =
    let few : nat_le (length ns) MOST_NUMBERS ≡ true = le-leb (length ns) MOST_NUMBERS fit.0 in
    let up : ascend ns ≡ true = is_ascending ns fit.1 in
    rw (is, few, up) refl

pub not_taken : (text ns : List ℕ) → written_by (parts_of text) ≡ Some ns →
    ((length ns ≤ MOST_NUMBERS) × IsStrictlyIncreasing ns → ⊥) → None ≡ numbers_of text
not_taken text ns is unfit = go (nat_le (length ns) MOST_NUMBERS) (ascend ns) refl refl
  where
    go : (few up : Bool) → nat_le (length ns) MOST_NUMBERS ≡ few → ascend ns ≡ up → None ≡ numbers_of text
    go true true f u = absurd (unfit (leb-true (length ns) MOST_NUMBERS f, rises ns u))
    go true false f u = rw (is, f, u) refl
    go false up f u = rw (is, f) refl
