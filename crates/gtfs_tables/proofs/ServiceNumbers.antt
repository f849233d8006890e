-- Services that are named one after another: each stands once, keeps its number, and is found.
use Rattle.std.proofs.Common.{◌≡◌, ◌<◌, ◌≤◌, ◌+◌, ◌∙◌, ℕ, Bool, true, false, List, [], ◌∷◌, ◌++◌, Option, Some, None}
use Rattle.std.proofs.Common.{length, map, position, refl, sym, ap, arith, append_assoc, if◌then◌else◌}
use Rattle.std.proofs.lemmas.List.{append-nil, length-append}
use Rattle.std.proofs.lemmas.List.Elements.{All-cons, All-head, All-nil, All-tail, All-weaker}
use Rattle.std.proofs.lemmas.List.Folds.{list_any-append}
use Rattle.std.proofs.lemmas.Bool.{and_parts}
use Rattle.std.specs.Prelude.{All, unwrap_or}
use Rattle.std.specs.List.{IsDistinct, list_all, list_any}
use Rattle.std.specs.Str.{bytes_eq}
use Rattle.table_records.specs.Identifiers.{number_in}
use Rattle.table_files.specs.Services.{named}
use Rattle.table_files.proofs.ServiceFacts.{all_listed, found, lost, number_old, same_text}
use Rattle.table_files.proofs.NewIds.{distinct_push}

-- no two services share an identifier
pub named_distinct : (known ids : List (List ℕ)) → IsDistinct bytes_eq known → IsDistinct bytes_eq (named known ids)
named_distinct known [] apart = apart
named_distinct known (id ∷ ids) apart = named_distinct
    (if list_any (bytes_eq id) known then known else known ++ id ∷ []) ids (by (list_any (bytes_eq id) known) refl)
  where
    by : (b : Bool) → list_any (bytes_eq id) known ≡ b → IsDistinct bytes_eq (if b then known else known ++ id ∷ [])
    by true e = apart
    by false e = distinct_push known id apart e

-- at most one is named by each row
pub length-named : (known ids : List (List ℕ)) → length (named known ids) ≤ length known + length ids
length-named known [] = omega arith
length-named known (id ∷ ids) = omega (
  arith,
  length-named (if list_any (bytes_eq id) known then known else known ++ id ∷ []) ids,
  by (list_any (bytes_eq id) known),
)
  where
    by : (b : Bool) → length (if b then known else known ++ id ∷ []) ≤ length known + 1
    by true = omega arith
    by false = omega (arith, length-append known (id ∷ []))

-- more come after those that are known
pub named_grows : (known ids : List (List ℕ)) → (more : List (List ℕ)) × (named known ids ≡ known ++ more)
named_grows known [] = ([], sym (append-nil known))
named_grows known (id ∷ ids) = by (list_any (bytes_eq id) known) (λ k. named_grows k ids)
  where
    by : (b : Bool) → ((k : List (List ℕ)) → (more : List (List ℕ)) × (named k ids ≡ k ++ more)) →
        (more : List (List ℕ)) × (named (if b then known else known ++ id ∷ []) ids ≡ known ++ more)
    by true grows = grows known
    by false grows = let (more, is) = grows (known ++ id ∷ []) in (id ∷ more, is ∙ append_assoc known (id ∷ []) more)

-- an identifier is among some
abbrev pub IsKnown : List (List ℕ) → List ℕ → Type 0
IsKnown ids id = list_any (bytes_eq id) ids ≡ true

pub known_append : (id : List ℕ) (ids more : List (List ℕ)) → IsKnown ids id → IsKnown (ids ++ more) id
known_append id ids more h = rw (list_any-append (bytes_eq id) ids more, h) refl

pub known_stays : (id : List ℕ) (known ids : List (List ℕ)) → IsKnown known id → IsKnown (named known ids) id
known_stays id known ids h = let (more, is) = named_grows known ids in rw is (known_append id known more h)

known_now : (id : List ℕ) (known : List (List ℕ)) →
    IsKnown (if list_any (bytes_eq id) known then known else known ++ id ∷ []) id
known_now id known = by (list_any (bytes_eq id) known) refl
  where
    by : (b : Bool) → list_any (bytes_eq id) known ≡ b → IsKnown (if b then known else known ++ id ∷ []) id
    by true e = e
    by false e = rw (list_any-append (bytes_eq id) known (id ∷ []), e, same_text id) refl

-- a known identifier has a number below the count
pub known_below : (ids : List (List ℕ)) (id : List ℕ) → IsKnown ids id → number_in ids id < length ids
known_below ids id known = by (position (bytes_eq id) ids) refl
  where
    by : (o : Option ℕ) → o ≡ position (bytes_eq id) ids → unwrap_or o 0 < length ids
    by None e = cc (lost (bytes_eq id) ids e, known)
    by (Some n) e = (found (bytes_eq id) ids n e).0

-- what a test says of all, it says of each
pub all_pass : {R : Type 0} (test : R → Bool) (xs : List R) → list_all test xs ≡ true → All (λ x. test x ≡ true) xs
all_pass test [] h = All-nil (λ x. test x ≡ true)
all_pass test (x ∷ xs) h =
    let (here, rest) = and_parts (test x) (list_all test xs) h in
    All-cons (λ y. test y ≡ true) x xs here (all_pass test xs rest)

-- rows, each with an identifier
module _ {R : Type 0} (key : R → List ℕ) where
  -- each row's identifier is known
  abbrev pub AreKnown : List (List ℕ) → List R → Type 0
  AreKnown ids rows = All (λ r. IsKnown ids (key r)) rows

  pub all_named : (known : List (List ℕ)) (rows : List R) → AreKnown (named known (map key rows)) rows
  all_named known [] = All-nil (λ (r : R). IsKnown (named known []) (key r))
  all_named known (r ∷ rows) =
      let next : List (List ℕ) = if list_any (bytes_eq (key r)) known then known else known ++ key r ∷ [] in
      All-cons (λ (x : R). IsKnown (named next (map key rows)) (key x)) r rows
      (known_stays (key r) next (map key rows) (known_now (key r) known)) (all_named next rows)

  pub all_own : (before rows : List R) → AreKnown (map key (before ++ rows)) rows
  all_own before rows = all_pass (λ (r : R). list_any (bytes_eq (key r)) (map key (before ++ rows))) rows
      (all_listed key before rows)

  pub all_stay : (known ids : List (List ℕ)) (rows : List R) → AreKnown known rows → AreKnown (named known ids) rows
  all_stay known ids rows are = All-weaker (λ (r : R). IsKnown known (key r))
      (λ (r : R). IsKnown (named known ids) (key r)) (λ r h. known_stays (key r) known ids h) rows are

  pub all_below : (ids : List (List ℕ)) (rows : List R) → AreKnown ids rows →
      All (λ r. number_in ids (key r) < length ids) rows
  all_below ids rows are = All-weaker (λ (r : R). IsKnown ids (key r)) (λ (r : R). number_in ids (key r)
      < length ids) (λ r h. known_below ids (key r) h) rows are

  -- rows keep their values when more services are named
  pub values_stay : {D : Type 0} (make : ℕ → R → D) (known ids : List (List ℕ)) (rows : List R) → AreKnown known rows
      → map (λ r. make (number_in (named known ids) (key r)) r) rows ≡ map (λ r. make (number_in known (key r)) r) rows
  values_stay make known ids [] are = refl
  values_stay make known ids (r ∷ rows) are =
      let (more, is) = named_grows known ids in
      let same : number_in (named known ids) (key r) ≡ number_in known (key r) =
      ap (λ (l : List (List ℕ)). number_in l (key r)) is
      ∙ number_old known more (key r) (All-head (λ (x : R). IsKnown known (key x)) r rows are) in
      let others = values_stay make known ids rows (All-tail (λ (x : R). IsKnown known (key x)) r rows are) in
      λ k. make (same k) r ∷ others k
