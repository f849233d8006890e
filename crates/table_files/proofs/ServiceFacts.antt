-- Identifiers keep their numbers when more are named after them.
use Rattle.std.proofs.Common.{◌≡◌, ◌<◌, ◌+◌, ◌∙◌, ◌||◌, nat_lt, ℕ, suc, Bool, true, false, List, [], ◌∷◌, ◌++◌, length}
use Rattle.std.proofs.Common.{map, position, Option, Some, None, refl, sym, ap, arith, append_assoc, if◌then◌else◌}
use Rattle.std.specs.Prelude.{not, unwrap_or}
use Rattle.std.specs.List.{list_all, list_any, position_or_len}
use Rattle.std.specs.Str.{bytes_eq}
use Rattle.std.proofs.lemmas.Bool.Decides.{nat_tests}
use Rattle.std.proofs.lemmas.List.{append-nil, length-append, map-append}
use Rattle.std.proofs.lemmas.List.Folds.{list_any-append}
use Rattle.std.proofs.lemmas.Slice.Eq.{bytes_eq-Decides}
use Rattle.std.proofs.lemmas.Bool.{and_parts, or_right}
use Rattle.table_records.specs.Identifiers.{number_in}
use Rattle.table_files.specs.Services.{named}

-- a text equals itself
pub same_text : (xs : List ℕ) → bytes_eq xs xs ≡ true
same_text xs = (bytes_eq-Decides xs xs).1 refl

at_position : {X : Type 0} (p : X → Bool) (xs : List X) (i : ℕ) → position_or_len p xs ≡ i → i < length xs →
    position p xs ≡ Some i
at_position p xs i is lt =
    let within : nat_lt i (length xs) ≡ true = grind (arith, nat_tests) in
    rw (is, within) refl

-- the first position is the same with more after it
front : {X : Type 0} (p : X → Bool) (xs ys : List X) → list_any p xs ≡ true →
    (position_or_len p (xs ++ ys) ≡ position_or_len p xs) × (position_or_len p xs < length xs)
front p [] ys h = cc h
front p (x ∷ xs) ys h = by (p x) h (λ e. front p xs ys e)
  where
    by : (b : Bool) → (b || list_any p xs) ≡ true →
        (list_any p xs ≡ true → (position_or_len p (xs ++ ys) ≡ position_or_len p xs)
        × (position_or_len p xs < length xs))
        → ((if not b then 1 + position_or_len p (xs ++ ys) else 0) ≡ (if not b then 1 + position_or_len p xs else 0))
        × ((if not b then 1 + position_or_len p xs else 0) < suc (length xs))
    by true e again = (refl, omega arith)
    by false e again = let (same, lt) = again e in (ap (λ (n : ℕ). 1 + n) same, omega (arith, lt))

pub position-append : {X : Type 0} (p : X → Bool) (xs ys : List X) → list_any p xs ≡ true →
    position p (xs ++ ys) ≡ position p xs
position-append p xs ys h =
    let (same, lt) = front p xs ys h in
    let longer : position_or_len p xs < length (xs ++ ys) = omega (arith, lt, length-append xs ys) in
    at_position p (xs ++ ys) (position_or_len p xs) same longer ∙ sym (at_position p xs (position_or_len p xs) refl lt)

past : {X : Type 0} (p : X → Bool) (xs : List X) → list_any p xs ≡ false → position_or_len p xs ≡ length xs
past p [] h = refl
past p (x ∷ xs) h = by (p x) h (λ e. past p xs e)
  where
    by : (b : Bool) → (b || list_any p xs) ≡ false → (list_any p xs ≡ false → position_or_len p xs ≡ length xs) →
        (if not b then 1 + position_or_len p xs else 0) ≡ suc (length xs)
    by true e again = cc e
    by false e again = let same = again e in omega (arith, same)

nowhere : {X : Type 0} (p : X → Bool) (xs : List X) → list_any p xs ≡ false → position p xs ≡ None
nowhere p xs h =
    let is = past p xs h in
    let outside : nat_lt (length xs) (length xs) ≡ false = grind (arith, nat_tests) in
    rw (is, outside) refl

-- one that is new stands last
last_position : {X : Type 0} (p : X → Bool) (xs : List X) (y : X) → list_any p xs ≡ false → p y ≡ true →
    position_or_len p (xs ++ y ∷ []) ≡ length xs
last_position p [] y h e = rw e refl
last_position p (x ∷ xs) y h e = by (p x) h (λ g. last_position p xs y g e)
  where
    by : (b : Bool) → (b || list_any p xs) ≡ false →
        (list_any p xs ≡ false → position_or_len p (xs ++ y ∷ []) ≡ length xs) →
        (if not b then 1 + position_or_len p (xs ++ y ∷ []) else 0) ≡ suc (length xs)
    by true g again = cc g
    by false g again = let same = again g in omega (arith, same)

pub position-last : {X : Type 0} (p : X → Bool) (xs : List X) (y : X) → list_any p xs ≡ false → p y ≡ true →
    position p (xs ++ y ∷ []) ≡ Some (length xs)
position-last p xs y h e = at_position p (xs ++ y ∷ []) (length xs) (last_position p xs y h e) (omega (
  arith,
  length-append xs (y ∷ []),
))

-- the number of a new identifier
pub number_new : (ids : List (List ℕ)) (id : List ℕ) → list_any (bytes_eq id) ids ≡ false →
    number_in (ids ++ id ∷ []) id ≡ length ids
number_new ids id new = ap (λ (o : Option ℕ). unwrap_or o 0) (position-last (bytes_eq id) ids id new (same_text id))

pub number_old : (ids more : List (List ℕ)) (id : List ℕ) → list_any (bytes_eq id) ids ≡ true →
    number_in (ids ++ more) id ≡ number_in ids id
number_old ids more id old = ap (λ (o : Option ℕ). unwrap_or o 0) (position-append (bytes_eq id) ids more old)

-- rows whose identifiers are all known keep their values
module _ {R D : Type 0} (key : R → List ℕ) (make : ℕ → R → D) where
  pub values_stay : (ids more : List (List ℕ)) (rows : List R) →
      list_all (λ r. list_any (bytes_eq (key r)) ids) rows ≡ true
      → map (λ r. make (number_in (ids ++ more) (key r)) r) rows ≡ map (λ r. make (number_in ids (key r)) r) rows
  values_stay ids more [] h = refl
  values_stay ids more (r ∷ rows) h =
      let (here, rest) = and_parts (list_any (bytes_eq (key r)) ids) _ h in
      let first = number_old ids more (key r) here in
      let others = values_stay ids more rows rest in
      λ k. make (first k) r ∷ others k

-- each row's identifier is among those of all rows
pub all_listed : {R : Type 0} (key : R → List ℕ) (before rows : List R) →
    list_all (λ r. list_any (bytes_eq (key r)) (map key (before ++ rows))) rows ≡ true
all_listed key before [] = refl
all_listed key before (r ∷ rows) =
    let shift : before ++ r ∷ rows ≡ (before ++ r ∷ []) ++ rows = sym (append_assoc before (r ∷ []) rows) in
    let here : list_any (bytes_eq (key r)) (map key (before ++ r ∷ rows)) ≡ true =
    rw (
      map-append key before (r ∷ rows),
      list_any-append (bytes_eq (key r)) (map key before) (key r ∷ map key rows),
      same_text (key r),
    ) (or_right (list_any (bytes_eq (key r)) (map key before)) true refl) in
    let rest : list_all (λ q. list_any (bytes_eq (key q)) (map key (before ++ r ∷ rows))) rows ≡ true =
    rw shift (all_listed key (before ++ r ∷ []) rows) in
    rw here rest

-- a position that was found, and one that was not
pub found : {X : Type 0} (p : X → Bool) (xs : List X) (n : ℕ) → Some n ≡ position p xs →
    (n < length xs) × (list_any p xs ≡ true)
found p xs n h = by (list_any p xs) refl
  where
    by : (b : Bool) → list_any p xs ≡ b → (n < length xs) × (list_any p xs ≡ true)
    by true e =
        let lt = (front p xs [] e).1 in
        let same : Some n ≡ Some (position_or_len p xs) = h ∙ at_position p xs (position_or_len p xs) refl lt in
        let is : n ≡ position_or_len p xs = cc same in
        (omega (arith, is, lt), e)
    by false e = cc (h, nowhere p xs e)

pub lost : {X : Type 0} (p : X → Bool) (xs : List X) → None ≡ position p xs → list_any p xs ≡ false
lost p xs h = by (list_any p xs) refl
  where
    by : (b : Bool) → list_any p xs ≡ b → list_any p xs ≡ false
    by true e = cc (h, at_position p xs (position_or_len p xs) refl (front p xs [] e).1)
    by false e = e

-- what naming one more identifier does
pub named_again : (known : List (List ℕ)) (id : List ℕ) → list_any (bytes_eq id) known ≡ true →
    named known (id ∷ []) ≡ known
named_again known id h = rw h refl

pub named-append : (known xs ys : List (List ℕ)) → named known (xs ++ ys) ≡ named (named known xs) ys
named-append known [] ys = refl
named-append known (x ∷ xs) ys = named-append (if list_any (bytes_eq x) known then known else known ++ x ∷ []) xs ys

grows : (known : List (List ℕ)) (id : List ℕ) → (more : List (List ℕ)) × (named known (id ∷ []) ≡ known ++ more)
grows known id = by (list_any (bytes_eq id) known)
  where
    by : (b : Bool) → (more : List (List ℕ)) × ((if b then known else known ++ id ∷ []) ≡ known ++ more)
    by true = ([], sym (append-nil known))
    by false = (id ∷ [], refl)

-- an identifier that is known stays known
stays : (id : List ℕ) (known ids : List (List ℕ)) → list_any (bytes_eq id) known ≡ true →
    list_any (bytes_eq id) (named known ids) ≡ true
stays id known [] h = h
stays id known (x ∷ ids) h = stays id (if list_any (bytes_eq x) known then known else known ++ x ∷ []) ids
    (by (list_any (bytes_eq x) known))
  where
    by : (b : Bool) → list_any (bytes_eq id) (if b then known else known ++ x ∷ []) ≡ true
    by true = h
    by false = rw (list_any-append (bytes_eq id) known (x ∷ []), h) refl

-- an identifier that was just named is known
known_now : (id : List ℕ) (known : List (List ℕ)) →
    list_any (bytes_eq id) (if list_any (bytes_eq id) known then known else known ++ id ∷ []) ≡ true
known_now id known = by (list_any (bytes_eq id) known) refl
  where
    by : (b : Bool) → list_any (bytes_eq id) known ≡ b →
        list_any (bytes_eq id) (if b then known else known ++ id ∷ []) ≡ true
    by true e = e
    by false e = rw (list_any-append (bytes_eq id) known (id ∷ []), e, same_text id) refl

all_named : {R : Type 0} (key : R → List ℕ) (known : List (List ℕ)) (rows : List R) →
    list_all (λ r. list_any (bytes_eq (key r)) (named known (map key rows))) rows ≡ true
all_named key known [] = refl
all_named key known (r ∷ rows) =
    let next : List (List ℕ) = if list_any (bytes_eq (key r)) known then known else known ++ key r ∷ [] in
    let here : list_any (bytes_eq (key r)) (named next (map key rows)) ≡ true =
    stays (key r) next (map key rows) (known_now (key r) known) in
    rw here (all_named key next rows)

-- rows keep their values when one more service is named
pub values_stay_named : {R D : Type 0} (key : R → List ℕ) (make : ℕ → R →
    D) (known : List (List ℕ)) (rows : List R) (id : List ℕ)
    → map (λ r. make (number_in (named (named known (map key rows)) (id ∷ [])) (key r)) r) rows
    ≡ map (λ r. make (number_in (named known (map key rows)) (key r)) r) rows
values_stay_named key make known rows id =
    let (more, is) = grows (named known (map key rows)) id in
    rw is (values_stay key make (named known (map key rows)) more rows (all_named key known rows))
