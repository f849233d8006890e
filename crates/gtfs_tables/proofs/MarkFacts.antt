-- Marks of the stops that were named, with one more.
use Rattle.std.proofs.Common.{◌≡◌, ◌≢◌, ◌<◌, ◌∙◌, ◌==◌, ◌||◌, ℕ, Bool, true, false, List, [], ◌∷◌, ◌++◌, Option, Some}
use Rattle.std.proofs.Common.{None, get_or, length, map, position, replicate, set, slice_get, refl, sym, ap, subst}
use Rattle.std.proofs.Common.{arith, inr}
use Rattle.std.proofs.lemmas.Bool.Decides.{nat_tests}
use Rattle.std.proofs.lemmas.List.{get_or_default, get_or-replicate, get_or-set_other, get_or-set_same}
use Rattle.std.proofs.lemmas.List.{length-replicate, length-set}
use Rattle.std.proofs.lemmas.List.Elements.{All-head, All-nil, All-push, All-tail}
use Rattle.std.proofs.lemmas.List.Folds.{list_any-append}
use Rattle.std.proofs.lemmas.Slice.Eq.{bytes_eq-Decides}
use Rattle.std.proofs.lemmas.Bool.{or_right, eq-eqb}
use Rattle.trip_events.proofs.RecordsAscend.{clean}
use Rattle.trip_events.proofs.EventFacts.{no_parts}
use Rattle.std.specs.Prelude.{All, is_none, unwrap_or}
use Rattle.std.specs.List.{list_any}
use Rattle.std.specs.Str.{bytes_eq}
use Rattle.table_records.specs.Fields.{is_empty}
use Rattle.table_records.specs.Faults.{IsFirst, Tells, when}
use Rattle.table_records.specs.declared.fault.FileName.{FileName}
use Rattle.table_records.specs.declared.fault.What.{What}
use Rattle.table_records.specs.declared.fault.What.TheVariants as what
use Rattle.table_records.specs.Identifiers.{number_in}
use Rattle.gtfs_tables.specs.NamedStops.{AreMarked, stop_checks}
use Rattle.trip_events.proofs.TimeFacts.{found_below}
use Rattle.gtfs_tables.proofs.NumbersLeadBack.{at_position}

-- two stops have one number where they have one identifier
same_number : (stops : List (List ℕ)) (n : ℕ) (id b : List ℕ) → Some n ≡ position (bytes_eq id) stops →
    is_none (position (bytes_eq b) stops) ≡ false → (number_in stops b == n) ≡ bytes_eq id b
same_number stops n id b here there = by (bytes_eq id b) refl
  where
    same : Some n ≡ position (bytes_eq id) stops → (number_in stops id == n) ≡ true
    same e = rw (← e) (eq-eqb n n refl)

    apart : (o : Option ℕ) → o ≡ position (bytes_eq b) stops → is_none o ≡ false → bytes_eq id b ≡ false →
        (unwrap_or o 0 == n) ≡ false
    apart None e h not_same = cc h
    apart (Some m) e h not_same = other (m == n) refl
      where
        other : (t : Bool) → (m == n) ≡ t → (m == n) ≡ false
        other false q = q
        other true q =
            let one : m ≡ n = grind (arith, nat_tests) in
            let first : slice_get stops n ≡ Some id = at_position stops n id here in
            let second : slice_get stops n ≡ Some b = ap (slice_get stops) (sym one) ∙ at_position stops m b e in
            let one_text : id ≡ b = cc (first, second) in
            let test : bytes_eq id b ≡ true = grind (arith, bytes_eq-Decides) in
            absurd (cc (test, not_same))

    by : (t : Bool) → bytes_eq id b ≡ t → (number_in stops b == n) ≡ t
    by true e = let is : id ≡ b = grind (arith, bytes_eq-Decides) in
        subst (λ (x : List ℕ). (number_in stops x == n) ≡ true) is (same here)
    by false e = apart (position (bytes_eq b) stops) refl there e

-- a stop's mark says whether it was named
named_before : (stops : List (List ℕ)) (n : ℕ) (id : List ℕ) (ids : List (List ℕ)) →
    Some n ≡ position (bytes_eq id) stops → All (λ b. is_none (position (bytes_eq b) stops) ≡ false) ids
    → list_any (λ b. number_in stops b == n) ids ≡ list_any (bytes_eq id) ids
named_before stops n id [] here all = refl
named_before stops n id (b ∷ ids) here all =
    let first = same_number stops n id b here
    (All-head (λ (x : List ℕ). is_none (position (bytes_eq x) stops) ≡ false) b ids all) in
    let rest = named_before stops n id ids here
    (All-tail (λ (x : List ℕ). is_none (position (bytes_eq x) stops) ≡ false) b ids all) in
    λ k. first k || rest k

below : (stops : List (List ℕ)) (n : ℕ) (id : List ℕ) → Some n ≡ position (bytes_eq id) stops → n < length stops
below stops n id here = found_below (bytes_eq id) stops n here

module _ (stops : List (List ℕ)) (marks : List Bool) (ids : List (List ℕ)) (n : ℕ) (id : List ℕ)
    (are : AreMarked stops marks ids) (here : Some n ≡ position (bytes_eq id) stops) where
  pub mark_is : (d : Bool) → get_or marks n d ≡ list_any (bytes_eq id) ids
  mark_is d = get_or_default marks n d false (omega (arith, below stops n id here, are.size))
      ∙ are.each n (below stops n id here) ∙ named_before stops n id ids here are.known

  -- one more stop
  pub marked_more : AreMarked stops (set marks n true) (ids ++ id ∷ [])
  marked_more = record {
    size = length-set marks n true ∙ are.size;
    known = All-push (λ (x : List ℕ). is_none (position (bytes_eq x) stops)
        ≡ false) ids id are.known (rw (← here) refl);
    each = λ m lt. by m lt (n == m) refl;
  }
    where
      number : number_in stops id ≡ n
      number = rw (← here) refl

      or_false : (b : Bool) → (b || false) ≡ b
      or_false true = refl
      or_false false = refl

      by : (m : ℕ) → m < length stops → (t : Bool) → (n == m) ≡ t →
          get_or (set marks n true) m false ≡ list_any (λ b. number_in stops b == m) (ids ++ id ∷ [])
      by m lt true e =
          let one : m ≡ n = grind (arith, nat_tests) in
          let within : n < length marks = omega (arith, lt, are.size) in
          rw (
            one,
            list_any-append (λ (b : List ℕ). number_in stops b == n) ids (id ∷ []),
            number,
            eq-eqb n n refl,
            get_or-set_same marks n true false within,
          )
          (sym (or_right (list_any (λ (b : List ℕ). number_in stops b == n) ids) true refl))
      by m lt false e =
          let apart : m ≢ n = grind (arith, nat_tests) in
          rw (
            list_any-append (λ (b : List ℕ). number_in stops b == m) ids (id ∷ []),
            number,
            e,
            get_or-set_other marks n m true false apart,
          )
          (are.each m lt ∙ sym (or_false (list_any (λ (b : List ℕ). number_in stops b == m) ids)))

-- no stop was named yet
pub none_marked : (stops : List (List ℕ)) (n : ℕ) (marks : List Bool) → n ≡ length stops → marks ≡ replicate n false →
    AreMarked stops marks []
none_marked stops n marks count are = rw are (record {
  size = length-replicate n false ∙ count;
  known = All-nil (λ (x : List ℕ). is_none (position (bytes_eq x) stops) ≡ false);
  each = λ m lt. get_or-replicate n m false false (omega (arith, lt, count));
})

pub repeated : (stops before : List (List ℕ)) (id : List ℕ) (n : ℕ) → is_empty id ≡ false →
    Some n ≡ position (bytes_eq id) stops → list_any (bytes_eq id) before ≡ true
    → IsFirst what.DuplicateId (stop_checks stops before id)
repeated stops before id n some here again = rw (some, ← here, again) refl

pub fresh : (stops before : List (List ℕ)) (id : List ℕ) (n : ℕ) → is_empty id ≡ false →
    Some n ≡ position (bytes_eq id) stops → list_any (bytes_eq id) before ≡ false
    → (stop_checks stops before id ≡ []) × (n ≡ number_in stops id)
fresh stops before id n some here new = (rw (some, ← here, new) refl, rw (← here) refl)

-- the first of a record's faults, with its file and number
pub first_told : (file : FileName) (at : ℕ) (n : ℕ) (w : What) (ws : List What) → at ≡ n → IsFirst w ws →
    Tells (record { file = file; at = at; what = w }) (map (λ x. record { file = file; at = n; what = x }) ws)
first_told file at n w [] is first = cc first
first_told file at n w (x ∷ ws) is first = let same : x ≡ w = cc first in
    inr (λ k. Some (record { file = file; at = sym is k; what = same k }))

pub first_more : (w : What) (xs ys : List What) → IsFirst w xs → IsFirst w (xs ++ ys)
first_more w [] ys h = cc h
first_more w (x ∷ xs) ys h = h

-- a stop without fault is found, and was not named before
pub found_stop : (stops before : List (List ℕ)) (id : List ℕ) (n : ℕ) → stop_checks stops before id ≡ [] →
    n ≡ number_in stops id
    → (slice_get stops n ≡ Some id) × (list_any (bytes_eq id) before ≡ false)
found_stop stops before id n none number =
    let empty : List What = when (is_empty id) what.EmptyId in
    let unknown_stop : List What = when (is_none (position (bytes_eq id) stops)) what.UnknownStop in
    let again : List What = when (list_any (bytes_eq id) before) what.DuplicateId in
    let (a, new) = no_parts (empty ++ unknown_stop) again none in
    let (_, there) = no_parts empty unknown_stop a in
    let known : is_none (position (bytes_eq id) stops) ≡ false =
    clean (is_none (position (bytes_eq id) stops)) what.UnknownStop there in
    (by (position (bytes_eq id) stops) refl known number, clean (list_any (bytes_eq id) before) what.DuplicateId new)
  where
    by : (o : Option ℕ) → o ≡ position (bytes_eq id) stops → is_none o ≡ false → n ≡ unwrap_or o 0 →
        slice_get stops n ≡ Some id
    by None e h is = cc h
    by (Some m) e h is = ap (slice_get stops) is ∙ at_position stops m id e
