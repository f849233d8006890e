-- The records of all trips, with one more record.
use Rattle.std.proofs.Common.{◌≡◌, ◌≢◌, ◌<◌, ◌+◌, ◌==◌, ◌||◌, ◌++◌, ◌∙◌, ℕ, zero, suc, Bool, true, false, List, [], ◌∷◌}
use Rattle.std.proofs.Common.{length, get_or, set, filter, replicate, arith, refl, ap, sym}
use Rattle.std.proofs.lemmas.List.{map-append, append-nil}
use Rattle.std.proofs.lemmas.List.Elements.{All-cons, All-nil, filter-append}
use Rattle.std.proofs.lemmas.Bool.{ne_eqb, eq-eqb}
use Rattle.std.specs.Prelude.{All, nat_lt, if◌then◌else◌}
use Rattle.std.specs.List.{list_any}
use Rattle.trip_events.specs.TripTimes.{has_number, in_order, insert_all, insert_in_order}
use Rattle.trip_events.specs.StopTimes.{of_trip, sorted_from}
use Rattle.trip_events.specs.declared.trip_times.StopTime.{StopTime}

-- a record of a trip, and of another
pub more_same : (t : ℕ) (rows : List (ℕ × StopTime)) (s : StopTime) →
    of_trip t (rows ++ (t, s) ∷ []) ≡ of_trip t rows ++ s ∷ []
more_same t rows s =
    rw (
      filter-append (λ (r : ℕ × StopTime). r.0 == t) rows ((t, s) ∷ []),
      eq-eqb t t refl,
      map-append (λ (r : ℕ × StopTime). r.1) (filter (λ (r : ℕ × StopTime). r.0 == t) rows) ((t, s) ∷ []),
    ) refl

pub more_other : (t u : ℕ) (rows : List (ℕ × StopTime)) (s : StopTime) → t ≢ u →
    of_trip u (rows ++ (t, s) ∷ []) ≡ of_trip u rows
more_other t u rows s ne =
    rw (
      filter-append (λ (r : ℕ × StopTime). r.0 == u) rows ((t, s) ∷ []),
      ne_eqb t u ne,
      append-nil (filter (λ (r : ℕ × StopTime). r.0 == u) rows),
    ) refl

-- a record that comes last is put among those before it
pub insert_all_push : (sorted trip_times : List StopTime) (s : StopTime) →
    insert_all sorted (trip_times ++ s ∷ []) ≡ insert_in_order s (insert_all sorted trip_times)
insert_all_push sorted [] s = refl
insert_all_push sorted (t ∷ trip_times) s = insert_all_push (insert_in_order t sorted) trip_times s

any_or : (b c : Bool) → (b || c) ≡ (c || b)
any_or true true = refl
any_or true false = refl
any_or false true = refl
any_or false false = refl

swap_or : (a b c : Bool) → (a || (b || c)) ≡ (b || (a || c))
swap_or true true c = refl
swap_or true false c = refl
swap_or false b c = refl

any_inserted : (p : StopTime → Bool) (s : StopTime) (sorted : List StopTime) →
    list_any p (insert_in_order s sorted) ≡ (p s || list_any p sorted)
any_inserted p s [] = refl
any_inserted p s (t ∷ rest) = by (nat_lt s.sequence t.sequence) (ap (λ (b : Bool). p t || b) (any_inserted p s rest)
    ∙ swap_or (p t) (p s) (list_any p rest))
  where
    by : (b : Bool) → (p t || list_any p (insert_in_order s rest)) ≡ (p s || (p t || list_any p rest))
        → list_any p (if b then s ∷ t ∷ rest else t ∷ insert_in_order s rest) ≡ (p s || (p t || list_any p rest))
    by true e = refl
    by false e = e

any_all : (p : StopTime → Bool) (sorted trip_times : List StopTime) →
    list_any p (insert_all sorted trip_times) ≡ (list_any p trip_times || list_any p sorted)
any_all p sorted [] = refl
any_all p sorted (s ∷ trip_times) = any_all p (insert_in_order s sorted) trip_times
    ∙ ap (λ (b : Bool). list_any p trip_times || b) (any_inserted p s sorted)
    ∙ three (p s) (list_any p trip_times) (list_any p sorted)
  where
    three : (a b c : Bool) → (b || (a || c)) ≡ ((a || b) || c)
    three true true c = refl
    three true false c = refl
    three false b c = refl

-- the order makes no difference to whether a record passes a test
pub any_in_order : (p : StopTime → Bool) (trip_times : List StopTime) →
    list_any p (in_order trip_times) ≡ list_any p trip_times
any_in_order p trip_times = any_all p [] trip_times ∙ any_or (list_any p trip_times) false

pub number_in_order : (n : ℕ) (trip_times : List StopTime) →
    has_number n (in_order trip_times) ≡ has_number n trip_times
number_in_order n trip_times = any_in_order (λ (s : StopTime). s.sequence == n) trip_times

pub sorted_none : (first : ℕ) (ids : List (List ℕ)) → sorted_from [] first ids ≡ replicate (length ids) []
sorted_none first [] = refl
sorted_none first (id ∷ ids) = ap (λ (l : List (List StopTime)). [] ∷ l) (sorted_none (first + 1) ids)

-- the records of one trip among those of all
pub sorted_at : (rows : List (ℕ × StopTime)) (k first t : ℕ) (ids : List (List ℕ)) (d : List StopTime) → t ≡ k + first →
    k < length ids
    → get_or (sorted_from rows first ids) k d ≡ in_order (of_trip t rows)
sorted_at rows k first t [] d e lt = absurd (omega (arith, lt))
sorted_at rows zero first t (id ∷ ids) d e lt = let same : first ≡ t = omega (arith, e) in
    ap (λ (n : ℕ). in_order (of_trip n rows)) same
sorted_at rows (suc k) first t (id ∷ ids) d e lt =
    sorted_at rows k (first + 1) t ids d (omega (arith, e)) (omega (arith, lt))

-- a trip before some makes no difference to them
untouched : (rows : List (ℕ × StopTime)) (t : ℕ) (s : StopTime) (first : ℕ) (ids : List (List ℕ)) → t < first →
    sorted_from (rows ++ (t, s) ∷ []) first ids ≡ sorted_from rows first ids
untouched rows t s first [] lt = refl
untouched rows t s first (id ∷ ids) lt =
    let other = more_other t first rows s (λ e. absurd (omega (arith, e, lt))) in
    let more = untouched rows t s (first + 1) ids (omega arith) in
    λ i. in_order (other i) ∷ more i

-- one more record changes those of its trip
pub sorted_more : (rows : List (ℕ × StopTime)) (k first t : ℕ) (s : StopTime) (ids : List (List ℕ))
    (old : List StopTime) → t ≡ k + first → k < length ids → old ≡ in_order (of_trip t rows)
    → sorted_from (rows ++ (t, s) ∷ []) first ids ≡ set (sorted_from rows first ids) k (insert_in_order s old)
sorted_more rows k first t s [] old e lt is = absurd (omega (arith, lt))
sorted_more rows zero first t s (id ∷ ids) old e lt is =
    let same : first ≡ t = omega (arith, e) in
    let head : in_order (of_trip first (rows ++ (t, s) ∷ [])) ≡ insert_in_order s old =
    ap (λ (n : ℕ). in_order (of_trip n (rows ++ (t, s) ∷ []))) same ∙ ap in_order (more_same t rows s)
    ∙ insert_all_push [] (of_trip t rows) s ∙ ap (insert_in_order s) (sym is) in
    let tail = untouched rows t s (first + 1) ids (omega (arith, same)) in
    λ i. head i ∷ tail i
sorted_more rows (suc k) first t s (id ∷ ids) old e lt is =
    let other = more_other t first rows s (λ h. absurd (omega (arith, h, e))) in
    let tail = sorted_more rows k (first + 1) t s ids old (omega (arith, e)) (omega (arith, lt)) is in
    λ i. in_order (other i) ∷ tail i

pub length-insert_in_order : (s : StopTime) (xs : List StopTime) → length (insert_in_order s xs) ≡ length xs + 1
length-insert_in_order s [] = refl
length-insert_in_order s (t ∷ rest) = by (nat_lt s.sequence t.sequence) (length-insert_in_order s rest)
  where
    by : (b : Bool) → length (insert_in_order s rest) ≡ length rest + 1 →
        length (if b then s ∷ t ∷ rest else t ∷ insert_in_order s rest) ≡ length (t ∷ rest) + 1
    by true e = omega arith
    by false e = omega (arith, e)

-- what holds of a record and of some holds of them together
pub All-insert_in_order : (P : StopTime → Type 0) (s : StopTime) (xs : List StopTime) → P s → All P xs →
    All P (insert_in_order s xs)
All-insert_in_order P s [] here all = All-cons P s [] here (All-nil P)
All-insert_in_order P s (t ∷ rest) here all =
    by (nat_lt s.sequence t.sequence) (All-insert_in_order P s rest here (λ k d lt. all (suc k) d (omega (arith, lt))))
  where
    by : (b : Bool) → All P (insert_in_order s rest) → All P (if b then s ∷ t ∷ rest else t ∷ insert_in_order s rest)
    by true more = All-cons P s (t ∷ rest) here all
    by false more = All-cons P t (insert_in_order s rest) (all zero t (omega arith)) more
