-- One more row of `frequencies.txt`.
use Rattle.std.proofs.Common.{◌≡◌, ◌≢◌, ◌<◌, ◌+◌, ◌∙◌, ◌==◌, ◌++◌, ℕ, zero, suc, Bool, true, false, List, [], ◌∷◌}
use Rattle.std.proofs.Common.{length, get_or, set, map, filter, Some, position, arith, refl, sym, ap, if◌then◌else◌}
use Rattle.std.specs.Str.{bytes_eq}
use Rattle.std.specs.declared.vec.Vec.{Vec}
use Rattle.std.specs.declared.alloc.Global.{Global}
use Rattle.std.proofs.lemmas.Bool.Decides.{nat_tests}
use Rattle.std.proofs.lemmas.List.{append-nil, get_or-set_same, get_or-set_other, length-set, map-append}
use Rattle.std.proofs.lemmas.List.Elements.{filter-append}
use Rattle.std.proofs.lemmas.Bool.{eq-eqb}
use Rattle.table_records.specs.Fields.{is_empty, time_of}
use Rattle.table_files.specs.declared.frequencies.Departures.{Departures}
use Rattle.table_files.specs.Frequencies.{AreDepartures, FrequencyRow, checks, departures_at, departures_by_trip}
use Rattle.table_files.specs.Frequencies.{departures_from, headway_of, of_trip}
use Rattle.table_records.specs.Identifiers.{number_in}

-- lists that are all empty, with one more
pub more_empty : {D : Type 0} (xs : List (Vec D Global)) (x : Vec D Global) →
    ((t : ℕ) (d : Vec D Global) → t < length xs → (get_or xs t d).items ≡ []) → x.items ≡ []
    → (t : ℕ) (d : Vec D Global) → t < length xs + 1 → (get_or (xs ++ x ∷ []) t d).items ≡ []
more_empty [] x h e zero d lt = e
more_empty [] x h e (suc t) d lt = absurd (omega (arith, lt))
more_empty (y ∷ ys) x h e zero d lt = h zero d (omega arith)
more_empty (y ∷ ys) x h e (suc t) d lt =
    more_empty ys x (λ k b less. h (suc k) b (omega (arith, less))) e t d (omega (arith, lt))

-- a row of a trip comes after its others
row_more : (trips : List (List ℕ)) (rows : List FrequencyRow) (r : FrequencyRow) (t : ℕ) (b : Bool) →
    (number_in trips r.trip == t) ≡ b
    → of_trip trips (rows ++ r ∷ []) t ≡ of_trip trips rows t ++ (if b then departures_at r ∷ [] else [])
row_more trips rows r t true e =
    rw (
      filter-append (λ (x : FrequencyRow). number_in trips x.trip == t) rows (r ∷ []),
      e,
      map-append departures_at (filter (λ (x : FrequencyRow). number_in trips x.trip == t) rows) (r ∷ []),
    ) refl
row_more trips rows r t false e =
    rw (
      filter-append (λ (x : FrequencyRow). number_in trips x.trip == t) rows (r ∷ []),
      e,
      append-nil (filter (λ (x : FrequencyRow). number_in trips x.trip == t) rows),
    ) (sym (append-nil _))

-- the departures with one more row
pub departures_more : (trips : List (List ℕ)) (items : List (Vec Departures Global)) (rows : List FrequencyRow)
    (r : FrequencyRow) (t : ℕ) (v w : Vec Departures Global)
    → AreDepartures trips items rows → t < length items → number_in trips r.trip ≡ t → v ≡ get_or items t v →
    w.items ≡ v.items ++ departures_at r ∷ []
    → AreDepartures trips (set items t w) (rows ++ r ∷ [])
departures_more trips items rows r t v w are lt is here put u d within = by (number_in trips r.trip == u) refl
  where
    by : (b : Bool) → (number_in trips r.trip == u) ≡ b →
        (get_or (set items t w) u d).items ≡ of_trip trips (rows ++ r ∷ []) u
    by true e =
        let same : u ≡ t = grind (arith, nat_tests) in
        let old : v.items ≡ of_trip trips rows t = ap (λ (x : Vec Departures Global). x.items) here ∙ are t v lt in
        rw (
          row_more trips rows r u true e,
          same,
          get_or-set_same items t w d lt,
        ) (put ∙ ap (λ (l : List Departures). l ++ departures_at r ∷ []) old)
    by false e =
        let other : u ≢ t = λ h. cc (
          ap (λ (x : ℕ). number_in trips r.trip == x) (h ∙ sym is)
              ∙ eq-eqb (number_in trips r.trip) (number_in trips r.trip) refl,
          e,
        ) in
        let inside : u < length items = omega (arith, length-set {A = Vec Departures Global}) in
        rw (row_more trips rows r u false e, get_or-set_other items t u w d other) (are u d inside ∙ sym (append-nil _))

-- the departures of all trips, as a list
listed : (trips : List (List ℕ)) (rows : List FrequencyRow) (first : ℕ) (items : List (Vec Departures Global))
    (ids : List (List ℕ)) → length items ≡ length ids
    → ((t : ℕ) (d : Vec Departures Global) → t < length items →
    (get_or items t d).items ≡ of_trip trips rows (t + first))
    → map (λ (v : Vec Departures Global). v.items) items ≡ departures_from trips rows first ids
listed trips rows first [] [] e h = refl
listed trips rows first [] (id ∷ ids) e h = absurd (omega (arith, e))
listed trips rows first (v ∷ items) [] e h = absurd (omega (arith, e))
listed trips rows first (v ∷ items) (id ∷ ids) e h =
    let here : zero + first ≡ first = omega arith in
    let head : v.items ≡ of_trip trips rows first = h zero v (omega arith) ∙ ap (of_trip trips rows) here in
    let tail = listed trips rows (first + 1) items ids (omega (arith, e))
    (λ t d lt. let next : suc t + first ≡ t + (first + 1) = omega arith in
    h (suc t) d (omega (arith, lt)) ∙ ap (of_trip trips rows) next) in
    λ k. head k ∷ tail k

pub all_listed : (trips : List (List ℕ)) (rows : List FrequencyRow) (items : List (Vec Departures Global)) →
    length items ≡ length trips → AreDepartures trips items rows
    → map (λ (v : Vec Departures Global). v.items) items ≡ departures_by_trip trips rows
all_listed trips rows items size are =
    listed trips rows 0 items trips size (λ t d lt. let here : t ≡ t + 0 = omega arith in
    are t d lt ∙ ap (of_trip trips rows) here)

pub no_fault : (trips : List (List ℕ)) (before : List FrequencyRow) (r : FrequencyRow) (t start end headway : ℕ) →
    is_empty r.trip ≡ false → Some t ≡ position (bytes_eq r.trip) trips
    → Some start ≡ time_of r.start → Some end ≡ time_of r.end → Some headway ≡ headway_of r.headway
    → (checks trips before r ≡ []) × (number_in trips r.trip ≡ t)
    × (departures_at r ≡ record { start = start; end = end; headway = headway })
no_fault trips before r t start end headway some trip s e h =
    (rw (some, ← trip, ← s, ← e, ← h) refl, rw (← trip) refl, rw (← s, ← e, ← h) refl)
