-- One more stop among the stops of the stations.
use Rattle.std.proofs.Common.{◌≡◌, ◌<◌, ◌≤◌, ◌+◌, ◌∙◌, ◌++◌, ℕ, zero, suc, Bool, true, false, List, [], ◌∷◌, length}
use Rattle.std.proofs.Common.{get_or, set, take, map, filter, Some, None, position, replicate, arith, refl, sym, ap}
use Rattle.std.proofs.Common.{if◌then◌else◌}
use Rattle.std.specs.Prelude.{All, option_map, slice_get}
use Rattle.std.specs.List.{enumerate_from}
use Rattle.std.specs.Str.{bytes_eq}
use Rattle.std.specs.declared.vec.Vec.{Vec}
use Rattle.std.specs.declared.alloc.Global.{Global}
use Rattle.std.proofs.lemmas.List.{append-nil, length-map, length-take-le, map-append, map-set, take_more}
use Rattle.std.proofs.lemmas.List.Elements.{All-cons, All-nil, filter-append}
use Rattle.std.proofs.lemmas.List.Kept.{AllPairs-cons}
use Rattle.std.proofs.lemmas.Option.{slice_get-get_or, slice_get-map}
use Rattle.std.proofs.lemmas.Bool.{ne_eqb, eq-eqb}
use Rattle.timetable.specs.declared.trips.StopNo.{StopNo}
use Rattle.table_records.specs.Fields.{is_number}
use Rattle.table_files.specs.Children.{AreChildren, Ascend, children_at, children_of}
use Rattle.table_files.proofs.ServiceFacts.{found}

-- a stop put after those of its station
pub put_child : (vecs : List (Vec StopNo Global)) (lists : List (List StopNo)) (k : ℕ) (v w : Vec StopNo Global)
    (stop : StopNo)
    → map (λ (u : Vec StopNo Global). u.items) vecs ≡ lists → k < length lists → v ≡ get_or vecs k v →
    w.items ≡ v.items ++ stop ∷ []
    → (x : List StopNo) × (slice_get lists k ≡ Some x)
    × (map (λ (u : Vec StopNo Global). u.items) (set vecs k w) ≡ set lists k (x ++ stop ∷ []))
put_child vecs lists k v w stop same lt here put =
    let items : Vec StopNo Global → List StopNo = λ u. u.items in
    let within : k < length vecs = omega (arith, lt, length-map vecs items, ap length same) in
    let at : slice_get vecs k ≡ Some v = slice_get-get_or vecs k v within
    ∙ ap (λ (u : Vec StopNo Global). Some u) (sym here) in (
      v.items,
      ap (λ (l : List (List StopNo)). slice_get l k) (sym same) ∙ slice_get-map items vecs k ∙ ap (option_map items) at,
      map-set items vecs k w ∙ (λ i. set (same i) k (put i)),
    )

-- the numbers of two lists, one behind the other
pub enumerate_from-append : {X : Type 0} (n : ℕ) (xs ys : List X) →
    enumerate_from n (xs ++ ys) ≡ enumerate_from n xs ++ enumerate_from (n + length xs) ys
enumerate_from-append n [] ys = let e : n ≡ n + 0 = omega arith in λ k. enumerate_from (e k) ys
enumerate_from-append n (x ∷ xs) ys =
    let e : n + 1 + length xs ≡ n + suc (length xs) = omega arith in
    ap (λ l. (n, x) ∷ l) (enumerate_from-append (n + 1) xs ys
    ∙ (λ k. enumerate_from (n + 1) xs ++ enumerate_from (e k) ys))

-- the stops of one station, with one more stop
children_at-push : (stations parents : List (List ℕ)) (parent : List ℕ) (t : ℕ)
    → children_at stations (parents ++ parent ∷ []) t
    ≡ children_at stations parents t ++ (if is_number t (position (bytes_eq parent) stations) then record
    { 0 = length parents } ∷ [] else [])
children_at-push stations parents parent t =
    let test : ℕ × List ℕ → Bool = λ x. is_number t (position (bytes_eq x.1) stations) in
    let stop : ℕ × List ℕ → StopNo = λ x. record { 0 = x.0 } in
    ap (λ l. map stop (filter test l)) (enumerate_from-append 0 parents (parent ∷ []))
    ∙ ap (map stop) (filter-append test (enumerate_from 0 parents) ((0 + length parents, parent) ∷ []))
    ∙ map-append stop (filter test (enumerate_from 0 parents)) (filter test ((0 + length parents, parent) ∷ []))
    ∙ ap (λ l. map stop (filter test (enumerate_from 0 parents)) ++ l)
    (by (is_number t (position (bytes_eq parent) stations)))
  where
    by : (b : Bool) → map (λ (x : ℕ × List ℕ). let s : StopNo = record { 0 = x.0 } in
        s) (if b then (0 + length parents, parent) ∷ [] else [])
        ≡ (if b then (let s : StopNo = record { 0 = length parents } in s) ∷ [] else [])
    by true = let e : 0 + length parents ≡ length parents = omega arith in λ k. record { 0 = e k } ∷ []
    by false = refl

-- a station that isn't the parent keeps its stops
kept_at : (stations parents : List (List ℕ)) (parent : List ℕ) (t : ℕ) →
    is_number t (position (bytes_eq parent) stations) ≡ false
    → children_at stations (parents ++ parent ∷ []) t ≡ children_at stations parents t
kept_at stations parents parent t e = children_at-push stations parents parent t ∙ rw e (append-nil _)

-- so do all stations from a number on
kept_from : (stations parents : List (List ℕ)) (parent : List ℕ) (n : ℕ) (ids : List (List ℕ)) →
    ((t : ℕ) → n ≤ t → is_number t (position (bytes_eq parent) stations) ≡ false)
    → map (λ (x : ℕ × List ℕ). children_at stations (parents ++ parent ∷ []) x.0) (enumerate_from n ids)
    ≡ map (λ (x : ℕ × List ℕ). children_at stations parents x.0) (enumerate_from n ids)
kept_from stations parents parent n [] h = refl
kept_from stations parents parent n (id ∷ ids) h =
    let first = kept_at stations parents parent n (h n (omega arith)) in
    let rest = kept_from stations parents parent (n + 1) ids (λ t lt. h t (omega (arith, lt))) in
    λ k. first k ∷ rest k

-- a parent that is no station counts for nothing
pub no_station : (stations parents : List (List ℕ)) (parent : List ℕ) → None ≡ position (bytes_eq parent) stations
    → children_of stations (parents ++ parent ∷ []) ≡ children_of stations parents
no_station stations parents parent none = kept_from stations parents parent 0 stations (λ t lt. rw (← none) refl)

-- a stop is put after those of the station that it names
put_from : (stations parents : List (List ℕ)) (parent : List ℕ) (t n k : ℕ) (ids : List (List ℕ)) (x : List StopNo) →
    Some t ≡ position (bytes_eq parent) stations → t ≡ n + k → k < length ids
    → slice_get (map (λ (p : ℕ × List ℕ). children_at stations parents p.0) (enumerate_from n ids)) k ≡ Some x
    → map (λ (p : ℕ × List ℕ). children_at stations (parents ++ parent ∷ []) p.0) (enumerate_from n ids)
    ≡ set (map (λ (p : ℕ × List ℕ). children_at stations parents p.0) (enumerate_from n ids)) k
    (x ++ record { 0 = length parents } ∷ [])
put_from stations parents parent t n k [] x is e lt at = absurd (omega (arith, lt))
put_from stations parents parent t n zero (id ∷ ids) x is e lt at =
    let here : is_number n (position (bytes_eq parent) stations) ≡ true =
    rw (← is) (let same : t ≡ n = omega (arith, e) in rw same (eq-eqb n n refl)) in
    let old : children_at stations parents n ≡ x = cc at in
    let first : children_at stations (parents ++ parent ∷ []) n ≡ x ++ record { 0 = length parents } ∷ [] =
    children_at-push stations parents parent n
    ∙ rw here (ap (λ (l : List StopNo). l ++ record { 0 = length parents } ∷ []) old) in
    let rest = kept_from stations parents parent (n + 1) ids
    (λ u h. rw (← is) (ne_eqb t u (λ g. absurd (omega (arith, g, h, e))))) in
    λ i. first i ∷ rest i
put_from stations parents parent t n (suc k) (id ∷ ids) x is e lt at =
    let first = kept_at stations parents parent n (rw (← is) (ne_eqb t n (λ g. absurd (omega (arith, g, e))))) in
    let rest = put_from stations parents parent t (n + 1) k ids x is (omega (arith, e)) (omega (arith, lt)) at in
    λ i. first i ∷ rest i

pub put_stop : (stations parents : List (List ℕ)) (parent : List ℕ) (t : ℕ) (x : List StopNo) →
    Some t ≡ position (bytes_eq parent) stations → t < length stations
    → slice_get (children_of stations parents) t ≡ Some x
    → children_of stations (parents ++ parent ∷ [])
    ≡ set (children_of stations parents) t (x ++ record { 0 = length parents } ∷ [])
put_stop stations parents parent t x is lt at = put_from stations parents parent t 0 t stations x is (omega arith) lt at

-- no stops yet
none_from : (stations : List (List ℕ)) (n : ℕ) (ids : List (List ℕ)) →
    map (λ (x : ℕ × List ℕ). children_at stations [] x.0) (enumerate_from n ids)
    ≡ replicate {A = List StopNo} (length ids) []
none_from stations n [] = refl
none_from stations n (id ∷ ids) = ap (λ (l : List (List StopNo)). [] ∷ l) (none_from stations (n + 1) ids)

pub no_stops : (stations : List (List ℕ)) → children_of stations [] ≡ replicate {A = List StopNo} (length stations) []
no_stops stations = none_from stations 0 stations

-- there are as many lists as stations
lists_from : (stations parents : List (List ℕ)) (n : ℕ) (ids : List (List ℕ)) →
    length (map (λ (x : ℕ × List ℕ). children_at stations parents x.0) (enumerate_from n ids)) ≡ length ids
lists_from stations parents n [] = refl
lists_from stations parents n (id ∷ ids) = let more = lists_from stations parents (n + 1) ids in omega (arith, more)

pub length-children_of : (stations parents : List (List ℕ)) → length (children_of stations parents) ≡ length stations
length-children_of stations parents = lists_from stations parents 0 stations

-- the parents of the stops up to one more
pub parents_more : (parents : List (Vec ℕ Global)) (i : ℕ) (v : Vec ℕ Global) (bytes : List ℕ) → i < length parents →
    v ≡ get_or parents i v → bytes ≡ v.items
    → map (λ (u : Vec ℕ Global). u.items) (take (i + 1) parents)
    ≡ map (λ (u : Vec ℕ Global). u.items) (take i parents) ++ bytes ∷ []
parents_more parents i v bytes lt here is =
    let items : Vec ℕ Global → List ℕ = λ u. u.items in
    let last : items (get_or parents i v) ≡ bytes = ap items (sym here) ∙ sym is in
    ap (map items) (take_more parents i v lt) ∙ map-append items (take i parents) (get_or parents i v ∷ [])
    ∙ (λ k. map items (take i parents) ++ last k ∷ [])

-- one more stop whose parent is a station, and one whose parent is none
pub station_step : (stations : List (List ℕ)) (parents : List (Vec ℕ Global)) (i t : ℕ) (v : Vec ℕ Global)
    (bytes : List ℕ) (old now : List (List StopNo)) (x : List StopNo)
    → i < length parents → v ≡ get_or parents i v → bytes ≡ v.items →
    old ≡ children_of stations (map (λ (u : Vec ℕ Global). u.items) (take i parents))
    → Some t ≡ position (bytes_eq bytes) stations → slice_get old t ≡ Some x →
    now ≡ set old t (x ++ record { 0 = i } ∷ [])
    → now ≡ children_of stations (map (λ (u : Vec ℕ Global). u.items) (take (i + 1) parents))
station_step stations parents i t v bytes old now x lt here same is found_at at put =
    let items : Vec ℕ Global → List ℕ = λ u. u.items in
    let before : List (List ℕ) = map items (take i parents) in
    let count : length before ≡ i = length-map (take i parents) items ∙ length-take-le i parents (omega (arith, lt)) in
    let row : slice_get (children_of stations before) t ≡ Some x = rw is at at in
    let moved = put_stop stations before bytes t x found_at (found (bytes_eq bytes) stations t found_at).0 row in
    put ∙ (λ k. set (is k) t (x ++ record { 0 = sym count k } ∷ [])) ∙ sym moved
    ∙ ap (children_of stations) (sym (parents_more parents i v bytes lt here same))

pub no_station_step : (stations : List (List ℕ)) (parents : List (Vec ℕ Global)) (i : ℕ) (v : Vec ℕ Global)
    (bytes : List ℕ) (old now : List (List StopNo))
    → i < length parents → v ≡ get_or parents i v → bytes ≡ v.items →
    old ≡ children_of stations (map (λ (u : Vec ℕ Global). u.items) (take i parents))
    → None ≡ position (bytes_eq bytes) stations → now ≡ old
    → now ≡ children_of stations (map (λ (u : Vec ℕ Global). u.items) (take (i + 1) parents))
no_station_step stations parents i v bytes old now lt here same is none kept =
    kept ∙ is ∙ sym (no_station stations (map (λ (u : Vec ℕ Global). u.items) (take i parents)) bytes none)
    ∙ ap (children_of stations) (sym (parents_more parents i v bytes lt here same))

-- the numbers of the stops of a station are among the numbers of all stops
in_range_from : (test : ℕ × List ℕ → Bool) (n : ℕ) (parents : List (List ℕ))
    → All (λ (s : StopNo). (n ≤ s.0) × (s.0 < n + length parents)) (map (λ (x : ℕ × List ℕ). let s : StopNo =
    record { 0 = x.0 } in s) (filter test (enumerate_from n parents)))
in_range_from test n [] = All-nil (λ (s : StopNo). (n ≤ s.0) × (s.0 < n + 0))
in_range_from test n (p ∷ parents) = by (test (n, p)) (λ k d lt. let h = in_range_from test (n + 1) parents k d lt in
    (omega (arith, h.0), omega (arith, h.1)))
  where
    by : (b : Bool)
        → All (λ (s : StopNo). (n ≤ s.0) × (s.0 < n + suc (length parents))) (map (λ (x : ℕ × List ℕ). let s : StopNo =
        record { 0 = x.0 } in s) (filter test (enumerate_from (n + 1) parents)))
        → All (λ (s : StopNo). (n ≤ s.0) × (s.0 < n + suc (length parents)))
        (map (λ (x : ℕ × List ℕ). let s : StopNo = record { 0 = x.0 } in
        s) (if b then (n, p) ∷ filter test (enumerate_from (n + 1) parents) else filter test
        (enumerate_from (n + 1) parents)))
    by true within = All-cons (λ (s : StopNo). (n ≤ s.0)
        × (s.0 < n + suc (length parents))) (record { 0 = n }) _ (omega arith, omega arith) within
    by false within = within

-- they ascend
ascend_from : (test : ℕ × List ℕ → Bool) (n : ℕ) (parents : List (List ℕ))
    → Ascend (map (λ (x : ℕ × List ℕ). let s : StopNo = record { 0 = x.0 } in
    s) (filter test (enumerate_from n parents)))
ascend_from test n [] = λ i j d lt within. absurd (omega (arith, within))
ascend_from test n (p ∷ parents) = by (test (n, p)) (ascend_from test (n + 1) parents)
  where
    later : All (λ (s : StopNo). n < s.0) (map (λ (x : ℕ × List ℕ). let s : StopNo = record { 0 = x.0 } in
        s) (filter test (enumerate_from (n + 1) parents)))
    later k d lt = let h = in_range_from test (n + 1) parents k d lt in omega (arith, h.0)

    by : (b : Bool) → Ascend (map (λ (x : ℕ × List ℕ). let s : StopNo = record { 0 = x.0 } in
        s) (filter test (enumerate_from (n + 1) parents)))
        → Ascend (map (λ (x : ℕ × List ℕ). let s : StopNo = record { 0 = x.0 } in
        s) (if b then (n, p) ∷ filter test (enumerate_from (n + 1) parents) else filter test
        (enumerate_from (n + 1) parents)))
    by true rest = AllPairs-cons (λ (a b : StopNo). a.0 < b.0) (record { 0 = n }) _ later rest
    by false rest = rest

-- what holds of the stops under every number holds of every station's
all_stations : (P : List StopNo → Type 0) (stations parents : List (List ℕ)) (n : ℕ) (ids : List (List ℕ)) →
    ((t : ℕ) → P (children_at stations parents t))
    → All P (map (λ (x : ℕ × List ℕ). children_at stations parents x.0) (enumerate_from n ids))
all_stations P stations parents n [] h = All-nil P
all_stations P stations parents n (id ∷ ids) h =
    All-cons P (children_at stations parents n) _ (h n) (all_stations P stations parents (n + 1) ids h)

pub are_children : (stations parents : List (List ℕ)) (stops : ℕ) → length parents ≡ stops →
    AreChildren stops (children_of stations parents)
are_children stations parents stops same = record {
  in_range = all_stations (All (λ (s : StopNo). s.0 < stops)) stations parents 0 stations
      (λ t k d lt. let h = in_range_from (λ (x : ℕ × List ℕ). is_number t (position (bytes_eq x.1) stations)) 0 parents
      k d lt in omega (arith, h.1, same));
  ascending = all_stations Ascend stations parents 0 stations
      (λ t. ascend_from (λ (x : ℕ × List ℕ). is_number t (position (bytes_eq x.1) stations)) 0 parents);
}
