-- One more record of `stops.txt`, and what is true of all places.
use Rattle.std.proofs.Common.{◌≡◌, ◌<◌, ◌≤◌, ◌∙◌, ◌==◌, ◌++◌, nat_le, ℕ, Bool, true, false, List, [], ◌∷◌, length, map}
use Rattle.std.proofs.Common.{filter, Some, append_assoc, arith, refl, sym, ap, subst, if◌then◌else◌}
use Rattle.std.specs.Prelude.{All}
use Rattle.std.specs.List.{IsDistinct, list_any}
use Rattle.std.specs.Str.{bytes_eq}
use Rattle.std.specs.declared.vec.Vec.{Vec}
use Rattle.std.specs.declared.alloc.Global.{Global}
use Rattle.std.proofs.lemmas.Bool.{lt-leb, or_parts}
use Rattle.std.proofs.lemmas.List.{append-nil, length-append, length-map, map-append}
use Rattle.std.proofs.lemmas.List.Elements.{All-cons, All-nil, filter-append}
use Rattle.table_records.specs.Fields.{is_empty}
use Rattle.table_files.specs.declared.place.Place.{Place}
use Rattle.table_files.specs.declared.place.Place.TheVariants.{Stop, Station, Other}
use Rattle.table_files.specs.declared.places.PlaceList.{PlaceList}
use Rattle.table_files.specs.Children.{IsPlace, children_of}
use Rattle.table_files.specs.Places.{ArePlaces, IsPlaceList, IsPlaced, PlaceRecord, checks, is_station}
use Rattle.table_files.specs.Places.{is_stop, kind_of, names_of, parents_of, place_at, places_after}
use Rattle.table_files.specs.Places.{places_in, stations_of, stops_of, with_id}
use Rattle.table_files.proofs.ChildrenFacts.{are_children, length-children_of}
use Rattle.table_files.proofs.NewIds.{distinct_push}

-- no records yet
pub no_places : (l : PlaceList) → l.names ≡ [] → l.stops ≡ [] → l.stations ≡ [] → l.places.items ≡ [] →
    l.parents.items ≡ [] → IsPlaceList l []
unfolding IsDistinct
no_places l names stops stations places parents = record {
  names = names;
  stops = stops;
  stations = stations;
  places = places;
  parents = rw parents refl;
  distinct = rw stops tt;
}

-- those of the rows that pass a test, with one more row
kept-push : (p : PlaceRecord → Bool) (key : PlaceRecord →
    List ℕ) (rows : List PlaceRecord) (r : PlaceRecord) →
    map key (filter p (rows ++ r ∷ [])) ≡ map key (filter p rows) ++ (if p r then key r ∷ [] else [])
kept-push p key rows r = ap (map key) (filter-append p rows (r ∷ []))
    ∙ map-append key (filter p rows) (filter p (r ∷ []))
    ∙ ap (λ (l : List (List ℕ)). map key (filter p rows) ++ l) (by (p r))
  where
    by : (b : Bool) → map key (if b then r ∷ [] else []) ≡ (if b then key r ∷ [] else [])
    by true = refl
    by false = refl

-- an identifier that no record has is none of those kept
not_kept : (p : PlaceRecord → Bool) (id : List ℕ) (rows : List PlaceRecord) →
    list_any (bytes_eq id) (names_of rows) ≡ false →
    list_any (bytes_eq id) (map (λ (x : PlaceRecord). x.id) (filter p rows)) ≡ false
not_kept p id [] h = refl
not_kept p id (r ∷ rows) h = let e = or_parts (bytes_eq id r.id) _ h in by (p r) (e.0, not_kept p id rows e.1)
  where
    by : (b : Bool) → (bytes_eq id r.id ≡ false)
        × (list_any (bytes_eq id) (map (λ (x : PlaceRecord). x.id) (filter p rows)) ≡ false)
        → list_any (bytes_eq id) (map (λ (x : PlaceRecord). x.id) (if b then r ∷ filter p rows else filter p rows))
        ≡ false
    by true e = rw e.0 e.1
    by false e = e.1

-- identifiers with one that is new, where it counts
put_new : (ids : List (List ℕ)) (id : List ℕ) (b : Bool) → list_any (bytes_eq id) ids ≡ false →
    (if b then with_id ids id else ids) ≡ ids ++ (if b then id ∷ [] else [])
put_new ids id true new = rw new refl
put_new ids id false new = sym (append-nil ids)

still_distinct : (ids : List (List ℕ)) (id : List ℕ) (b : Bool) → IsDistinct bytes_eq ids →
    list_any (bytes_eq id) ids ≡ false → IsDistinct bytes_eq (if b then with_id ids id else ids)
still_distinct ids id true apart new = rw new (distinct_push ids id apart new)
still_distinct ids id false apart new = apart

places_after-push : (before rows : List PlaceRecord) (r : PlaceRecord) →
    places_after before (rows ++ r ∷ []) ≡ places_after before rows ++ place_at (before ++ rows) r ∷ []
places_after-push before [] r = λ k. place_at (sym (append-nil before) k) r ∷ []
places_after-push before (x ∷ rows) r =
    ap (λ (l : List Place). place_at before x ∷ l) (places_after-push (before ++ x ∷ []) rows r
    ∙ (λ k. places_after (before ++ x ∷ []) rows ++ place_at (append_assoc before (x ∷ []) rows k)
    r ∷ []))

-- the places with one more record
pub places_more : (a d : PlaceList) (names : List (List ℕ)) (before : List PlaceRecord) (r : PlaceRecord)
    (kind : ℕ) → IsPlaceList a before → Some kind ≡ kind_of r.kind
    → list_any (bytes_eq r.id) a.names ≡ false → names ≡ a.names ++ r.id ∷ []
    → IsPlaced kind r.id r.parent (record {
      names = names;
      stops = a.stops;
      stations = a.stations;
      places = a.places;
      parents = a.parents;
    }) d → IsPlaceList d (before ++ r ∷ [])
places_more a d names before r kind is named new put placed =
    let stop : is_stop r ≡ (kind == 0) = rw (← named) refl in
    let station : is_station r ≡ (kind == 1) = rw (← named) refl in
    let unknown : list_any (bytes_eq r.id) (names_of before) ≡ false = rw is.names at new in
    let new_stop : list_any (bytes_eq r.id) a.stops ≡ false = rw is.stops (not_kept is_stop r.id before unknown) in
    let new_station : list_any (bytes_eq r.id) a.stations ≡ false =
    rw is.stations (not_kept is_station r.id before unknown) in
    let id : PlaceRecord → List ℕ = λ x. x.id in
    let parent : PlaceRecord → List ℕ = λ x. x.parent in
    record {
      names = placed.names ∙ put ∙ ap (λ (l : List (List ℕ)). l ++ r.id ∷ []) is.names
          ∙ sym (map-append id before (r ∷ []));
      stops = placed.stops ∙ put_new a.stops r.id (kind == 0) new_stop
          ∙ (λ k. is.stops k ++ (if sym stop k then r.id ∷ [] else [])) ∙ sym (kept-push is_stop id before r);
      stations = placed.stations ∙ put_new a.stations r.id (kind == 1) new_station
          ∙ (λ k. is.stations k ++ (if sym station k then r.id ∷ [] else [])) ∙ sym (kept-push is_station id before r);
      places = placed.places
          ∙ (λ k. is.places k ++ (if sym stop k then Stop (record { 0 = length (is.stops k) }) else if sym station k
          then Station (length (is.stations k)) else Other) ∷ [])
          ∙ sym (places_after-push [] before r);
      parents = placed.parents ∙ (λ k. is.parents k ++ (if sym stop k then r.parent ∷ [] else []))
          ∙ sym (kept-push is_stop parent before r);
      distinct = rw placed.stops (still_distinct a.stops r.id (kind == 0) is.distinct new_stop);
    }

pub no_fault : (before : List PlaceRecord) (r : PlaceRecord) (names : List (List ℕ)) (kind : ℕ) →
    length before < 65535 → is_empty r.id ≡ false → names ≡ names_of before → list_any (bytes_eq r.id) names ≡ false
    → Some kind ≡ kind_of r.kind → checks before r ≡ []
no_fault before r names kind few some are new number =
    let room : nat_le 65535 (length before) ≡ false = lt-leb _ _ few in
    rw (room, some, rw are at new, ← number) refl

as_many : (before rows : List PlaceRecord) → length (places_after before rows) ≡ length rows
as_many before [] = refl
as_many before (r ∷ rows) = let more = as_many (before ++ r ∷ []) rows in omega (arith, more)

-- each record's number is below the count of all stops or stations
places_in_range : (before rows : List PlaceRecord) →
    All (IsPlace (length (stops_of (before ++ rows))) (length (stations_of (before ++ rows))))
    (places_after before rows)
places_in_range before [] = All-nil (IsPlace (length (stops_of (before ++ [])))
    (length (stations_of (before ++ []))))
places_in_range before (r ∷ rows) =
    All-cons (IsPlace (length (stops_of (before ++ r ∷ rows))) (length (stations_of (before ++ r ∷ rows))))
    (place_at before r) (places_after (before ++ r ∷ []) rows)
    (by (is_stop r) (is_station r) refl refl)
    (let all : List PlaceRecord → Type 0 =
    λ l. All (IsPlace (length (stops_of l)) (length (stations_of l))) (places_after (before ++ r ∷ []) rows)
    in
    subst all (append_assoc before (r ∷ []) rows) (places_in_range (before ++ r ∷ []) rows))
  where
    -- one that passes a test is counted behind those before it
    counted : (p : PlaceRecord → Bool) → p r ≡ true →
        length (map (λ (x : PlaceRecord). x.id) (filter p before))
        < length (map (λ (x : PlaceRecord). x.id) (filter p (before ++ r ∷ rows)))
    counted p e =
        let split : filter p (before ++ r ∷ rows) ≡ filter p before ++ r ∷ filter p rows =
        filter-append p before (r ∷ rows) ∙ rw e refl in
        omega (
          arith,
          length-map (filter p before) (λ (x : PlaceRecord). x.id),
          length-map (filter p (before ++ r ∷ rows)) (λ (x : PlaceRecord). x.id),
          ap length split,
          length-append (filter p before) (r ∷ filter p rows),
        )

    by : (a b : Bool) → is_stop r ≡ a → is_station r ≡ b
        → IsPlace (length (stops_of (before ++ r ∷ rows))) (length (stations_of (before ++ r ∷ rows)))
        (if a then Stop (record { 0 = length (stops_of before) }) else if b then Station (length (stations_of before))
        else Other)
    by true b e g = counted is_stop e
    by false true e g = counted is_station g
    by false false e g = tt

-- what is true of all places
pub are_places : (l : PlaceList) (rows : List PlaceRecord) → IsPlaceList l rows → length l.names ≤ 65535 →
    length l.stops ≤ length l.names → length l.stations ≤ length l.names
    → (record {
      names = l.names;
      stops = l.stops;
      stations = l.stations;
      places = l.places.items;
      children = children_of l.stations (map (λ (v : Vec ℕ Global). v.items) l.parents.items);
    }
    ≡ places_in rows)
    × ArePlaces (places_in rows) × (length l.parents.items ≤ 65535)
are_places l rows is few stops stations =
    let parents = length-map (filter is_stop rows) (λ (x : PlaceRecord). x.parent) in
    let ids = length-map (filter is_stop rows) (λ (x : PlaceRecord). x.id) in
    let many = ap length is.parents in
    let kept = length-map l.parents.items (λ (v : Vec ℕ Global). v.items) in
    let same_stops = ap length is.stops in
    let same_stations = ap length is.stations in
    let same_names = ap length is.names in (
      λ k. record {
        names = is.names k;
        stops = is.stops k;
        stations = is.stations k;
        places = is.places k;
        children = children_of (is.stations k) (is.parents k);
      },
      record {
        few = omega (arith, few, same_names);
        as_many = as_many [] rows ∙ sym (length-map rows (λ (x : PlaceRecord). x.id));
        stops_within = omega (arith, stops, same_stops, same_names);
        stations_within = omega (arith, stations, same_stations, same_names);
        distinct = rw is.stops at is.distinct;
        in_range = places_in_range [] rows;
        lists = length-children_of (stations_of rows) (parents_of rows);
        children = are_children (stations_of rows) (parents_of rows) (length (stops_of rows)) (parents ∙ sym ids);
      },
      omega (arith, parents, ids, many, kept, same_stops, stops, few),
    )
