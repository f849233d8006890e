-- Each origin is a stop of the feed.
use Rattle.std.proofs.Common.{◌≡◌, ◌<◌, ℕ, false, List, [], ◌∷◌, get_or, length, map, position, arith}
use Rattle.std.proofs.lemmas.List.Elements.{All-nil, All-cons, All-head, All-tail}
use Rattle.std.proofs.lemmas.List.FromFn.{get_or-map-range_with_len, length-map-range_with_len}
use Rattle.std.specs.Prelude.{All, is_none}
use Rattle.std.specs.List.{range_with_len}
use Rattle.std.specs.Str.{bytes_eq}
use Rattle.timetable.specs.declared.trips.StopNo.{StopNo}
use Rattle.gtfs_tables.specs.NamedStops.{NamedRow, named_stop, stops_named}
use Rattle.gtfs_tables.proofs.RowsWithoutFaults.{number_below}

-- the origins of a file
pub origins_below : (stops : List (List ℕ)) (rows : List NamedRow) →
    All (λ id. is_none (position (bytes_eq id) stops) ≡ false) (stops_named rows)
    → All (λ (s : StopNo). s.0 < length stops) (map (named_stop stops) rows)
origins_below stops [] known = All-nil (λ (s : StopNo). s.0 < length stops)
origins_below stops (r ∷ rows) known =
    All-cons (λ (s : StopNo). s.0 < length stops) (named_stop stops r) (map (named_stop stops) rows)
    (number_below stops r.stop (All-head (λ (id : List ℕ). is_none (position (bytes_eq id) stops)
    ≡ false) r.stop (stops_named rows) known))
    (origins_below stops rows (All-tail (λ (id : List ℕ). is_none (position (bytes_eq id) stops)
    ≡ false) r.stop (stops_named rows) known))

-- so are all stops
pub all_below : (n : ℕ) (stops : List StopNo) → stops ≡ map (λ (m : ℕ). record { 0 = m }) (range_with_len 0 n) →
    All (λ (s : StopNo). s.0 < n) stops
all_below n stops are = rw are (λ k d lt.
    let stop : ℕ → StopNo = λ m. record { 0 = m } in
    let less : k < n = omega (arith, lt, length-map-range_with_len stop 0 n) in
    let here : get_or (map stop (range_with_len 0 n)) k d ≡ stop k =
    get_or-map-range_with_len stop 0 n k k d less (omega arith) in
    rw here less)
