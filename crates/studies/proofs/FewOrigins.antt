-- There are no more origins, and no more destinations, than stops: a file names no stop twice.
use Rattle.std.proofs.Common.{◌≡◌, ◌≤◌, ℕ, List, [], ◌∷◌, ◌++◌, All, Option, Some, None, length, refl, arith}
use Rattle.std.proofs.lemmas.Cmp.{nat_list_eq_equiv}
use Rattle.std.proofs.lemmas.List.{length-map, map-append}
use Rattle.std.proofs.lemmas.List.Elements.{All-contains, All-nil, All-push}
use Rattle.std.proofs.lemmas.List.FromFn.{length-map-range_with_len}
use Rattle.std.proofs.lemmas.Map.Keys.{IsDistinct-push}
use Rattle.std.proofs.lemmas.Map.Made.{length-le_from_is_member}
use Rattle.std.proofs.lemmas.Map.Views.{Contains-from_any, list_any-from_Contains}
use Rattle.std.proofs.lemmas.Option.{get_or_from_slice_get, slice_get_within}
use Rattle.std.specs.List.{Contains, IsDistinct}
use Rattle.std.specs.Str.{bytes_eq}
use Rattle.table_records.specs.Table.{records_of}
use Rattle.table_records.specs.declared.fault.FileName.{FileName}
use Rattle.table_records.specs.Identifiers.{number_in}
use Rattle.table_records.proofs.DistinctTexts.{found_same}
use Rattle.timetable.specs.declared.trips.StopNo.{StopNo}
use Rattle.gtfs_tables.specs.Feed.{FeedData}
use Rattle.gtfs_tables.specs.NamedStops.{NamedRow, named_rows, named_stop, row_of, stops_named}
use Rattle.gtfs_tables.specs.Origins.{checks, origins_of, required, stops_faults}
use Rattle.gtfs_tables.proofs.MarkFacts.{found_stop}
use Rattle.gtfs_tables.proofs.RowsWithoutFaults.{kept_rows}

-- the rows name stops, none of them twice
record NameOnce (stops : List (List ℕ)) (rows : List NamedRow) : Type 0 where
  distinct : IsDistinct bytes_eq (stops_named rows)
  known : All (Contains stops) (stops_named rows)

nothing_distinct : IsDistinct bytes_eq []
unfolding IsDistinct
nothing_distinct = tt

one_more : (stops : List (List ℕ)) (before : List NamedRow) (r : NamedRow) → NameOnce stops before →
    checks stops before r ≡ [] → NameOnce stops (before ++ r ∷ [])
one_more stops before r once none =
    let (here, new) = found_stop stops (stops_named before) r.stop (number_in stops r.stop) none refl in
    let there : Contains stops r.stop = (
      number_in stops r.stop,
      slice_get_within stops (number_in stops r.stop) r.stop here,
      get_or_from_slice_get stops (number_in stops r.stop) r.stop r.stop here,
    ) in
    record {
      distinct = rw (map-append (λ (x : NamedRow). x.stop) before (r ∷ []))
          (IsDistinct-push nat_list_eq_equiv (stops_named before) r.stop once.distinct new);
      known = rw (map-append (λ (x : NamedRow). x.stop) before (r ∷ []))
          (All-push (Contains stops) (stops_named before) r.stop once.known there);
    }

few_rows : (stops : List (List ℕ)) (rows : List NamedRow) → NameOnce stops rows →
    length (stops_named rows) ≤ length stops
few_rows stops rows once =
    length-le_from_is_member nat_list_eq_equiv (stops_named rows) stops once.distinct
    (λ q named. list_any-from_Contains nat_list_eq_equiv q stops
    (All-contains (Contains stops) (stops_named rows) q once.known
    (Contains-from_any found_same q (stops_named rows) named)))

pub few_origins : (name : FileName) (bytes : Option (List ℕ)) (feed : FeedData) (origins : List StopNo) →
    stops_faults name bytes feed ≡ [] → origins ≡ origins_of bytes feed → length origins ≤ length feed.stops
few_origins name None feed origins none are =
    let stop : ℕ → StopNo = λ m. record { 0 = m } in
    rw are (omega (arith, length-map-range_with_len stop 0 (length feed.stops)))
few_origins name (Some bytes) feed origins none are =
    let once : NameOnce feed.stops (named_rows bytes) =
    kept_rows name (checks feed.stops) (NameOnce feed.stops) (one_more feed.stops) required row_of
    (records_of bytes)
    (record { distinct = nothing_distinct; known = All-nil (Contains feed.stops) }) none in
    let few : length (stops_named (named_rows bytes)) ≤ length feed.stops =
    few_rows feed.stops (named_rows bytes) once in
    rw are (omega (
      arith,
      few,
      length-map (named_rows bytes) (named_stop feed.stops),
      length-map (named_rows bytes) (λ (r : NamedRow). r.stop),
    ))
