-- The cells of all stops, named one after the other, are a cell for each stop.
use Rattle.std.proofs.Common.{◌≡◌, ◌<◌, ◌∙◌, ℕ, List, Option, Some, Vec, Global, length, get_or, map, ap, arith}
use Rattle.std.specs.List.{All, range_with_len, slice_get}
use Rattle.std.proofs.lemmas.List.FromFn.{get_or-map-range_with_len, length-map-range_with_len}
use Rattle.std.proofs.lemmas.Option.{slice_get-get_or}
use Rattle.timetable.specs.declared.trips.StopNo.{StopNo}
use Rattle.rounds.specs.Table.{DurationTable}
use Rattle.shares.specs.Percentiles.{AreCells, AreCellsAt, AreCellsOf, AreCellsOfAt}

abbrev pub stop_no : ℕ → StopNo
stop_no n = record { 0 = n }

module _ (t : DurationTable) (stops : List StopNo) (all : stops ≡ map stop_no (range_with_len 0 t.stops)) where
  how_many : length stops ≡ t.stops
  how_many = ap length all ∙ length-map-range_with_len stop_no 0 t.stops

  pub all_within : All (λ (stop : StopNo). stop.0 < t.stops) stops
  all_within = rw all (λ k d lt.
      let less : k < t.stops = omega (arith, lt, length-map-range_with_len stop_no 0 t.stops) in
      let here : get_or (map stop_no (range_with_len 0 t.stops)) k d ≡ stop_no k =
      get_or-map-range_with_len stop_no 0 t.stops k k d less (omega arith) in
      rw here less)

  named : (p : ℕ) → p < t.stops → slice_get stops p ≡ Some (stop_no p)
  named p below =
      let within : p < length stops = omega (arith, below, how_many) in
      slice_get-get_or stops p (stop_no 0) within
      ∙ ap Some (ap (λ (xs : List StopNo). get_or xs p (stop_no 0)) all
      ∙ get_or-map-range_with_len stop_no 0 t.stops p p (stop_no 0) below (omega arith))

  pub all_cells : (share : ℕ) (cells : List (Option ℕ)) → AreCellsAt t stops share cells → AreCells t share cells
  all_cells share cells are = record {
    stops = are.count ∙ how_many;
    each = λ p below. are.each p (stop_no p) (named p below);
  }

  pub all_lists : (shares : List ℕ) (lists : List (Vec (Option ℕ) Global)) → AreCellsOfAt t stops shares lists →
      AreCellsOf t shares lists
  all_lists shares lists are = record {
    count = are.count;
    each = λ k share cells s l. all_cells share cells.items (are.each k share cells s l);
  }
