-- A row's cells are columns of the row that has all stops, and so a matrix has columns of the one that has them.
use Rattle.std.proofs.Common.{◌≡◌, ◌<◌, ◌+◌, ◌*◌, ◌/◌, ◌%◌, ℕ, List, [], ◌∷◌, Option, None, length, get_or, map}
use Rattle.std.proofs.Common.{refl, sym, ap, ◌∙◌, subst, arith}
use Rattle.std.specs.List.{All, AllZip, range_with_len, slice_get}
use Rattle.std.proofs.lemmas.List.{ext_get_or, get_or-map, length-map, same_lists}
use Rattle.std.proofs.lemmas.Option.{get_or_from_slice_get, slice_get-get_or, slice_get_within, same_Some}
use Rattle.std.proofs.lemmas.List.FromFn.{get_or-range_with_len, length-map-range_with_len, length-range_with_len}
use Rattle.timetable.specs.declared.trips.StopNo.{StopNo}
use Rattle.timetable.specs.Networks.{Net}
use Rattle.rounds.specs.Table.{DurationTable}
use Rattle.rounds.proofs.DurationsUnique.{durations_unique}
use Rattle.shares.specs.Opportunities.{access_of}
use Rattle.shares.proofs.CellsUnique.{cells_unique}
use Rattle.collector.specs.Row.{CellsData, RowData}
use Rattle.collector.proofs.Divide.{scenario_below, origin_below, joined}
use Rattle.workers.specs.Study.{Query, StudyData}
use Rattle.workers.specs.Rows.{at_stops, IsOfShare, IsRow, IsRowOf}
use Rattle.workers.specs.Laws.{all_stops, row_at, study_to, with_columns, MatricesHaveTheirColumns}
use Rattle.workers.specs.Laws.{RowsHaveTheirColumns}

abbrev stop_no : ℕ → StopNo
stop_no m = record { 0 = m }

-- the cells of all stops, in order, are all cells
at_all_stops : (n : Net) (xs : List (Option ℕ)) → length xs ≡ n.stops → at_stops (all_stops n) xs ≡ xs
at_all_stops n xs long =
    let count : length (all_stops n) ≡ n.stops = length-map-range_with_len stop_no 0 n.stops in
    let mapped : length (at_stops (all_stops n) xs) ≡ length (all_stops n) =
    length-map (all_stops n) (λ (s : StopNo). get_or xs s.0 None) in
    ext_get_or None (at_stops (all_stops n) xs) xs (mapped ∙ count ∙ sym long) (λ k below.
    let low : k < n.stops = omega (arith, below, mapped, count) in
    let same : 0 + k ≡ k = omega arith in
    let here : get_or (all_stops n) k (stop_no 0) ≡ stop_no k =
    get_or-map stop_no (range_with_len 0 n.stops) k 0 (stop_no 0) (let size = length-range_with_len 0 n.stops in
    omega (arith, low, size))
    ∙ ap stop_no (get_or-range_with_len 0 n.stops k 0 low ∙ same) in
    get_or-map (λ (s : StopNo). get_or xs s.0 None) (all_stops n) k (stop_no 0) None (omega (arith, low, count))
    ∙ ap (λ (s : StopNo). get_or xs s.0 None) here)

module _ (n : Net) (times : DurationTable) (stops : times.stops
    ≡ n.stops) (opportunities limits : List ℕ) (destinations : List StopNo) where
  of_share : (share : ℕ) (whole some : CellsData) → IsOfShare times opportunities limits (all_stops n) share whole
      → IsOfShare times opportunities limits destinations share some → some ≡ with_columns destinations whole
  of_share share whole some h g =
      let all : g.all ≡ h.all = cells_unique times share g.all h.all g.all_are h.all_are in
      let there : whole.cells ≡ h.all = h.cells_are ∙ at_all_stops n h.all (h.all_are.stops ∙ stops) in
      let cells : some.cells ≡ at_stops destinations whole.cells =
      g.cells_are ∙ ap (λ (c : List (Option ℕ)). at_stops destinations c) (all ∙ sym there) in
      let access : some.access ≡ whole.access =
      g.access_is ∙ ap (λ (c : List (Option ℕ)). map (λ limit. access_of c opportunities limit) limits) all
      ∙ sym h.access_is in
      λ i. record { cells = cells i; access = access i }

  of_shares : (shares : List ℕ) (whole some : List CellsData) →
      AllZip (IsOfShare times opportunities limits (all_stops n)) shares whole
      → AllZip (IsOfShare times opportunities limits destinations) shares some →
      some ≡ map (with_columns destinations) whole
  of_shares [] [] [] h g = refl
  of_shares [] [] (y ∷ ys) h g = absurd g
  of_shares [] (x ∷ xs) ys h g = absurd h
  of_shares (share ∷ shares) [] ys h g = absurd h
  of_shares (share ∷ shares) (x ∷ xs) [] h g = absurd g
  of_shares (share ∷ shares) (x ∷ xs) (y ∷ ys) h g =
      let first = of_share share x y h.0 g.0 in
      let rest = of_shares shares xs ys h.1 g.1 in
      λ i. first i ∷ rest i

pub rows_columns : RowsHaveTheirColumns
rows_columns n origin opportunities q destinations whole some all h g =
    let times : g.times ≡ h.times = durations_unique n origin q.window q.rides g.times h.times g.durations h.durations
    in
    of_shares n h.times h.durations.stops opportunities q.limits destinations q.shares whole some
    (subst (λ (d : List StopNo). AllZip (IsOfShare h.times opportunities q.limits d) q.shares whole) all h.shares_are)
    (subst (λ (t : DurationTable). AllZip (IsOfShare t opportunities q.limits destinations) q.shares some) times
    g.shares_are)

abbrev to : List StopNo → Query → Query
to destinations q = record q { destinations = destinations }

module _ (s : StudyData) (destinations : List StopNo)
    (all : All (λ (n : Net). s.query.destinations ≡ all_stops n) s.networks) where
  -- a row of the study is the row of all stops, with the other columns left out
  row_columns : (scenario origin : ℕ) (row other : RowData) → IsRowOf s scenario origin row →
      IsRowOf (study_to destinations s) scenario origin other → other ≡ row_at destinations row
  row_columns scenario origin row other h g =
      let network : g.network ≡ h.network = same_Some g.network h.network (sym g.network_is ∙ h.network_is) in
      let stop : g.stop ≡ h.stop = same_Some g.stop h.stop (sym g.stop_is ∙ h.stop_is) in
      let of_network : IsRow h.network g.stop.0 s.opportunities (to destinations s.query) other.shares =
      subst (λ (n : Net). IsRow n g.stop.0 s.opportunities (to destinations s.query) other.shares) network g.is_row in
      let of_stop : IsRow h.network h.stop.0 s.opportunities (to destinations s.query) other.shares =
      subst (λ (p : StopNo). IsRow h.network p.0 s.opportunities (to destinations s.query) other.shares) stop of_network
      in
      let whole : s.query.destinations ≡ all_stops h.network =
      subst (λ (n : Net). s.query.destinations
      ≡ all_stops n) (get_or_from_slice_get s.networks scenario h.network h.network h.network_is)
      (all scenario h.network (slice_get_within s.networks scenario h.network h.network_is)) in
      let shares : other.shares ≡ map (with_columns destinations) row.shares =
      rows_columns h.network h.stop.0 s.opportunities s.query destinations row.shares other.shares whole h.is_row
      of_stop in
      let study = g.study_is ∙ sym h.study_is in
      let scenarios = g.scenario_is ∙ sym h.scenario_is in
      let origins = g.origin_is ∙ sym h.origin_is in
      λ i. record { study = study i; scenario = scenarios i; origin = origins i; shares = shares i }

pub matrices_columns : MatricesHaveTheirColumns
matrices_columns s destinations m w all h g =
    let scenarios : w.scenarios ≡ m.scenarios = g.scenarios ∙ sym h.scenarios in
    let origins : w.origins ≡ m.origins = g.origins ∙ sym h.origins in
    let width : w.width ≡ length destinations = g.width in
    let shares : w.shares ≡ m.shares = g.shares ∙ sym h.shares in
    let limits : w.limits ≡ m.limits = g.limits ∙ sym h.limits in
    let count : length w.rows ≡ length m.rows = g.count ∙ (λ i. scenarios i * origins i) ∙ sym h.count in
    let mapped : length (map (row_at destinations) m.rows) ≡ length m.rows = length-map m.rows (row_at destinations) in
    let rows : w.rows ≡ map (row_at destinations) m.rows =
    same_lists w.rows (map (row_at destinations) m.rows) (count ∙ sym mapped) (λ k d below.
    let low : k < w.scenarios * w.origins = subst (λ n. k < n) g.count below in
    let scenario : ℕ = k / w.origins in
    let origin : ℕ = k % w.origins in
    let place : scenario * w.origins + origin ≡ k = joined w.origins k in
    let in_scenarios = scenario_below w.scenarios w.origins k low in
    let in_origins = origin_below w.scenarios w.origins k low in
    let of_w = g.rows scenario origin (get_or w.rows k d) in_scenarios in_origins
    (ap (λ j. slice_get w.rows j) place ∙ slice_get-get_or w.rows k d below) in
    let low_m : k < length m.rows = subst (λ n. k < n) count below in
    let of_m = h.rows scenario origin (get_or m.rows k d) (subst (λ n. scenario < n) scenarios in_scenarios)
    (subst (λ n. origin < n) origins in_origins)
    (ap (λ n. slice_get m.rows (scenario * n + origin)) (sym origins) ∙ ap (λ j. slice_get m.rows j) place
    ∙ slice_get-get_or m.rows k d low_m) in
    row_columns s destinations all scenario origin (get_or m.rows k d) (get_or w.rows k d) of_m of_w
    ∙ sym (get_or-map (row_at destinations) m.rows k d d low_m)) in
    λ i. record {
      scenarios = scenarios i;
      origins = origins i;
      width = width i;
      shares = shares i;
      limits = limits i;
      rows = rows i;
    }
