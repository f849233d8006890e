-- Rows and matrices are unique.
use Rattle.std.proofs.Common.{◌≡◌, ◌<◌, ◌+◌, ◌*◌, ◌/◌, ◌%◌, ℕ, List, [], ◌∷◌, Option, length, get_or, refl, sym}
use Rattle.std.proofs.Common.{ap, ◌∙◌, subst}
use Rattle.std.specs.List.{slice_get, AllZip}
use Rattle.std.proofs.lemmas.List.{same_lists}
use Rattle.std.proofs.lemmas.Option.{slice_get-get_or, same_Some}
use Rattle.timetable.specs.declared.trips.StopNo.{StopNo}
use Rattle.timetable.specs.Networks.{Net}
use Rattle.rounds.specs.Table.{DurationTable}
use Rattle.rounds.proofs.DurationsUnique.{durations_unique}
use Rattle.shares.proofs.CellsUnique.{cells_unique}
use Rattle.collector.specs.Row.{CellsData, RowData}
use Rattle.collector.proofs.Divide.{scenario_below, origin_below, joined}
use Rattle.workers.specs.Study.{Query, StudyData}
use Rattle.workers.specs.Rows.{at_stops, sums_of, IsOfShare, IsRow, IsRowOf}
use Rattle.workers.specs.Laws.{RowsAreUnique, RowsDependOnTheirNetwork, MatricesAreUnique}

module _ (times : DurationTable) (opportunities limits : List ℕ) (destinations : List StopNo) where
  -- what a share gives is unique
  share_unique : (share : ℕ) (some other : CellsData) → IsOfShare times opportunities limits destinations share some →
      IsOfShare times opportunities limits destinations share other → some ≡ other
  share_unique share some other h g =
      let all = cells_unique times share h.all g.all h.all_are g.all_are in
      let cells = h.cells_are ∙ ap (λ (c : List (Option ℕ)). at_stops destinations c) all ∙ sym g.cells_are in
      let access = h.access_is ∙ ap (λ (c : List (Option ℕ)). sums_of c opportunities limits) all ∙ sym g.access_is in
      λ i. record { cells = cells i; access = access i }

  shares_unique : (shares : List ℕ) (some others : List CellsData) →
      AllZip (IsOfShare times opportunities limits destinations) shares some
      → AllZip (IsOfShare times opportunities limits destinations) shares others → some ≡ others
  shares_unique [] [] [] h g = refl
  shares_unique [] [] (y ∷ ys) h g = absurd g
  shares_unique [] (x ∷ xs) ys h g = absurd h
  shares_unique (share ∷ shares) [] ys h g = absurd h
  shares_unique (share ∷ shares) (x ∷ xs) [] h g = absurd g
  shares_unique (share ∷ shares) (x ∷ xs) (y ∷ ys) h g =
      let first = share_unique share x y h.0 g.0 in
      let rest = shares_unique shares xs ys h.1 g.1 in
      λ i. first i ∷ rest i

-- what a network gives is unique
pub row_unique : RowsAreUnique
row_unique n origin opportunities q some other h g =
    let times : g.times ≡ h.times = durations_unique n origin q.window q.rides g.times h.times g.durations h.durations
    in
    shares_unique h.times opportunities q.limits q.destinations q.shares some other h.shares_are
    (subst (λ (t : DurationTable). AllZip (IsOfShare t opportunities q.limits q.destinations) q.shares other) times
    g.shares_are)

-- of equal networks, equal stops and the same question too
pub same_given : (s t : StudyData) (scenario of_other origin from_other : ℕ) (row other : RowData) →
    s.opportunities ≡ t.opportunities → s.query ≡ t.query
    → slice_get s.networks scenario ≡ slice_get t.networks of_other →
    slice_get s.origins origin ≡ slice_get t.origins from_other
    → IsRowOf s scenario origin row → IsRowOf t of_other from_other other → row.shares ≡ other.shares
same_given s t scenario of_other origin from_other row other opportunities query networks origins h g =
    let network : h.network ≡ g.network = same_Some h.network g.network (sym h.network_is ∙ networks ∙ g.network_is) in
    let stop : h.stop ≡ g.stop = same_Some h.stop g.stop (sym h.stop_is ∙ origins ∙ g.stop_is) in
    let of_network : IsRow g.network h.stop.0 s.opportunities s.query row.shares =
    subst (λ (n : Net). IsRow n h.stop.0 s.opportunities s.query row.shares) network h.is_row in
    let of_stop : IsRow g.network g.stop.0 s.opportunities s.query row.shares =
    subst (λ (p : StopNo). IsRow g.network p.0 s.opportunities s.query row.shares) stop of_network in
    let of_opportunities : IsRow g.network g.stop.0 t.opportunities s.query row.shares =
    subst (λ (o : List ℕ). IsRow g.network g.stop.0 o s.query row.shares) opportunities of_stop in
    let of_query : IsRow g.network g.stop.0 t.opportunities t.query row.shares =
    subst (λ (q : Query). IsRow g.network g.stop.0 t.opportunities q row.shares) query of_opportunities in
    row_unique g.network g.stop.0 t.opportunities t.query row.shares other.shares of_query g.is_row

pub same_row : RowsDependOnTheirNetwork
same_row s t scenario of_other origin row other same networks h g =
    same_given s t scenario of_other origin origin row other same.opportunities same.query networks
    (ap (λ (o : List StopNo). slice_get o origin) same.origins) h g

-- a place of a study has one row
place_unique : (s : StudyData) (scenario origin : ℕ) (row other : RowData) → IsRowOf s scenario origin row →
    IsRowOf s scenario origin other → row ≡ other
place_unique s scenario origin row other h g =
    let shares = same_row s s scenario scenario origin row other (record {
      origins = refl;
      opportunities = refl;
      query = refl;
    }) refl h g in
    let study = h.study_is ∙ sym g.study_is in
    let scenarios = h.scenario_is ∙ sym g.scenario_is in
    let origins = h.origin_is ∙ sym g.origin_is in
    λ i. record { study = study i; scenario = scenarios i; origin = origins i; shares = shares i }

pub matrix_unique : MatricesAreUnique
matrix_unique s m w h g =
    let scenarios : m.scenarios ≡ w.scenarios = h.scenarios ∙ sym g.scenarios in
    let origins : m.origins ≡ w.origins = h.origins ∙ sym g.origins in
    let width : m.width ≡ w.width = h.width ∙ sym g.width in
    let shares : m.shares ≡ w.shares = h.shares ∙ sym g.shares in
    let limits : m.limits ≡ w.limits = h.limits ∙ sym g.limits in
    let count : length m.rows ≡ length w.rows = h.count ∙ (λ i. scenarios i * origins i) ∙ sym g.count in
    let rows : m.rows ≡ w.rows = same_lists m.rows w.rows count (λ k d below.
    let low : k < m.scenarios * m.origins = subst (λ n. k < n) h.count below in
    let scenario : ℕ = k / m.origins in
    let origin : ℕ = k % m.origins in
    let place : scenario * m.origins + origin ≡ k = joined m.origins k in
    let in_scenarios = scenario_below m.scenarios m.origins k low in
    let in_origins = origin_below m.scenarios m.origins k low in
    let of_m = h.rows scenario origin (get_or m.rows k d) in_scenarios in_origins
    (ap (λ j. slice_get m.rows j) place ∙ slice_get-get_or m.rows k d below) in
    let of_w = g.rows scenario origin (get_or w.rows k d) (subst (λ n. scenario < n) scenarios in_scenarios)
    (subst (λ n. origin < n) origins in_origins)
    (ap (λ n. slice_get w.rows (scenario * n + origin)) (sym origins) ∙ ap (λ j. slice_get w.rows j) place
    ∙ slice_get-get_or w.rows k d (subst (λ n. k < n) count below)) in
    place_unique s scenario origin (get_or m.rows k d) (get_or w.rows k d) of_m of_w) in
    λ i. record {
      scenarios = scenarios i;
      origins = origins i;
      width = width i;
      shares = shares i;
      limits = limits i;
      rows = rows i;
    }
