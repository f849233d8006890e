-- The shares of a row, by what a search found.
use Rattle.std.proofs.Common.{◌≡◌, ◌<◌, ◌∙◌, ℕ, List, [], ◌∷◌, length, map, refl, sym}
use Rattle.std.proofs.Common.{subst, arith}
use Rattle.std.specs.List.{All, AllZip}
use Rattle.std.proofs.lemmas.List.{ext_get_or, get_or-map, length-map}
use Rattle.timetable.specs.declared.trips.StopNo.{StopNo}
use Rattle.rounds.specs.declared.labels.WindowLabels.{WindowLabels}
use Rattle.rounds.specs.Table.{DurationTable}
use Rattle.shares.specs.Opportunities.{access_of}
use Rattle.shares.proofs.CellsExist.{cells_there}
use Rattle.label_cells.specs.declared.share_cells.Question.{Question}
use Rattle.label_cells.specs.declared.share_cells.ShareCells.{ShareCells}
use Rattle.label_cells.specs.ShareCells.{AreShareCells, AreShareCellsOfLabels, IsShareCells}
use Rattle.collector.specs.Row.{CellsData}
use Rattle.workers.specs.declared.study.Study.{Study}
use Rattle.workers.specs.Study.{StudyData, StudyFits, study_of}
use Rattle.workers.specs.Rows.{IsOfShare, IsRowOf}
use Rattle.workers.specs.FoundRows.{AreOfLabels, AreSharesOf, row_cells}
use Rattle.workers.proofs.Shares.{at_all, zip_from}

-- the cells and the access of a share are those of a row
share_in_row : (t : DurationTable) (q : Question) (share : ℕ) (given : ShareCells) →
    All (λ (d : StopNo). d.0 < t.stops) q.destinations.now → IsShareCells t q share given
    → IsOfShare t q.opportunities.now q.limits.now q.destinations.now share (row_cells given)
share_in_row t q share given there is =
    let all = cells_there t share in
    let limits = q.limits.now in
    let sum : ℕ → ℕ = λ limit. access_of all.0 q.opportunities.now limit in
    let count = is.count in
    record {
      all = all.0;
      all_are = all.1;
      cells_are = at_all t q.destinations.now share given.cells.items all.0 there is.cells all.1;
      access_is =
          ext_get_or 0 given.access.items (map sum limits) (is.count ∙ sym (length-map limits sum)) (λ i below.
          let low : i < length limits = omega (arith, below, count) in
          is.access i low all.0 all.1 ∙ sym (get_or-map sum limits i 0 0 low));
    }

zip_map : {A B C : Type 0} (R : A → C → Type 0) (f : B → C) (xs : List A) (ys : List B) →
    AllZip (λ x y. R x (f y)) xs ys → AllZip R xs (map f ys)
zip_map R f [] [] h = tt
zip_map R f [] (y ∷ ys) h = absurd h
zip_map R f (x ∷ xs) [] h = absurd h
zip_map R f (x ∷ xs) (y ∷ ys) h = (h.0, zip_map R f xs ys h.1)

-- so are those of all shares
shares_in_row : (t : DurationTable) (q : Question) (given : List ShareCells) →
    All (λ (d : StopNo). d.0 < t.stops) q.destinations.now → AreShareCells t q given
    → AllZip (IsOfShare t q.opportunities.now q.limits.now q.destinations.now) q.shares.now (map row_cells given)
shares_in_row t q given there are =
    let of : ℕ → CellsData → Type 0 = IsOfShare t q.opportunities.now q.limits.now q.destinations.now in
    zip_map of row_cells q.shares.now given
    (zip_from (λ (share : ℕ) (g : ShareCells). of share (row_cells g)) q.shares.now given (sym are.count)
    (λ k share g of_share at. share_in_row t q share g there (are.each k share g of_share at)))

-- the question that a study asks of labels
abbrev pub question_of : Study → Question
question_of s = record {
  destinations = s.destinations;
  shares = s.shares;
  opportunities = s.opportunities;
  limits = s.withins;
}

-- so labels give what each share gives
pub labels_give : (s : Study) (w : WindowLabels) (given : List ShareCells) → StudyFits (study_of s) →
    length w.numbers.now ≡ length s.opportunities.now → AreShareCellsOfLabels w (question_of s) given
    → AreOfLabels w (study_of s) (map row_cells given)
labels_give s w given fits size are = λ t of.
    let stops : t.stops ≡ length s.opportunities.now = of.stops ∙ size in
    let there = subst (λ (n : ℕ). All (λ (d : StopNo). d.0 < n) s.destinations.now) (sym stops) fits.destinations in
    shares_in_row t (question_of s) given there (are t of)

-- what each share gives makes the row of a scenario and an origin
pub row_is : (s : StudyData) (scenario origin : ℕ) (shares : List CellsData) → AreSharesOf s scenario origin shares
    → IsRowOf s scenario origin (record { study = s.number; scenario = scenario; origin = origin; shares = shares })
row_is s scenario origin shares of = record {
  study_is = refl;
  scenario_is = refl;
  origin_is = refl;
  network = of.network;
  stop = of.stop;
  network_is = of.network_is;
  stop_is = of.stop_is;
  is_row = of.is_row;
}
