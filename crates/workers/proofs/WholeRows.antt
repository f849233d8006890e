-- Each row of a study that fits has a cell per destination and a sum per limit for each share.
use Rattle.std.proofs.Common.{◌≡◌, ◌<◌, ℕ, true, None, length, get_or, sym, ap, ◌∙◌, subst}
use Rattle.std.proofs.lemmas.List.{length-map}
use Rattle.std.proofs.lemmas.List.Sums.{list_all-from_AllPass}
use Rattle.std.proofs.lemmas.Bool.{and_from, eq-eqb}
use Rattle.timetable.specs.declared.trips.StopNo.{StopNo}
use Rattle.shares.specs.Opportunities.{access_of}
use Rattle.collector.specs.Row.{CellsData, RowData}
use Rattle.collector.specs.Places.{PlacesData}
use Rattle.collector.specs.Offers.{is_whole, has_all_cells}
use Rattle.workers.specs.Study.{StudyData, StudyFits}
use Rattle.workers.specs.Rows.{IsOfShare, IsRowOf}
use Rattle.workers.specs.Matrices.{HasAllCells}
use Rattle.workers.specs.Jobs.{ArePlaces}
use Rattle.workers.proofs.Shares.{zip_length, zip_at}

-- a row has as many cells as there are destinations, for each share
pub cells_of : (s : StudyData) (scenario origin : ℕ) (row : RowData) → StudyFits s → IsRowOf s scenario origin row
    → HasAllCells (length s.query.shares) (length s.query.destinations) (length s.query.limits) row
cells_of s scenario origin row fits is =
    let given = IsOfShare is.is_row.times s.opportunities s.query.limits s.query.destinations in
    let many : length s.query.shares ≡ length row.shares =
    zip_length given s.query.shares row.shares is.is_row.shares_are in
    let of_share : (k : ℕ) (d : CellsData) → k < length row.shares →
    given (get_or s.query.shares k 0) (get_or row.shares k d) =
    λ k d below. zip_at given s.query.shares row.shares k 0 d is.is_row.shares_are (subst (λ n. k < n) (sym many) below)
    in
    record {
      shares_are = sym many;
      cells = λ k d below.
          let of = of_share k d below in
          ap length of.cells_are ∙ length-map s.query.destinations (λ (stop : StopNo). get_or of.all stop.0 None);
      access = λ k d below.
          let of = of_share k d below in
          ap length of.access_is ∙ length-map s.query.limits (λ limit. access_of of.all s.opportunities limit);
    }

-- so such a row has all the cells that the places of the study ask for
pub is_whole_row : (s : StudyData) (places : PlacesData) (scenario origin : ℕ) (row : RowData) → StudyFits s →
    ArePlaces s places → IsRowOf s scenario origin row
    → has_all_cells places row ≡ true
is_whole_row s places scenario origin row fits are is =
    let has = cells_of s scenario origin row fits is in
    and_from _ _ (eq-eqb _ _ (has.shares_are ∙ sym are.shares))
    (list_all-from_AllPass (is_whole places.width places.limits) row.shares
    (λ k d below. and_from _ _ (eq-eqb _ _ (has.cells k d below ∙ sym are.width))
    (eq-eqb _ _ (has.access k d below ∙ sym are.limits))))
