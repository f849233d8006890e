-- Places that all have their rows make the matrix.
use Rattle.std.proofs.Common.{◌≡◌, ◌<◌, ◌+◌, ◌*◌, ◌/◌, ◌%◌, ℕ, List, Option, Some, None, length, get_or, sym, ap, ◌∙◌}
use Rattle.std.proofs.Common.{subst}
use Rattle.std.specs.List.{slice_get}
use Rattle.std.proofs.lemmas.Option.{slice_get-get_or}
use Rattle.std.proofs.lemmas.Nat.{same_from_place}
use Rattle.collector.specs.Row.{RowData}
use Rattle.collector.specs.Places.{PlacesData, MatrixData, place_of}
use Rattle.collector.specs.Offers.{IsFinished, IsFirstEmpty}
use Rattle.collector.proofs.Offered.{in_range}
use Rattle.collector.proofs.Placed.{map_length, map_at}
use Rattle.collector.proofs.Divide.{origin_below, joined}
use Rattle.workers.specs.Study.{StudyData, StudyFits}
use Rattle.workers.specs.Rows.{IsRowOf}
use Rattle.workers.specs.Matrices.{IsMatrix, HasShape}
use Rattle.workers.specs.Jobs.{jobs_of, IsRowOfJob, AreFilled}
use Rattle.workers.proofs.WholeRows.{cells_of}

-- no place is empty
pub none_empty : (s : StudyData) (places : PlacesData) (scenario origin : ℕ) → AreFilled s places →
    IsFirstEmpty places scenario origin → ⊥
none_empty s places scenario origin full first =
    let k : ℕ = place_of places scenario origin in
    let below : k < jobs_of s = subst (λ n. k
    < n) (λ i. full.places_are.scenarios i * full.places_are.origins i)
    (in_range scenario origin places.scenarios places.origins first.scenario_in first.origin_in) in
    let row = full.filled k below in
    let clash : Some row.0 ≡ None = sym row.1 ∙ first.none in
    cc

-- the row of a place of the matrix is that of its job
row_of_place : (s : StudyData) (places : PlacesData) (m : MatrixData) (job : ℕ) (row : RowData) → AreFilled s places →
    IsFinished places m → job < jobs_of s → slice_get m.rows job ≡ Some row
    → IsRowOfJob s job row
row_of_place s places m job row full done below at =
    let filled = full.filled job below in
    let same : Some filled.0 ≡ Some row =
    sym (map_at m.rows job filled.0 (sym (ap (λ (l : List (Option RowData)). get_or l job None) done.rows) ∙ filled.1))
    ∙ at in
    let row_is : filled.0 ≡ row = cc in
    subst (λ (r : RowData). IsRowOfJob s job r) row_is filled.2

count_of : (s : StudyData) (places : PlacesData) (m : MatrixData) → AreFilled s places → IsFinished places m →
    length m.rows ≡ jobs_of s
count_of s places m full done = sym (map_length m.rows) ∙ sym (ap length done.rows) ∙ full.places_are.count

pub matrix_of : (s : StudyData) (places : PlacesData) (m : MatrixData) → AreFilled s places → IsFinished places m →
    IsMatrix s m
matrix_of s places m full done =
    let scenarios : m.scenarios ≡ length s.networks = done.scenarios ∙ full.places_are.scenarios in
    let origins : m.origins ≡ length s.origins = done.origins ∙ full.places_are.origins in
    record {
      scenarios = scenarios;
      origins = origins;
      width = done.width ∙ full.places_are.width;
      shares = done.shares ∙ full.places_are.shares;
      limits = done.limits ∙ full.places_are.limits;
      count = count_of s places m full done ∙ sym (λ i. scenarios i * origins i);
      rows = λ scenario origin row in_scenario in_origin at.
          let low : scenario < length s.networks = subst (λ n. scenario < n) scenarios in_scenario in
          let right : origin < length s.origins = subst (λ n. origin < n) origins in_origin in
          let k : ℕ = scenario * length s.origins + origin in
          let below : k < jobs_of s = in_range scenario origin (length s.networks) (length s.origins) low right in
          let here : slice_get m.rows k ≡ Some row =
          ap (λ n. slice_get m.rows (scenario * n + origin)) (sym origins) ∙ at in
          let is = row_of_place s places m k row full done below here in
          let same = same_from_place (k / length s.origins) (k % length s.origins) scenario origin (length s.origins)
          (origin_below (length s.networks) (length s.origins) k below) right (joined (length s.origins) k) in
          subst (λ n. IsRowOf s scenario n row) same.1 (subst (λ n. IsRowOf s n (k % length s.origins) row) same.0 is);
    }

pub shape_of : (s : StudyData) (places : PlacesData) (m : MatrixData) → StudyFits s → AreFilled s places →
    IsFinished places m → HasShape s m
shape_of s places m fits full done =
    let matrix = matrix_of s places m full done in
    record {
      scenarios = matrix.scenarios;
      origins = matrix.origins;
      width = matrix.width;
      shares = matrix.shares;
      limits = matrix.limits;
      count = matrix.count;
      rows = λ k row below.
          let at = slice_get-get_or m.rows k row below in
          let is = row_of_place s places m k (get_or m.rows k row) full done
          (subst (λ n. k < n) (count_of s places m full done) below) at in
          let has = cells_of s _ _ (get_or m.rows k row) fits is in
          record {
            shares_are = has.shares_are ∙ sym matrix.shares;
            cells = λ j d low. has.cells j d low ∙ sym matrix.width;
            access = λ j d low. has.access j d low ∙ sym matrix.limits;
          };
    }
