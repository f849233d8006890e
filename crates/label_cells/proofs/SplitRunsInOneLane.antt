-- The rows of one lane.
use Rattle.std.proofs.Common.{◌≡◌, ◌≤◌, ◌<◌, ◌+◌, ℕ, suc, Bool, cond, ltb, List, [], length, slice_index}
use Rattle.std.proofs.Common.{slice_index_or}
use Rattle.std.proofs.Common.{ap, ◌∙◌, arith}
use Rattle.label_cells.specs.Runs.{covered}
use Rattle.label_cells.specs.declared.split_runs.SplitRun.{SplitRun}
use Rattle.label_cells.specs.SplitRuns.{AreCovering, AreSmall, cover_at, fewer_at, whole_at, rest_at, reached_at}
use Rattle.label_cells.specs.Sums.{sum_to}
use Rattle.label_cells.proofs.SumsOfPlaces.{sum_part, sum_same}

-- the minutes of the rows up to one
pub few_spans : (rows : List SplitRun) (l i : ℕ) → AreSmall rows → l < 16 → i < length rows →
    sum_to (reached_at rows l) i + reached_at rows l i ≤ 1440
few_spans rows l i small h less =
    let more = sum_part (reached_at rows l) (suc i) (length rows) (omega (arith, less)) in
    let all = small.spans l h in
    omega (arith, more, all)

pub spans_there : (rows : List SplitRun) (l i : ℕ) → AreSmall rows → l < 16 → i < length rows → reached_at rows l i ≤
    1440
spans_there rows l i small h less = let few = few_spans rows l i small h less in omega (arith, few)

-- the runs that have fewer seconds cover the minute
pub fewer_covers : (rows : List SplitRun) (at : List ℕ) (covering : List (List ℕ)) (l seconds : ℕ) → l < 16 → seconds
    ≤ 64 →
    AreCovering rows at covering → fewer_at covering l seconds ≡ cover_at rows l (slice_index at l) seconds
fewer_covers rows at covering l seconds h few are =
    ap (λ (n : ℕ). sum_to (λ i. cond (ltb (slice_index (slice_index_or covering i []) l) seconds) 1 0) n) are.size
    ∙ sum_same (λ i. cond (ltb (slice_index (slice_index_or covering i []) l) seconds) 1 0)
    (λ i. covered (slice_index at l) seconds (whole_at rows l i) (rest_at rows l i) (reached_at rows l i)) (length rows)
    (λ i less. ap (λ (b : Bool). cond b 1 0) (are.each i l seconds less h few))
