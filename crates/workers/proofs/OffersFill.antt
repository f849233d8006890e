-- Offering the rows of kept jobs fills their places.
use Rattle.std.proofs.Common.{◌≡◌, ◌<◌, ◌+◌, ◌*◌, ◌/◌, ◌%◌, ◌==◌, ◌&&◌, ℕ, zero, suc, Bool, true, false, cond, List, []}
use Rattle.std.proofs.Common.{◌∷◌, ◌++◌, map, Option, Some, None, is_some, length, get_or, nat_lt, refl, sym, ap, ◌∙◌}
use Rattle.std.proofs.Common.{subst, arith, if◌then◌else◌}
use Rattle.std.proofs.Math.ListN.{set}
use Rattle.std.specs.List.{find}
use Rattle.std.specs.Option.{option_or}
use Rattle.std.proofs.Math.Decide.{dec_lt}
use Rattle.std.proofs.lemmas.List.{length-replicate}
use Rattle.std.proofs.lemmas.List.Elements.{All-head, All-tail}
use Rattle.std.proofs.lemmas.Option.{slice_get_within}
use Rattle.std.proofs.lemmas.Nat.{same_from_place}
use Rattle.std.proofs.lemmas.Bool.{lt-ltb, eq-eqb, eqb-true}
use Rattle.work_book.specs.Laws.{kept_in}
use Rattle.work_book.specs.Moves.{IsOnce}
use Rattle.work_book.specs.Views.{seat_of}
use Rattle.work_book.specs.declared.rule.View.{View}
use Rattle.collector.specs.Row.{RowData}
use Rattle.collector.specs.Places.{PlacesData, MatrixData, place_of, row_at}
use Rattle.collector.specs.Offers.{belongs, has_all_cells, is_open, after_offer, IsFinished, IsFirstEmpty, offered}
use Rattle.collector.specs.Laws.{is_for}
use Rattle.collector.proofs.Divide.{origin_below, joined}
use Rattle.collector.proofs.Offered.{in_range, offered_at, offered_sizes, offered_length}
use Rattle.collector.proofs.Placed.{none_at}
use Rattle.workers.specs.Study.{StudyData, StudyFits}
use Rattle.workers.specs.Rows.{IsRowOf}
use Rattle.workers.specs.Jobs.{jobs_of, IsRowOfJob, ArePlaces, AreFilled, places_without_rows}
use Rattle.workers.specs.Held.{count_in, HaveSameJobs, job_of_row, jobs_of_rows, AreRowsOf, HoldsRows}
use Rattle.workers.specs.Filling.{IsFilledAs, AreFilledAs}
use Rattle.workers.specs.Outcomes.{KeptEachJob, IsFirstUnkept}
use Rattle.workers.proofs.WholeRows.{is_whole_row}
use Rattle.workers.proofs.JobCounts.{count_append, count_cons, same}

and_true : (a b c : Bool) → a ≡ true → b ≡ c → (a && b) ≡ c
and_true true b c h k = k
and_true false b c h k = cc

-- a study's row is no stranger to its places, so it is for the place of its job
for_its_job : (s : StudyData) (places : PlacesData) (row : RowData) (job : ℕ) → StudyFits s → ArePlaces s places →
    IsRowOf s row.scenario row.origin row
    → is_for places job row ≡ (job_of_row s row == job)
for_its_job s places row job fits are is =
    let in_scenario : nat_lt row.scenario places.scenarios ≡ true =
    lt-ltb _ _ (subst (λ n. row.scenario < n) (sym are.scenarios)
    (slice_get_within s.networks row.scenario is.network is.network_is)) in
    let in_origin : nat_lt row.origin places.origins ≡ true =
    lt-ltb _ _ (subst (λ n. row.origin < n) (sym are.origins)
    (slice_get_within s.origins row.origin is.stop is.stop_is)) in
    let wide : has_all_cells places row ≡ true = is_whole_row s places _ _ row fits are is in
    let of_study : (row.study == places.study) ≡ true = eq-eqb _ _ (is.study_is ∙ sym are.study) in
    let there : belongs places row ≡ true = and_true _ _ true of_study
    (and_true _ _ true in_scenario (and_true _ _ true in_origin wide)) in
    and_true (belongs places row) (place_of places row.scenario row.origin == job) (job_of_row s row == job) there
    (ap (λ n. (row.scenario * n + row.origin) == job) are.origins)

-- a row of the study is the row of its job
row_of_its_job : (s : StudyData) (row : RowData) (job : ℕ) → job < jobs_of s → IsRowOf s row.scenario row.origin row →
    job_of_row s row ≡ job → IsRowOfJob s job row
row_of_its_job s row job low is e =
    let n = length s.origins in
    let right = slice_get_within s.origins row.origin is.stop is.stop_is in
    let at = same_from_place row.scenario row.origin (job / n) (job % n) n right
    (origin_below (length s.networks) n job low) (e ∙ sym (joined n job)) in
    subst (λ k. IsRowOf s (job / n) k row) at.1 (subst (λ k. IsRowOf s k row.origin row) at.0 is)

module _ (s : StudyData) (job : ℕ) where
  -- one more job that isn't this one
  past : (x : ℕ) (jobs : List ℕ) (o : Option RowData) → (x == job) ≡ false → IsFilledAs s jobs job o →
      IsFilledAs s (x ∷ jobs) job o
  past x jobs None e h = let a = count_cons job x jobs in let b : same x job ≡ 0 = ap (λ t. if t then 1 else 0) e in
      omega arith
  past x jobs (Some row) e h = (h.0, (let a = count_cons job x jobs in let b = h.1 in omega arith))

  -- the first row that is for a job is its row, where there is one
  found_as : (places : PlacesData) (rows : List RowData) → StudyFits s → ArePlaces s places → job < jobs_of s →
      AreRowsOf s rows
      → IsFilledAs s (jobs_of_rows s rows) job (find (is_for places job) rows)
  found_as places [] fits are low rows_are = refl
  found_as places (x ∷ rows) fits are low rows_are =
      let is = All-head (λ (row : RowData). IsRowOf s row.scenario row.origin row) x rows rows_are in
      let more = found_as places rows fits are low
      (All-tail (λ (row : RowData). IsRowOf s row.scenario row.origin row) x rows rows_are) in
      subst (λ b. IsFilledAs s (jobs_of_rows s (x ∷ rows)) job (cond b (Some x) (find (is_for places job) rows)))
      (sym (for_its_job s places x job fits are is)) (go (job_of_row s x == job) refl is more)
    where
      go : (b : Bool) → (job_of_row s x == job) ≡ b → IsRowOf s x.scenario x.origin x →
          IsFilledAs s (jobs_of_rows s rows) job (find (is_for places job) rows)
          → IsFilledAs s (jobs_of_rows s (x ∷ rows)) job (cond b (Some x) (find (is_for places job) rows))
      go true e is more =
          let it = eqb-true (job_of_row s x) job e in
          let a = count_cons job (job_of_row s x) (jobs_of_rows s rows) in
          let b : same (job_of_row s x) job ≡ 1 = ap (λ t. if t then 1 else 0) e in
          (row_of_its_job s x job low is it, omega arith)
      go false e is more = past (job_of_row s x) (jobs_of_rows s rows) (find (is_for places job) rows) e more

  filled_same : (some other : List ℕ) (o : Option RowData) → HaveSameJobs some other → IsFilledAs s some job o →
      IsFilledAs s other job o
  filled_same some other None same h = go (dec_lt 0 (count_in job other))
    where
      go : Dec (0 < count_in job other) → count_in job other ≡ 0
      go (yes l) = let c = (same job).1 l in omega arith
      go (no l) = omega arith
  filled_same some other (Some row) same h = (h.0, (same job).0 h.1)

  filled_both : (kept more : List ℕ) (a b : Option RowData) → IsFilledAs s kept job a → IsFilledAs s more job b →
      IsFilledAs s (kept ++ more) job (option_or a b)
  filled_both kept more None None h k = let a = count_append job kept more in omega arith
  filled_both kept more None (Some row) h k = (k.0, (let a = count_append job kept more in let b = k.1 in omega arith))
  filled_both kept more (Some row) b h k = (h.0, (let a = count_append job kept more in let c = h.1 in omega arith))

after_study : (places : PlacesData) (row : RowData) → (after_offer places row).study ≡ places.study
after_study places row = go (belongs places row && is_open places row)
  where
    go : (b : Bool) → (if b then record places {
      rows =
          set places.rows (place_of places row.scenario row.origin) (Some row);
    } else places).study ≡ places.study
    go true = refl
    go false = refl

offered_study : (rows : List RowData) (places : PlacesData) → (offered places rows).study ≡ places.study
offered_study [] places = refl
offered_study (row ∷ rows) places = offered_study rows (after_offer places row) ∙ after_study places row

-- what a worker held is offered
pub fills : (s : StudyData) (kept more : List ℕ) (places : PlacesData) (rows : List RowData) → StudyFits s →
    HoldsRows s rows more → AreFilledAs s kept places
    → AreFilledAs s (kept ++ more) (offered places rows)
fills s kept more places rows fits holds was =
    let sizes = offered_sizes rows places in
    let are = was.places_are in
    let size : length places.rows ≡ places.scenarios * places.origins =
    are.count ∙ sym (λ i. are.scenarios i * are.origins i) in
    record {
      places_are = record {
        study = offered_study rows places ∙ are.study;
        scenarios = sizes.scenarios ∙ are.scenarios;
        origins = sizes.origins ∙ are.origins;
        width = sizes.width ∙ are.width;
        shares = sizes.shares ∙ are.shares;
        limits = sizes.limits ∙ are.limits;
        count = offered_length rows places ∙ are.count;
      };
      filled = λ job low.
          subst (IsFilledAs s (kept ++ more) job) (sym (offered_at rows places job size))
          (filled_both s job kept more (row_at places job) (find (is_for places job) rows) (was.filled job low)
          (filled_same s job (jobs_of_rows s rows) more (find (is_for places job) rows) holds.jobs
          (found_as s job places rows fits are low holds.are_rows)));
    }

-- before the first row
pub opens : (s : StudyData) → AreFilledAs s [] (places_without_rows s)
opens s = record {
  places_are = record {
    study = refl;
    scenarios = refl;
    origins = refl;
    width = refl;
    shares = refl;
    limits = refl;
    count = length-replicate (jobs_of s) None;
  };
  filled = λ job low. subst (IsFilledAs s [] job) (sym (none_at (jobs_of s) job)) refl;
}

there_at : (rows : List RowData) (k : ℕ) → k < length (map (λ (r : RowData). Some r) rows) →
    (row : RowData) × (get_or (map (λ (r : RowData). Some r) rows) k None ≡ Some row)
there_at [] k h = absurd (omega arith)
there_at (x ∷ rows) zero h = (x, refl)
there_at (x ∷ rows) (suc k) h = there_at rows k (omega arith)

-- a place with a row has its job's, which was kept
has_row : (s : StudyData) (kept : List ℕ) (job : ℕ) (o : Option RowData) (row : RowData) → o ≡ Some row →
    IsFilledAs s kept job o → IsRowOfJob s job row × (0 < count_in job kept)
has_row s kept job o row e h = subst (IsFilledAs s kept job) e h

full_at : (s : StudyData) (kept : List ℕ) (places : PlacesData) (m : MatrixData) (job : ℕ) → AreFilledAs s kept places →
    IsFinished places m → job < jobs_of s
    → (row : RowData) × (row_at places job ≡ Some row) × IsRowOfJob s job row × (0 < count_in job kept)
full_at s kept places m job was done low =
    let long : job < length (map (λ (r : RowData). Some r) m.rows) =
    subst (λ n. job < n) (sym was.places_are.count ∙ ap length done.rows) low in
    let row = there_at m.rows job long in
    let at : row_at places job ≡ Some row.0 = ap (λ (l : List (Option RowData)). get_or l job None) done.rows ∙ row.1 in
    let h = has_row s kept job (row_at places job) row.0 at (was.filled job low) in
    (row.0, at, h.0, h.1)

-- finished places are all filled
pub all_filled : (s : StudyData) (kept : List ℕ) (places : PlacesData) (m : MatrixData) → AreFilledAs s kept places →
    IsFinished places m → AreFilled s places
all_filled s kept places m was done = record {
  places_are = was.places_are;
  filled = λ job low. let h = full_at s kept places m job was done low in (h.0, h.1, h.2);
}

-- ... and each job was kept, once
pub each_kept : (s : StudyData) (v : View) (places : PlacesData) (m : MatrixData) → AreFilledAs s v.kept places →
    IsFinished places m → IsOnce v → KeptEachJob s v
each_kept s v places m was done once job low =
    let h = full_at s v.kept places m job was done low in
    let some : 0 < kept_in job (seat_of v) = h.3 in
    let most = once.kept job in omega arith

kept_at : (s : StudyData) (kept : List ℕ) (job : ℕ) (o : Option RowData) → is_some o ≡ true → IsFilledAs s kept job o →
    0 < count_in job kept
kept_at s kept job None e h = cc
kept_at s kept job (Some row) e h = h.1

-- the first empty place
pub first_unkept : (s : StudyData) (v : View) (places : PlacesData) (scenario origin : ℕ) →
    AreFilledAs s v.kept places → IsFirstEmpty places scenario origin → IsOnce v
    → IsFirstUnkept s v scenario origin
first_unkept s v places scenario origin was first once =
    let are = was.places_are in
    let low : scenario < length s.networks = subst (λ n. scenario < n) are.scenarios first.scenario_in in
    let right : origin < length s.origins = subst (λ n. origin < n) are.origins first.origin_in in
    let k : ℕ = scenario * length s.origins + origin in
    let place : place_of places scenario origin ≡ k = ap (λ n. scenario * n + origin) are.origins in
    let below : k < jobs_of s = in_range scenario origin (length s.networks) (length s.origins) low right in
    let none : row_at places k ≡ None = ap (row_at places) (sym place) ∙ first.none in
    record {
      scenario_in = low;
      origin_in = right;
      unkept = subst (IsFilledAs s v.kept k) none (was.filled k below);
      before = λ job under.
          let some : 0 < kept_in job (seat_of v) =
          kept_at s v.kept job (row_at places job) (first.before job (subst (λ n. job < n) (sym place) under))
          (was.filled job (omega arith)) in
          let most = once.kept job in omega arith;
    }
