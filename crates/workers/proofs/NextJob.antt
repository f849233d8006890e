-- A job that is done leads from the way to the way, and where none is left every place has its row.
use Rattle.std.proofs.Common.{◌≡◌, ◌<◌, ◌+◌, ◌*◌, ◌%◌, ◌==◌, ◌&&◌, ◌⊎◌, inl, inr, ℕ, zero, suc, Bool, true, false, not}
use Rattle.std.proofs.Common.{Option, Some, None, is_some, length, get_or, refl, sym, ap, ◌∙◌, subst, arith, nat_lt}
use Rattle.std.proofs.Common.{unwrap_or, replicate, if◌then◌else◌}
use Rattle.std.proofs.Math.ListN.{set}
use Rattle.std.proofs.Math.Nat.{mod-eq_of_lt}
use Rattle.std.specs.List.{slice_get}
use Rattle.std.proofs.lemmas.List.{length-set, length-replicate, get_or-set_same, get_or-set_other}
use Rattle.std.proofs.lemmas.Bool.{cases_order, and_from, lt-ltb, eq-eqb}
use Rattle.work_book.specs.Book.{BookState, new_book, acts, seat_has, is_marked, job_of}
use Rattle.work_book.specs.Steps.{after}
use Rattle.work_book.specs.declared.steps.Step.TheVariants.{Draw}
use Rattle.collector.specs.Row.{RowData}
use Rattle.collector.specs.Places.{PlacesData, place_of, row_at}
use Rattle.collector.specs.Offers.{belongs, has_all_cells, is_open, after_offer}
use Rattle.collector.proofs.Divide.{scenario_below, origin_below, joined}
use Rattle.collector.proofs.Placed.{none_at}
use Rattle.workers.specs.Study.{StudyData, StudyFits}
use Rattle.workers.specs.Jobs.{jobs_of, IsRowOfJob, places_without_rows, ArePlaces, AreFilled, AreFilledBelow}
use Rattle.workers.specs.Plain.{DoesJob, HasNoJob, IsUnderWay}
use Rattle.workers.proofs.WholeRows.{is_whole_row}
use Rattle.workers.proofs.SeatSteps.{drew, leased, none_left, settled, keeps}

if_true : (b : Bool) (p q : PlacesData) → b ≡ true → (if b then p else q) ≡ p
if_true true p q e = refl
if_true false p q e = cc

-- the row of a job without a row is kept at its place
offered : (s : StudyData) (places : PlacesData) (job : ℕ) (row : RowData) → StudyFits s → ArePlaces s places →
    job < jobs_of s → row_at places job ≡ None → IsRowOfJob s job row
    → after_offer places row ≡ record places { rows = set places.rows job (Some row) }
offered s places job row fits are low none is =
    let place : place_of places row.scenario row.origin ≡ job =
    (λ i. is.scenario_is i * are.origins i + is.origin_is i) ∙ joined (length s.origins) job in
    let in_scenario : nat_lt row.scenario places.scenarios ≡ true =
    lt-ltb _ _ (subst (λ n. row.scenario < n) (sym are.scenarios)
    (subst (λ n. n < length s.networks) (sym is.scenario_is)
    (scenario_below (length s.networks) (length s.origins) job low))) in
    let in_origin : nat_lt row.origin places.origins ≡ true =
    lt-ltb _ _ (subst (λ n. row.origin < n) (sym are.origins)
    (subst (λ n. n < length s.origins) (sym is.origin_is)
    (origin_below (length s.networks) (length s.origins) job low))) in
    let wide : has_all_cells places row ≡ true = is_whole_row s places _ _ row fits are is in
    let of_study : (row.study == places.study) ≡ true = eq-eqb _ _ (is.study_is ∙ sym are.study) in
    let there : belongs places row ≡ true = and_from _ _ of_study
    (and_from _ _ in_scenario (and_from _ _ in_origin wide)) in
    let gap : is_open places row ≡ true = ap (λ k. not (is_some (row_at places k))) place
    ∙ ap (λ (o : Option RowData). not (is_some o)) none in
    if_true (belongs places row && is_open places row) (record places {
      rows =
          set places.rows (place_of places row.scenario row.origin) (Some row);
    }) places (and_from _ _ there gap)
    ∙ ap (λ k. record places { rows = set places.rows k (Some row) }) place

-- one more job has its row
filled_more : (s : StudyData) (places : PlacesData) (n : ℕ) (row : RowData) → ArePlaces s places → n < jobs_of s →
    AreFilledBelow s n places → IsRowOfJob s n row
    → AreFilledBelow s (n + 1) (record places { rows = set places.rows n (Some row) })
filled_more s places n row are low filled is job below = at (cases_order job n)
  where
    at : (job ≡ n) ⊎ ((job < n) ⊎ (n < job)) →
        (r : RowData) × (get_or (set places.rows n (Some row)) job None ≡ Some r) × IsRowOfJob s job r
    at (inl e) = (
      row,
      ap (λ k. get_or (set places.rows n (Some row)) k None) e
          ∙ get_or-set_same places.rows n (Some row) None (let c = are.count in omega arith),
      subst (λ k. IsRowOfJob s k row) (sym e) is,
    )
    at (inr (inl l)) =
        let old = filled job l in
        (old.0, get_or-set_other places.rows n job (Some row) None (λ e. omega arith) ∙ old.1, old.2)
    at (inr (inr l)) = absurd (omega arith)

places_with : (s : StudyData) (places : PlacesData) (job : ℕ) (row : RowData) → ArePlaces s places →
    ArePlaces s (record places { rows = set places.rows job (Some row) })
places_with s places job row are = record {
  study = are.study;
  scenarios = are.scenarios;
  origins = are.origins;
  width = are.width;
  shares = are.shares;
  limits = are.limits;
  count = length-set places.rows job (Some row) ∙ are.count;
}

-- a job that is done
pub done : (s : StudyData) (book new : BookState) (places after_it : PlacesData) → StudyFits s →
    IsUnderWay s book places → DoesJob s book new places after_it
    → IsUnderWay s new after_it
done s book new places after_it fits way does =
    let l = leased book does.lease does.drawn in
    let all : book.jobs * book.tries ≡ jobs_of s = (λ i. way.jobs i * way.tries i) ∙ one (jobs_of s) in
    let low : book.next < jobs_of s = subst (λ n. book.next < n) all l.0 in
    let job : does.lease.job ≡ book.next = l.2 ∙ mod-eq_of_lt (subst (λ n. book.next < n) (sym way.jobs) low) in
    let drawn = after book (Draw 0) in
    let d = drew book way.seat l.0 in
    let number : does.lease.number ≡ book.next = l.1 in
    let of_number : job_of drawn does.lease.number ≡ book.next =
    (λ i. number i % d.jobs i) ∙ mod-eq_of_lt (subst (λ n. book.next < n) (sym way.jobs) low) in
    let mark : is_marked drawn (job_of drawn does.lease.number) ≡ false =
    (λ i. is_marked (record drawn { marks = d.marks i }) (of_number i)) ∙ way.open_jobs book.next (omega arith) in
    let has = subst (λ n. seat_has drawn 0 n ≡ true) (sym number) d.has in
    let kept = does.kept (keeps drawn does.lease.number d.seat has mark) in
    let e = settled drawn does.lease.number d.seat in
    let is : IsRowOfJob s book.next kept.0 = subst (λ n. IsRowOfJob s n kept.0) job kept.1 in
    let places_new = kept.2 ∙ offered s places book.next kept.0 fits way.places_are low
    (way.rest book.next (omega arith)) is in
    let next : new.next ≡ book.next + 1 = ap (λ (b : BookState). b.next) does.settled ∙ e.next ∙ d.next in
    let on : IsUnderWay s new (record places { rows = set places.rows book.next (Some kept.0) }) = record {
      jobs = ap (λ (b : BookState). b.jobs) does.settled ∙ e.jobs ∙ d.jobs ∙ way.jobs;
      tries = ap (λ (b : BookState). b.tries) does.settled ∙ e.tries ∙ d.tries ∙ way.tries;
      seat = ap (λ (b : BookState). acts b 0) does.settled ∙ e.seat;
      next = omega arith;
      open_jobs = λ k past.
          ap (λ (b : BookState). is_marked b k) does.settled
          ∙ e.others k (λ same. let there = same ∙ of_number in omega arith)
          ∙ (λ i. is_marked (record drawn { marks = d.marks i }) k)
          ∙ way.open_jobs k (omega arith);
      places_are = places_with s places book.next kept.0 way.places_are;
      filled = subst (λ n. AreFilledBelow s n (record places { rows = set places.rows book.next (Some kept.0) }))
          (sym next)
          (filled_more s places book.next kept.0 way.places_are low way.filled is);
      rest = λ k past. get_or-set_other places.rows book.next k (Some kept.0) None (λ same. omega arith)
          ∙ way.rest k (omega arith);
    } in
    subst (λ (p : PlacesData). IsUnderWay s new p) (sym places_new) on
  where
    one : (n : ℕ) → n * 1 ≡ n
    one n = omega arith

-- no job is left
pub all_done : (s : StudyData) (book new : BookState) (places after_it : PlacesData) → IsUnderWay s book places →
    HasNoJob book new places after_it → AreFilled s after_it
all_done s book new places after_it way none =
    let all : book.jobs * book.tries ≡ jobs_of s = (λ i. way.jobs i * way.tries i) ∙ one (jobs_of s) in
    let past = none_left book way.seat none.drawn in
    let next : book.next ≡ jobs_of s = let low = way.next in omega arith in
    let here : AreFilled s places = record {
      places_are = way.places_are;
      filled = subst (λ n. AreFilledBelow s n places) next way.filled;
    } in
    subst (λ (p : PlacesData). AreFilled s p) (sym none.places_are) here
  where
    one : (n : ℕ) → n * 1 ≡ n
    one n = omega arith

open_at : (n k : ℕ) → unwrap_or (slice_get (replicate {A = Bool} n false) k) false ≡ false
open_at zero k = refl
open_at (suc n) zero = refl
open_at (suc n) (suc k) = open_at n k

-- a new book and empty places are on the way
pub opened : (s : StudyData) → IsUnderWay s (new_book (jobs_of s) 1 1) (places_without_rows s)
opened s = record {
  jobs = refl;
  tries = refl;
  seat = refl;
  next = omega arith;
  open_jobs = λ job past. open_at (jobs_of s) job;
  places_are = record {
    study = refl;
    scenarios = refl;
    origins = refl;
    width = refl;
    shares = refl;
    limits = refl;
    count = length-replicate (jobs_of s) None;
  };
  filled = λ job below. absurd (omega arith);
  rest = λ job past. none_at (jobs_of s) job;
}
