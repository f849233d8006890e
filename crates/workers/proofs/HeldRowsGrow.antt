-- The rows that a worker holds grow with what its seat kept.
use Rattle.std.proofs.Common.{◌≡◌, ◌≢◌, ◌==◌, ◌||◌, ◌*◌, ◌+◌, ◌<◌, ◌%◌, ℕ, List, [], ◌∷◌, ◌++◌, Bool, true, false}
use Rattle.std.proofs.Common.{length, refl, sym, ap, ◌∙◌, subst, ⊎_elim, arith}
use Rattle.std.specs.List.{list_any}
use Rattle.std.proofs.Math.Nat.{mod-lt, mul_comm}
use Rattle.std.proofs.lemmas.List.{append-nil, append_assoc, length-append}
use Rattle.std.proofs.lemmas.List.Elements.{All-cons, All-nil, All-push, All-same}
use Rattle.std.proofs.lemmas.List.Folds.{list_any-append}
use Rattle.std.proofs.lemmas.Bool.{eq-eqb}
use Rattle.work_book.specs.Board.{IsLease, SettledAs}
use Rattle.work_book.specs.Views.{knows}
use Rattle.work_book.specs.declared.lease.Lease.{Lease}
use Rattle.work_book.specs.declared.lease.Settled.{Settled}
use Rattle.work_book.specs.declared.lease.Settled.TheVariants.{Kept, Double}
use Rattle.work_book.specs.declared.rule.View.{View}
use Rattle.work_book.specs.declared.shared.Board.{Board}
use Rattle.collector.specs.Row.{RowData}
use Rattle.collector.proofs.Divide.{some_right, joined}
use Rattle.workers.specs.Study.{StudyData}
use Rattle.workers.specs.Rows.{IsRowOf}
use Rattle.workers.specs.Jobs.{IsRowOfJob}
use Rattle.workers.specs.Held.{count_in, HaveSameJobs, job_of_row, jobs_of_rows, AreRowsOf, HoldsMore, HoldsRows}
use Rattle.workers.proofs.JobCounts.{some_in, count_more, count_last, count_one}

-- the job of a lease is one of the board's
pub job_below : (board : Board) (lease : Lease) → IsLease board lease → lease.job < board.jobs
job_below board lease is =
    let some : 0 < board.jobs = zero_times board.jobs board.tries lease.number is.1 in
    subst (λ n. n < board.jobs) (sym (ap (λ (l : Lease). l.job) is.0)) (mod-lt lease.number some)
  where
    zero_times : (jobs tries n : ℕ) → n < jobs * tries → 0 < jobs
    zero_times jobs tries n low = some_right tries jobs n (subst (λ m. n < m) (mul_comm jobs tries) low)

jobs_append : (s : StudyData) (xs ys : List RowData) →
    jobs_of_rows s (xs ++ ys) ≡ jobs_of_rows s xs ++ jobs_of_rows s ys
jobs_append s [] ys = refl
jobs_append s (x ∷ xs) ys = ap (λ l. job_of_row s x ∷ l) (jobs_append s xs ys)

same_push : (xs ks : List ℕ) (k : ℕ) → HaveSameJobs xs ks → HaveSameJobs (xs ++ k ∷ []) (ks ++ k ∷ [])
same_push xs ks k h job = (
  (λ p. ⊎_elim (λ a. count_more job ks (k ∷ []) ((h job).0 a)) (λ a. count_last job ks (k ∷ []) a)
      (some_in job xs (k ∷ []) p)),
  (λ p. ⊎_elim (λ a. count_more job xs (k ∷ []) ((h job).1 a)) (λ a. count_last job xs (k ∷ []) a)
      (some_in job ks (k ∷ []) p)),
)

same_again : (xs ks : List ℕ) (k : ℕ) → HaveSameJobs xs ks → 0 < count_in k ks → HaveSameJobs (xs ++ k ∷ []) ks
same_again xs ks k h there job = (
  (λ p. ⊎_elim (λ a. (h job).0 a) (λ (a : 0 < count_in job (k ∷ [])).
      subst (λ z. 0 < count_in z ks) (count_one job k a) there) (some_in job xs (k ∷ []) p)),
  (λ p. count_more job xs (k ∷ []) ((h job).1 p)),
)

-- the row of a job is of that job
job_is : (s : StudyData) (job : ℕ) (row : RowData) → IsRowOfJob s job row → job_of_row s row ≡ job
job_is s job row is = (λ i. is.scenario_is i * length s.origins + is.origin_is i) ∙ joined (length s.origins) job

own_place : (s : StudyData) (job : ℕ) (row : RowData) → IsRowOfJob s job row → IsRowOf s row.scenario row.origin row
own_place s job row is =
    subst (λ n. IsRowOf s row.scenario n row) (sym is.origin_is)
    (subst (λ n. IsRowOf s n (job % length s.origins) row) (sym is.scenario_is) is)

rows_more : (s : StudyData) (rows more : List RowData) (job : ℕ) (row : RowData) → AreRowsOf s rows →
    IsRowOfJob s job row → more ≡ rows ++ row ∷ [] → AreRowsOf s more
rows_more s rows more job row are is more_is =
    All-same (λ (r : RowData). IsRowOf s r.scenario r.origin r) more (rows ++ row ∷ []) more_is
    (All-push (λ (r : RowData). IsRowOf s r.scenario r.origin r) rows row are (own_place s job row is))

jobs_more : (s : StudyData) (rows more : List RowData) (job : ℕ) (row : RowData) → IsRowOfJob s job row →
    more ≡ rows ++ row ∷ []
    → jobs_of_rows s more ≡ jobs_of_rows s rows ++ job ∷ []
jobs_more s rows more job row is more_is =
    ap (jobs_of_rows s) more_is ∙ jobs_append s rows (row ∷ [])
    ∙ ap (λ z. jobs_of_rows s rows ++ z ∷ []) (job_is s job row is)

-- one row more, of a job that was kept just now
pub holds_new : (s : StudyData) (rows more : List RowData) (kept now : List ℕ) (job : ℕ) (row : RowData) →
    HoldsRows s rows kept → IsRowOfJob s job row
    → more ≡ rows ++ row ∷ [] → now ≡ kept ++ job ∷ [] → HoldsRows s more now
holds_new s rows more kept now job row h is more_is now_is = record {
  are_rows = rows_more s rows more job row h.are_rows is more_is;
  jobs =
      subst (λ (z : List ℕ × List ℕ). HaveSameJobs z.0 z.1)
      (λ i. (sym (jobs_more s rows more job row is more_is) i, sym now_is i))
      (same_push (jobs_of_rows s rows) kept job h.jobs);
}

-- one row more, of a job that was kept before
pub holds_again : (s : StudyData) (rows more : List RowData) (kept : List ℕ) (job : ℕ) (row : RowData) →
    HoldsRows s rows kept → IsRowOfJob s job row
    → 0 < count_in job kept → more ≡ rows ++ row ∷ [] → HoldsRows s more kept
holds_again s rows more kept job row h is there more_is = record {
  are_rows = rows_more s rows more job row h.are_rows is more_is;
  jobs =
      subst (λ (z : List ℕ). HaveSameJobs z kept) (sym (jobs_more s rows more job row is more_is))
      (same_again (jobs_of_rows s rows) kept job h.jobs there);
}

pub holds_same : (s : StudyData) (rows more : List RowData) (kept now : List ℕ) → HoldsRows s rows kept →
    more ≡ rows → now ≡ kept → HoldsRows s more now
holds_same s rows more kept now h e k =
    subst (λ (z : List RowData × List ℕ). HoldsRows s z.0 z.1) (λ i. (sym e i, sym k i)) h

none_more : (a b : ℕ) → a ≡ b → 0 + a ≡ b
none_more a b e = omega (arith, e)

-- what a settle adds: nothing, a row, or a row twice
module _ (s : StudyData) (job : ℕ) (v w : View) (rows more : List RowData) where
  pub more_none : (copies : ℕ) → more ≡ rows → w.kept ≡ v.kept → HoldsMore s copies job v w rows more
  more_none copies more_is kept = record {
    added = [];
    more_is = more_is ∙ sym (append-nil rows);
    are_rows = All-nil (λ (r : RowData). IsRowOfJob s job r);
    count = none_more (copies * length v.kept) (copies * length w.kept)
        (ap (λ (xs : List ℕ). copies * length xs) (sym kept));
  }

  pub more_once : (row : RowData) → IsRowOfJob s job row → more ≡ rows ++ row ∷ [] → w.kept ≡ v.kept ++ job ∷ [] →
      HoldsMore s 1 job v w rows more
  more_once row is more_is kept = record {
    added = row ∷ [];
    more_is = more_is;
    are_rows =
        All-cons (λ (r : RowData). IsRowOfJob s job r) row [] is (All-nil (λ (r : RowData). IsRowOfJob s job r));
    count = (let long = ap length kept in let parts = length-append v.kept (job ∷ []) in omega (arith, long, parts));
  }

  pub more_twice : (one : List RowData) (row again : RowData) → IsRowOfJob s job row → IsRowOfJob s job again →
      one ≡ rows ++ row ∷ [] → more ≡ one ++ again ∷ [] → w.kept ≡ v.kept ++ job ∷ [] →
      HoldsMore s 2 job v w rows more
  more_twice one row again is is_again one_is more_is kept = record {
    added = row ∷ again ∷ [];
    more_is = more_is ∙ ap (λ (xs : List RowData). xs ++ again ∷ []) one_is
        ∙ append_assoc rows (row ∷ []) (again ∷ []);
    are_rows =
        All-cons (λ (r : RowData). IsRowOfJob s job r) row (again ∷ []) is
        (All-cons (λ (r : RowData). IsRowOfJob s job r) again [] is_again
        (All-nil (λ (r : RowData). IsRowOfJob s job r)));
    count = (let long = ap length kept in let parts = length-append v.kept (job ∷ []) in omega (arith, long, parts));
  }

known_last : (job : ℕ) (xs now : List ℕ) → now ≡ xs ++ job ∷ [] → list_any (λ known. known == job) now ≡ true
known_last job xs now e =
    ap (list_any (λ known. known == job)) e ∙ list_any-append (λ known. known == job) xs (job ∷ [])
    ∙ last (list_any (λ known. known == job) xs)
  where
    last : (b : Bool) → (b || list_any (λ known. known == job) (job ∷ [])) ≡ true
    last true = refl
    last false = ap (λ b. b || false) (eq-eqb job job refl)

-- a seat knows a job that it settled
pub known_after : (v w : View) (lease : Lease) (s : Settled) → SettledAs v lease s w → knows w lease.job ≡ true
known_after v w lease Kept e = known_last lease.job v.known w.known (ap (λ (z : View). z.known) e.0)
known_after v w lease Double e = known_last lease.job v.known w.known (ap (λ (z : View). z.known) e)

-- a settle of a job that the seat knows to be settled keeps nothing
pub settles_known : (v w : View) (lease : Lease) (s : Settled) → SettledAs v lease s w → knows v lease.job ≡ true →
    w.kept ≡ v.kept
settles_known v w lease Kept e known = let clash : true ≡ false = sym known ∙ e.1 in cc
settles_known v w lease Double e known = ap (λ (z : View). z.kept) e

-- a settle that doesn't keep its job keeps none
pub kept_same : (v w : View) (lease : Lease) (s : Settled) → SettledAs v lease s w → s ≢ Kept → w.kept ≡ v.kept
kept_same v w lease Kept e other = absurd (other refl)
kept_same v w lease Double e other = ap (λ (z : View). z.kept) e
