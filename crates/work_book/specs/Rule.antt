-- What holds of a board between any two steps, in every schedule.
use Rattle.std.specs.Prelude.{◌≡◌, ◌+◌, ◌-◌, ◌*◌, ◌<◌, ◌≤◌, ℕ, true, List, [], length, map, slice_index}
use Rattle.std.specs.List.{sum_by}
use mathlib.Core.Option.{some}
use lib.ListN.{get_elem?}
use Rattle.atomic_table.specs.Table.{State}
use Rattle.work_book.specs.Book.{BookState, job_among}
use Rattle.work_book.specs.Laws.{AreDrawnOnce, AreKeptOnce}
use Rattle.work_book.specs.Views.{knows, settled_under, share_of, untold}
use Rattle.work_book.specs.Shown.{mark_of, shown}
use Rattle.work_book.specs.declared.rule.Extent.{Extent}
use Rattle.work_book.specs.declared.rule.View.{View}

-- what holds of one view, where the numbers stop at the limit: a seat with a share knows the limit, is told that all
-- numbers are drawn only where they are, and knows only settled jobs to be settled; a spent one has empty lists
pub record Fits (limit : ℕ) (words : List ℕ) (v : View) : Type 0 where
  pub limited : 0 < v.share → v.limit ≡ limit
  pub told : v.told ≡ true → limit ≤ slice_index words 0
  pub empty : v.share ≡ 0 → (v.drawn ≡ []) × (v.kept ≡ [])
  pub known : (job : ℕ) → knows v job ≡ true → 0 < mark_of words job

-- a mark that is set is a number that was drawn for the job, plus 1
abbrev pub AreNumbers : BookState → List ℕ → Type 0
AreNumbers book words = (job : ℕ) → 0 < mark_of words job →
    (mark_of words job ≤ book.next) × (job_among book.jobs (mark_of words job - 1) ≡ job)

-- each job that a seat kept is that of the number under which it settled it, and the job's mark is this number, plus 1
pub record MarksOwn (jobs : ℕ) (words : List ℕ) (v : View) : Type 0 where
  pub jobs_of : v.kept ≡ map (job_among jobs) v.under
  pub marks : (number : ℕ) → settled_under v number ≡ true → mark_of words (job_among jobs number) ≡ number + 1

-- the rule of a board of an extent: its words and views are in order
pub record IsKept (k : Extent) (s : State (Unit {0}) View) : Type 0 where
  pub wide : length s.words ≡ k.jobs + 1
  -- as in every run of a book: each number below the next one is drawn once, and a settled job is kept once
  pub drawn : AreDrawnOnce (shown k s.words s.views)
  pub kept : AreKeptOnce (shown k s.words s.views)
  pub numbers : AreNumbers (shown k s.words s.views) s.words
  pub shares : sum_by share_of s.views ≡ 65536
  -- a seat asks in vain only once, so the first word never wraps
  pub room : slice_index s.words 0 + sum_by untold s.views ≤ k.jobs * k.tries + 65536
  pub few : k.jobs * k.tries ≤ 8388480
  pub fits : (i : ℕ) (v : View) → get_elem? s.views i ≡ some v → Fits (k.jobs * k.tries) s.words v
  pub own : (i : ℕ) (v : View) → get_elem? s.views i ≡ some v → MarksOwn k.jobs s.words v
