-- A place that a run left empty is one whose leases the gate let go.
use Rattle.std.proofs.Common.{◌≡◌, ◌⊎◌, ◌+◌, ◌*◌, ◌%◌, ◌<◌, ◌≤◌, ◌==◌, ◌||◌, ◌++◌, ℕ, Bool, true, false, true≢false}
use Rattle.std.proofs.Common.{List, [], ◌∷◌, Result, Ok, Err, inl, inr, length, nat_lt, if◌then◌else◌}
use Rattle.std.proofs.Common.{refl, ap, sym, subst, ◌∙◌, arith, mul-le-mul_left}
use Rattle.std.specs.Prelude.{IfErr}
use Rattle.std.specs.List.{list_any, All}
use Rattle.std.proofs.Math.Decide.{dec_lt}
use Rattle.std.proofs.lemmas.Bool.{or_right}
use Rattle.std.proofs.lemmas.Bool.Decides.{nat_tests}
use Rattle.std.proofs.lemmas.List.Elements.{All-head, All-tail}
use Rattle.std.proofs.lemmas.List.Folds.{list_any-append}
use Rattle.std.proofs.lemmas.Nat.{mod-mul-add}
use Rattle.work_book.specs.Board.{seen_by}
use Rattle.work_book.specs.Book.{job_among}
use Rattle.work_book.specs.Laws.{kept_in}
use Rattle.work_book.specs.Moves.{IsWhole}
use Rattle.work_book.specs.Steps.{lease_among}
use Rattle.work_book.specs.Views.{knows, merged, seat_of, stepped}
use Rattle.work_book.specs.declared.rule.View.{View}
use Rattle.work_book.specs.declared.shared.Board.{Board}
use Rattle.collector.specs.Places.{MatrixData}
use Rattle.collector.proofs.Offered.{in_range}
use Rattle.workers.specs.Study.{StudyData}
use Rattle.workers.specs.Jobs.{jobs_of}
use Rattle.workers.specs.Held.{count_in, Decides, WasTold, AreTold, HasEnded, IsDone, IsToldKept, KnowsAsMuch}
use Rattle.workers.specs.Held.{WorkedFor}
use Rattle.workers.specs.Threads.{AreWorked}
use Rattle.workers.specs.Outcomes.{IsByGate, IsLeftEmpty, IsLetGo, IsWhy, is_short, is_some_short, is_started}
use Rattle.workers.specs.Outcomes.{is_some_started, job_at, joined, without}
use Rattle.workers.specs.declared.faults.RunFault.{RunFault}
use Rattle.workers.specs.declared.faults.RunFault.TheVariants.{Memory, Spawn, Unfinished}
use Rattle.workers.specs.declared.gates.Verdict.TheVariants.{Work, Lose, Vanish}
use Rattle.workers.specs.declared.worker.Ending.{Ending}
use Rattle.workers.specs.declared.worker.Ending.TheVariants as ending
use Rattle.workers.specs.declared.worker.Worked.{Worked}
use Rattle.workers.proofs.JobCounts.{count_append, count_cons, same, same_some}

-- what holds of each number of a list holds of one that stands there
at_count : (P : ℕ → Type 0) (n : ℕ) (xs : List ℕ) → All P xs → 0 < count_in n xs → P n
at_count P n [] h some = absurd (omega (arith, some))
at_count P n (x ∷ xs) h some =
    go (dec_lt 0 (same x n)) (count_cons n x xs) (at_count P n xs (All-tail P x xs h))
  where
    go : Dec (0 < same x n) → count_in n (x ∷ xs) ≡ same x n + count_in n xs → (0 < count_in n xs → P n) → P n
    go (yes p) e rest = subst P (same_some x n p) (All-head P x xs h)
    go (no p) e rest = rest (omega (arith, some))

or_none : (a b : Bool) → (a || b) ≡ false → (a ≡ false) × (b ≡ false)
or_none true b h = absurd (true≢false h)
or_none false b h = (refl, h)

-- 1 where a number is below another
abbrev one_below : ℕ → ℕ → ℕ
one_below n m = if nat_lt n m then 1 else 0

once : (n m : ℕ) → n < m → one_below n m ≡ 1
once n m below = grind (arith, nat_tests)

below_once : (n m : ℕ) → 0 < one_below n m → n < m
below_once n m h = grind (arith, nat_tests)

-- a seat that takes others in keeps the numbers that it drew, what it knows, and that it was told of the last
count_grows : (n : ℕ) (u : View) (ws : List Worked) → count_in n u.drawn ≤ count_in n (joined u ws).drawn
count_grows n u [] = omega arith
count_grows n u (w ∷ ws) =
    let theirs : View = seen_by w.seat in
    let rest : count_in n (u.drawn ++ theirs.drawn) ≤ count_in n (joined u (w ∷ ws)).drawn =
    count_grows n (stepped (merged u theirs)) ws in
    let both = count_append n u.drawn theirs.drawn in
    omega (arith, rest)

known_left : (u theirs : View) → KnowsAsMuch u (merged u theirs)
known_left u theirs job h =
    list_any-append (λ known. known == job) u.known theirs.known
    ∙ ap (λ b. b || list_any (λ known. known == job) theirs.known) h

known_right : (u theirs : View) → KnowsAsMuch theirs (merged u theirs)
known_right u theirs job h =
    list_any-append (λ known. known == job) u.known theirs.known
    ∙ or_right _ _ h

known_grows : (u : View) (ws : List Worked) → KnowsAsMuch u (joined u ws)
known_grows u [] job h = h
known_grows u (w ∷ ws) job h =
    known_grows (stepped (merged u (seen_by w.seat))) ws job (known_left u (seen_by w.seat) job h)

told_grows : (u : View) (ws : List Worked) → u.told ≡ true → (joined u ws).told ≡ true
told_grows u [] h = h
told_grows u (w ∷ ws) h =
    told_grows (stepped (merged u (seen_by w.seat))) ws (ap (λ b. b || (seen_by w.seat).told) h)

-- a job that the whole board's seat didn't keep it doesn't know to be settled
not_known : (v : View) (job : ℕ) → IsWhole v → kept_in job (seat_of v) ≡ 0 → knows v job ≡ false
not_known v job whole unkept = go (knows v job) refl
  where
    go : (b : Bool) → knows v job ≡ b → b ≡ false
    go true e = absurd (let a = whole.kept job e in omega arith)
    go false e = refl

module _ (decides : Decides) (was_told : WasTold) (board : Board) (s : StudyData) where
  module _ (v : View) (n : ℕ) (unknown : knows v (job_among board.jobs n) ≡ false) where
    lost : (mine : View) → IsDone decides (lease_among board.jobs n) mine → KnowsAsMuch mine v →
        IsLetGo decides (lease_among board.jobs n)
    lost mine (inl known) more = absurd (true≢false (sym (more (job_among board.jobs n) known) ∙ unknown))
    lost mine (inr it) more = inl it

    lost_or : (mine : View) (number : ℕ) → IsDone decides (lease_among board.jobs n) mine ⊎ (n ≡ number) →
        decides (lease_among board.jobs number) Vanish → KnowsAsMuch mine v → IsLetGo decides (lease_among board.jobs n)
    lost_or mine number (inl done) vanishes more = lost mine done more
    lost_or mine number (inr is) vanishes more =
        inr (subst (λ (m : ℕ). decides (lease_among board.jobs m) Vanish) (sym is) vanishes)

    -- a worker that drew a number of a job that nobody settled did so because the gate let it go
    by_ending : (e : Ending) (mine : View) → HasEnded decides board mine e → is_short e ≡ false → KnowsAsMuch mine v →
        0 < count_in n mine.drawn → IsLetGo decides (lease_among board.jobs n)
    by_ending ending.Nothing mine ended short more some =
        lost mine (at_count (λ m. IsDone decides (lease_among board.jobs m) mine) n mine.drawn ended.1 some) more
    by_ending ending.Vanished mine ended short more some =
        lost_or mine ended.number
        (at_count (λ m. IsDone decides (lease_among board.jobs m) mine ⊎ (m ≡ ended.number)) n mine.drawn ended.done
        some)
        ended.vanishes more
    by_ending ending.Short mine ended short more some = absurd (true≢false short)
    by_ending ending.Refused mine ended short more some =
        absurd (let e : count_in n mine.drawn ≡ 0 = ap (count_in n) ended in omega (arith, some))

    find : (u : View) (ws : List Worked) → AreWorked board s decides was_told ws → is_some_short ws ≡ false →
        v ≡ joined u ws → count_in n u.drawn ≡ 0 → 0 < count_in n (joined u ws).drawn →
        IsLetGo decides (lease_among board.jobs n)
    find u [] worked short is none some = absurd (omega (arith, some))
    find u (w ∷ ws) worked short is none some =
        go (dec_lt 0 (count_in n (seen_by w.seat).drawn))
        (λ none_here. find (stepped (merged u (seen_by w.seat))) ws
        (All-tail (λ w. WorkedFor board s decides was_told w) w ws worked)
        (or_none (is_short w.ending) (is_some_short ws) short).1 is none_here some)
      where
        go : Dec (0 < count_in n (seen_by w.seat).drawn)
            → (count_in n (u.drawn ++ (seen_by w.seat).drawn) ≡ 0 → IsLetGo decides (lease_among board.jobs n))
            → IsLetGo decides (lease_among board.jobs n)
        go (yes p) rest =
            by_ending w.ending (seen_by w.seat)
            (All-head (λ w. WorkedFor board s decides was_told w) w ws worked).ended
            (or_none (is_short w.ending) (is_some_short ws) short).0
            (λ job known. subst (λ (z : View). knows z job ≡ true) (sym is)
            (known_grows (stepped (merged u (seen_by w.seat))) ws job (known_right u (seen_by w.seat) job known)))
            p
        go (no p) rest = let both = count_append n u.drawn (seen_by w.seat).drawn in rest (omega (arith, both, none))

  -- a number that was drawn, at which a worker vanished
  abbrev VanishedIn : View → Type 0
  VanishedIn v = (n : ℕ) × (0 < count_in n v.drawn) × decides (lease_among board.jobs n) Vanish

  -- where some worker was started, and none ran out of memory, one drew until nothing, or one vanished
  ends : (u : View) (ws : List Worked) → AreWorked board s decides was_told ws → is_some_short ws ≡ false →
      is_some_started ws ≡ true → ((joined u ws).told ≡ true) ⊎ VanishedIn (joined u ws)
  ends u [] worked short started = absurd (true≢false (sym started))
  ends u (w ∷ ws) worked short started =
      go w.ending refl (All-head (λ w. WorkedFor board s decides was_told w) w ws worked).ended
      (ends (stepped (merged u (seen_by w.seat))) ws
      (All-tail (λ w. WorkedFor board s decides was_told w) w ws worked)
      (or_none (is_short w.ending) (is_some_short ws) short).1)
    where
      go : (e : Ending) → w.ending ≡ e → HasEnded decides board (seen_by w.seat) e →
          (is_some_started ws ≡ true → ((joined u (w ∷ ws)).told ≡ true) ⊎ VanishedIn (joined u (w ∷ ws)))
          → ((joined u (w ∷ ws)).told ≡ true) ⊎ VanishedIn (joined u (w ∷ ws))
      go ending.Nothing is ended others =
          inl (told_grows (stepped (merged u (seen_by w.seat))) ws (or_right u.told (seen_by w.seat).told ended.0))
      go ending.Vanished is ended others =
          let rest : count_in ended.number (u.drawn ++ (seen_by w.seat).drawn)
          ≤ count_in ended.number (joined u (w ∷ ws)).drawn =
          count_grows ended.number (stepped (merged u (seen_by w.seat))) ws in
          let both = count_append ended.number u.drawn (seen_by w.seat).drawn in
          let some = ended.drawn in
          inr (ended.number, omega (arith, rest), ended.vanishes)
      go ending.Short is ended others =
          absurd (true≢false (sym (ap is_short is) ∙ (or_none (is_short w.ending) (is_some_short ws) short).0))
      go ending.Refused is ended others =
          others (sym (ap (λ (e : Ending). is_started e || is_some_started ws) is) ∙ started)

  -- where a seat has the whole board's lists, a number that it drew is below the next one
  below_next : (v : View) (whole : IsWhole v) (n : ℕ) → 0 < count_in n v.drawn → n < whole.next
  below_next v whole n some = let a = whole.drawn n in below_once n whole.next (omega (arith, some))

  drawn_all : (v : View) (whole : IsWhole v) (limit : ℕ) → v.limit ≡ limit → (v.told ≡ true) ⊎ VanishedIn v →
      (whole.next ≡ limit) ⊎ ((n : ℕ) × (n < whole.next) × decides (lease_among board.jobs n) Vanish)
  drawn_all v whole limit is (inl told) = inl (whole.told told ∙ is)
  drawn_all v whole limit is (inr at) = inr (at.0, below_next v whole at.0 at.1, at.2)

  module _ (v start : View) (workers : ℕ) (worked : List Worked) where
    left_empty : (scenario origin : ℕ) → board.jobs ≡ jobs_of s → v.limit ≡ board.jobs * board.tries → IsWhole v →
        start.drawn ≡ [] → AreWorked board s decides was_told worked → v ≡ joined (without workers start) worked →
        AreTold decides was_told v.kept → IsWhy s v worked (Unfinished scenario origin) →
        IsLeftEmpty s decides was_told board.tries scenario origin
    left_empty scenario origin jobs limit whole none all is told why =
        let first = why.2 in
        let u = without workers start in
        let ended = subst (λ (z : View). (z.told ≡ true) ⊎ VanishedIn z) (sym is) (ends u worked all why.1 why.0) in
        record {
          scenario_in = first.scenario_in;
          origin_in = first.origin_in;
          before = λ job below.
              at_count (IsToldKept decides was_told) job v.kept told (let a = first.before job below in omega arith);
          next = whole.next;
          within = subst (λ (m : ℕ). whole.next ≤ m) (limit ∙ ap (λ (m : ℕ). m * board.tries) jobs) whole.within;
          drawn =
              subst (λ (m : ℕ). (whole.next ≡ m * board.tries)
              ⊎ ((n : ℕ) × (n < whole.next) × decides (lease_among m n) Vanish)) jobs
              (drawn_all v whole (board.jobs * board.tries) limit ended);
          let_go = λ n below place.
              let here : job_among board.jobs n ≡ scenario * length s.origins + origin =
              ap (λ (m : ℕ). job_among m n) jobs ∙ place in
              let unkept : kept_in (job_among board.jobs n) (seat_of v) ≡ 0 =
              ap (λ (job : ℕ). kept_in job (seat_of v)) here ∙ first.unkept in
              let some : 0 < count_in n v.drawn =
              let a = whole.drawn n in let b = once n whole.next below in omega arith in
              subst (λ (m : ℕ). IsLetGo decides (lease_among m n)) jobs
              (find v n (not_known v (job_among board.jobs n) whole unkept) u worked all why.1 is
              (ap (count_in n) none) (subst (λ (z : View). 0 < count_in n z.drawn) is some));
        }

    some_started : (length worked ≡ 0) ⊎ IsWhole v → is_some_started worked ≡ true → IsWhole v
    some_started (inr whole) started = whole
    some_started (inl none) started = absurd (nobody worked none started)
      where
        nobody : (ws : List Worked) → length ws ≡ 0 → is_some_started ws ≡ true → ⊥
        nobody [] none started = true≢false (sym started)
        nobody (w ∷ ws) none started = omega (arith, none)

    -- what the gate itself decided and was told of a run that gave no matrix
    pub by_gate : (r : Result MatrixData RunFault) → board.jobs ≡ jobs_of s → v.limit ≡ board.jobs * board.tries →
        (length worked ≡ 0) ⊎ IsWhole v → start.drawn ≡ [] → AreWorked board s decides was_told worked →
        v ≡ joined (without workers start) worked → AreTold decides was_told v.kept →
        IfErr r (λ e. IsWhy s v worked e) → IfErr r (λ e. IsByGate s decides was_told board.tries e)
    by_gate (Ok m) jobs limit whole none all is told why = why
    by_gate (Err Memory) jobs limit whole none all is told why = tt
    by_gate (Err Spawn) jobs limit whole none all is told why = why.0
    by_gate (Err (Unfinished scenario origin)) jobs limit whole none all is told why =
        left_empty scenario origin jobs limit (some_started whole why.0) none all is told why

lose_is_not_work : Lose ≡ Work → ⊥
lose_is_not_work h = cc

vanish_is_not_work : Vanish ≡ Work → ⊥
vanish_is_not_work h = cc

-- the gate that lets each lease be worked at
abbrev open_decides : Decides
open_decides lease verdict = verdict ≡ Work

open_lets_none_go : (jobs number : ℕ) → IsLetGo open_decides (lease_among jobs number) → ⊥
open_lets_none_go jobs number (inl lost) = lose_is_not_work lost
open_lets_none_go jobs number (inr gone) = vanish_is_not_work gone

open_draws_all : (next limit jobs : ℕ) →
    (next ≡ limit) ⊎ ((number : ℕ) × (number < next) × open_decides (lease_among jobs number) Vanish) → next ≡ limit
open_draws_all next limit jobs (inl all) = all
open_draws_all next limit jobs (inr gone) = absurd (vanish_is_not_work gone.2)

-- ... leaves no place empty
pub open_leaves_none : (s : StudyData) (was_told : WasTold) (tries scenario origin : ℕ) → 1 ≤ tries →
    IsLeftEmpty s open_decides was_told tries scenario origin → ⊥
open_leaves_none s was_told tries scenario origin some left =
    let job : ℕ = job_at s scenario origin in
    let low : job < jobs_of s =
    in_range scenario origin (length s.networks) (length s.origins) left.scenario_in left.origin_in in
    let all : left.next ≡ jobs_of s * tries =
    open_draws_all left.next (jobs_of s * tries) (jobs_of s) left.drawn in
    let more : jobs_of s * 1 ≤ jobs_of s * tries = mul-le-mul_left (jobs_of s) some in
    let of_job : job_among (jobs_of s) job ≡ job =
    subst (λ (n : ℕ). n % jobs_of s ≡ job) (let e : 0 * jobs_of s + job ≡ job = omega arith in e)
    (mod-mul-add 0 (jobs_of s) job low) in
    open_lets_none_go (jobs_of s) job (left.let_go job (omega (arith, low, all, more)) of_job)
