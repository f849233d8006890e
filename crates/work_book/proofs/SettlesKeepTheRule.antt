-- A look, a settle and a load of any word keep the rule.
use Rattle.std.proofs.Common.{◌≡◌, ◌≢◌, ◌==◌, ℕ, ◌+◌, ◌-◌, ◌*◌, ◌<◌, ◌≤◌, min, List, [], ◌∷◌, ◌++◌, Bool, true, false}
use Rattle.std.proofs.Common.{length, set, slice_index, refl, sym, ap, ◌∙◌, subst, ⊎_elim, arith, eqb}
use Rattle.std.specs.List.{list_any, sum_by}
use Rattle.std.proofs.Math.Decide.{dec_lt}
use Rattle.std.proofs.Math.Nat.{mod-lt}
use Rattle.std.proofs.lemmas.Bool.Decides.{nat_tests}
use Rattle.std.proofs.lemmas.List.{get_or-set_same, get_or-set_other, length-set, set-get_or, map-append}
use Rattle.std.proofs.lemmas.List.Folds.{list_any-append}
use Rattle.std.proofs.lemmas.Bool.{or_cases}
use mathlib.Core.Option.{some, none}
use lib.ListN.{get_elem?}
use native.Mathlib.Decide.{ℕ_discrete}
use prog.Atomic.{either}
use Rattle.atomic_table.specs.Table.{State, Act, keeps, step, stepped, Allows, Valid, carried_after}
use Rattle.atomic_table.proofs.Lists.{exchanged}
use Rattle.work_book.specs.Seat.{has_drawn}
use Rattle.work_book.specs.Book.{job_among}
use Rattle.work_book.specs.Views.{seat_of, knows, settled_under, stepped as one_step, knowing, keeping, share_of}
use Rattle.work_book.specs.Views.{untold}
use Rattle.work_book.specs.Shown.{mark_of, next_of}
use Rattle.work_book.specs.Rule.{IsKept, Fits, MarksOwn}
use Rattle.work_book.specs.Moves.{Mine, Shows, Looks, Settles, IsOnce, IsWhole}
use Rattle.work_book.specs.declared.rule.View.{View}
use Rattle.work_book.specs.declared.rule.Extent.{Extent}
use Rattle.work_book.proofs.DrawnBelow.{first_factor}
use Rattle.work_book.proofs.StepsAreFair.{counted}
use Rattle.work_book.proofs.SumsOverViews.{sum_set, sum_at, sum_one}
use Rattle.work_book.proofs.RuleAsSums.{Held, held_of, kept_of, limit_of, draws_of, keeps_of, times, times_append}
use Rattle.work_book.proofs.RuleAsSums.{once_below, once_set, once_below_at, once_set_zero, once_set_some}
use Rattle.work_book.proofs.RuleAsSums.{once_below_le, once_set_le, Grows, same_words, fits_set, Stays, same_marks}
use Rattle.work_book.proofs.RuleAsSums.{own_on, own_set}

times_self : (x : ℕ) → times x (x ∷ []) ≡ 1
times_self x = grind (arith, nat_tests)

times_else : (x y : ℕ) → y ≢ x → times x (y ∷ []) ≡ 0
times_else x y ne = grind (arith, nat_tests)

the_one : (x y : ℕ) → list_any (λ known. known == x) (y ∷ []) ≡ true → y ≡ x
the_one x y h = grind (arith, nat_tests)

-- a step of the word of a job, after which the view is w
mark_keeps : (k : Extent) (id : ℕ) (v w : View) (s : State (Unit {0}) View) (ws : List ℕ) → Held k s →
    get_elem? s.views id ≡ some v
    → length ws ≡ length s.words → slice_index ws 0 ≡ slice_index s.words 0 → Grows s.words ws
    → w.drawn ≡ v.drawn → w.share ≡ v.share → untold w ≡ untold v
    → ((j : ℕ) → times j w.kept + once_set (mark_of s.words j) ≡ times j v.kept + once_set (mark_of ws j))
    → ((j : ℕ) → 0 < mark_of ws j → (mark_of ws j ≤ next_of (limit_of k) s.words)
    × (job_among k.jobs (mark_of ws j - 1) ≡ j))
    → Fits (limit_of k) ws w
    → Stays s.words ws
    → MarksOwn k.jobs ws w
    → IsKept k record { words = ws; homes = s.homes; views = set s.views id w }
mark_keeps k id v w s ws h at len now up draws_same shares_same untold_same marks numbers fit stay own =
    let next : next_of (limit_of k) ws ≡ next_of (limit_of k) s.words = ap (λ (z : ℕ). min z (limit_of k)) now in
    kept_of k _ (record {
      wide = len ∙ h.wide;
      drawn = λ x.
          let a = sum_set (draws_of x) s.views id v w at in
          let b : times x w.drawn ≡ times x v.drawn = ap (times x) draws_same in
          let c = h.drawn x in
          let d = ap (once_below x) next in
          omega arith;
      kept = λ j. let a = sum_set (keeps_of j) s.views id v w at in let b = marks j in let c = h.kept j in omega arith;
      numbers = λ j some_mark. let a = numbers j some_mark in ((let b = a.0 in omega arith), a.1);
      shares = let a = sum_set share_of s.views id v w at in let b = h.shares in omega arith;
      room = let a = sum_set untold s.views id v w at in let b = h.room in omega arith;
      few = h.few;
      fits = fits_set (limit_of k) s.words ws s.views id w up h.fits fit;
      own = own_set k.jobs s.words ws s.views id w stay h.own own;
    })

-- a step that leaves the words, after which the view is w
still_keeps : (k : Extent) (id : ℕ) (v w : View) (s : State (Unit {0}) View) → Held k s → get_elem? s.views id ≡ some v
    → w.drawn ≡ v.drawn → w.share ≡ v.share → untold w ≡ untold v → w.kept ≡ v.kept → w.under ≡ v.under →
    Fits (limit_of k) s.words w
    → IsKept k record { words = s.words; homes = s.homes; views = set s.views id w }
still_keeps k id v w s h at draws_same shares_same untold_same keeps_same under_same fit =
    mark_keeps k id v w s s.words h at refl refl (same_words s.words) draws_same shares_same untold_same
    (λ j. ap (λ (l : List ℕ). times j l + once_set (mark_of s.words j)) keeps_same)
    h.numbers fit (same_marks s.words) (own_on k.jobs s.words s.words v w (same_marks s.words) keeps_same under_same
    (h.own id v at))

-- a step that shows nothing
step_fits : (limit : ℕ) (words : List ℕ) (v : View) → Fits limit words v → Fits limit words (one_step v)
step_fits limit words v f = record { limited = f.limited; told = f.told; empty = f.empty; known = f.known }

-- the view of one that learns that the job j is settled
known_fits : (limit : ℕ) (old new : List ℕ) (v w : View) (j : ℕ) → Grows old new →
    slice_index new 0 ≡ slice_index old 0 → 1 ≤ v.share → Fits limit old v → 0 < mark_of new j
    → w.limit ≡ v.limit → w.share ≡ v.share → w.told ≡ v.told → w.known ≡ v.known ++ j ∷ [] → Fits limit new w
known_fits limit old new v w j up now live f marked limit_same shares_same told_same learnt = record {
  limited = λ p. limit_same ∙ f.limited (omega arith);
  told = λ t. let a = f.told (sym told_same ∙ t) in omega arith;
  empty = λ p. absurd (omega arith);
  known = λ i p.
      let e = ap (list_any (λ known. known == i)) learnt ∙ list_any-append (λ known. known == i) v.known (j ∷ []) in
      ⊎_elim
      (λ (q : knows v i ≡ true). let a = f.known i q in let b = up (i + 1) in omega arith)
      (λ (q : list_any (λ known. known == i) (j ∷ []) ≡ true). subst (λ (z : ℕ). 0
      < mark_of new z) (the_one i j q) marked)
      (or_cases (knows v i) (list_any (λ known. known == i) (j ∷ [])) (sym e ∙ p));
}

-- a seat whose number it is that the board gives: the number is below the next one
number_drawn : (k : Extent) (id : ℕ) (v : View) (n : ℕ) (s : State (Unit {0}) View) → Held k s →
    get_elem? s.views id ≡ some v → has_drawn n (seat_of v) ≡ true → n < next_of (limit_of k) s.words
number_drawn k id v n s h at has =
    let a = counted v.drawn n has in
    let b = sum_at (draws_of n) s.views id v at in
    let c = h.drawn n in
    once_below_at n (next_of (limit_of k) s.words) (omega arith)

module _ (k : Extent) (slots id : ℕ) (me : Mine) (job : ℕ) (live : 1 ≤ me.0.share) (of_board : job < k.jobs) where
  -- the load of a word leaves the words
  learns : (s : State (Unit {0}) View) → Held k s → get_elem? s.views id ≡ some me.0 → 0 < mark_of s.words job
      → IsKept k record {
        words = set s.words (job + 1) (mark_of s.words job);
        homes = s.homes;
        views = set s.views id (knowing job me.0);
      }
  learns s h at marked =
      subst (λ (ws : List ℕ). IsKept k record {
        words = ws;
        homes = s.homes;
        views = set s.views id (knowing job me.0);
      }) (sym (set-get_or s.words (job + 1) 0))
      (still_keeps k id me.0 (knowing job me.0) s h at refl refl refl refl refl
      (known_fits (limit_of k) s.words s.words me.0 (knowing job me.0) job (same_words s.words) refl live
      (h.fits id me.0 at) marked refl refl refl refl))

  unknown : (s : State (Unit {0}) View) → Held k s → get_elem? s.views id ≡ some me.0 → mark_of s.words job ≡ 0 →
      knows me.0 job ≡ false
  unknown s h at unmarked = go (knows me.0 job) refl
    where
      go : (b : Bool) → knows me.0 job ≡ b → b ≡ false
      go true e = absurd (let a = (h.fits id me.0 at).known job e in omega arith)
      go false e = refl

  same_state : (s : State (Unit {0}) View) → Held k s → get_elem? s.views id ≡ some me.0
      → IsKept k record {
        words = set s.words (job + 1) (mark_of s.words job);
        homes = s.homes;
        views = set s.views id (one_step me.0);
      }
  same_state s h at =
      subst (λ (ws : List ℕ). IsKept k record {
        words = ws;
        homes = s.homes;
        views = set s.views id (one_step me.0);
      }) (sym (set-get_or s.words (job + 1) 0))
      (still_keeps k id me.0 (one_step me.0) s h at refl refl refl refl refl
      (step_fits (limit_of k) s.words me.0 (h.fits id me.0 at)))

  -- the job of a number that the seat drew is settled, where it wasn't
  settles_first : (s : State (Unit {0}) View) (n : ℕ) → Held k s → get_elem? s.views id ≡ some me.0 →
      mark_of s.words job ≡ 0
      → has_drawn n (seat_of me.0) ≡ true → job_among k.jobs n ≡ job
      → IsKept k record {
        words = set s.words (job + 1) (n + 1);
        homes = s.homes;
        views = set s.views id (keeping job n me.0);
      }
  settles_first s n h at unset has of_job =
      let v = me.0 in
      let w = keeping job n v in
      let ws : List ℕ = set s.words (job + 1) (n + 1) in
      let some_words : job + 1 < length s.words = let a = h.wide in omega arith in
      let here : mark_of ws job ≡ n + 1 = get_or-set_same s.words (job + 1) (n + 1) 0 some_words in
      let else_ : (i : ℕ) → i ≢ job + 1 → slice_index ws i ≡ slice_index s.words i =
      λ i ne. get_or-set_other s.words (job + 1) i (n + 1) 0 ne in
      let up : Grows s.words ws = λ i. grow s.words ws i here unset else_ in
      let now : slice_index ws 0 ≡ slice_index s.words 0 = else_ 0 (λ e. omega arith) in
      mark_keeps k id v w s ws h at (length-set s.words (job + 1) (n + 1)) now up refl refl refl
      (λ j. marks s.words ws v.kept j here unset else_)
      (λ j. numbered (next_of (limit_of k) s.words) s.words ws j here else_ (number_drawn k id v n s h at has)
      h.numbers)
      (known_fits (limit_of k) s.words ws v w job up now live (h.fits id v at) (omega arith) refl refl refl refl)
      (λ j p. stays s.words ws unset else_ j (ℕ_discrete j job) p)
      (own s.words ws v here unset else_ (h.own id v at))
    where
      stays : (old new : List ℕ) → mark_of old job ≡ 0 →
          ((i : ℕ) → i ≢ job + 1 → slice_index new i ≡ slice_index old i) → (j : ℕ) → Dec (j ≡ job) →
          0 < mark_of old j → mark_of new j ≡ mark_of old j
      stays old new unset else_ j (yes e) p = absurd (let a : mark_of old j ≡ 0 = ap (mark_of old) e ∙ unset in
          omega arith)
      stays old new unset else_ j (no ne) p = else_ (j + 1) (λ e. ne (omega arith))

      own : (old new : List ℕ) (v : View) → mark_of new job ≡ n + 1 → mark_of old job ≡ 0 →
          ((i : ℕ) → i ≢ job + 1 → slice_index new i ≡ slice_index old i) → MarksOwn k.jobs old v →
          MarksOwn k.jobs new (keeping job n v)
      own old new v here unset else_ o = record {
        jobs_of = (λ i. o.jobs_of i ++ sym of_job i ∷ []) ∙ sym (map-append (job_among k.jobs) v.under (n ∷ []));
        marks = λ x p.
            ⊎_elim
            (λ (q : settled_under v x ≡ true).
            let was = o.marks x q in
            stays old new unset else_ (job_among k.jobs x) (ℕ_discrete (job_among k.jobs x) job) (omega arith) ∙ was)
            (λ (q : list_any (λ y. y == x) (n ∷ []) ≡ true).
            let e = the_one x n q in
            ap (λ (y : ℕ). mark_of new (job_among k.jobs y)) (sym e) ∙ ap (mark_of new) of_job ∙ here
            ∙ ap (λ (y : ℕ). y + 1) e)
            (or_cases (settled_under v x) (list_any (λ y. y == x) (n ∷ []))
            (sym (list_any-append (λ y. y == x) v.under (n ∷ [])) ∙ p));
      }

      grow : (old new : List ℕ) (i : ℕ) → mark_of new job ≡ n + 1 → mark_of old job ≡ 0 →
          ((i : ℕ) → i ≢ job + 1 → slice_index new i ≡ slice_index old i) → slice_index old i ≤ slice_index new i
      grow old new i here unset else_ = go (ℕ_discrete i (job + 1))
        where
          go : Dec (i ≡ job + 1) → slice_index old i ≤ slice_index new i
          go (yes e) = subst (λ (z : ℕ). slice_index old z ≤ slice_index new z) (sym e) (omega arith)
          go (no ne) = let a = else_ i ne in omega arith

      numbered : (next : ℕ) (old new : List ℕ) (j : ℕ) → mark_of new job ≡ n + 1 →
          ((i : ℕ) → i ≢ job + 1 → slice_index new i ≡ slice_index old i) → n < next
          → ((j : ℕ) → 0 < mark_of old j → (mark_of old j ≤ next) × (job_among k.jobs (mark_of old j - 1) ≡ j))
          → 0 < mark_of new j → (mark_of new j ≤ next) × (job_among k.jobs (mark_of new j - 1) ≡ j)
      numbered next old new j here else_ low was some_mark = go (ℕ_discrete j job)
        where
          go : Dec (j ≡ job) → (mark_of new j ≤ next) × (job_among k.jobs (mark_of new j - 1) ≡ j)
          go (yes e) =
              let at : mark_of new j ≡ n + 1 = ap (mark_of new) e ∙ here in
              let less : mark_of new j - 1 ≡ n = omega arith in
              ((omega arith), ap (job_among k.jobs) less ∙ of_job ∙ sym e)
          go (no ne) =
              let same : mark_of new j ≡ mark_of old j = else_ (j + 1) (λ e. ne (omega arith)) in
              let a = was j (omega arith) in
              ((let b = a.0 in omega arith), ap (λ (z : ℕ). job_among k.jobs (z - 1)) same ∙ a.1)

      marks : (old new kept : List ℕ) (j : ℕ) → mark_of new job ≡ n + 1 → mark_of old job ≡ 0 →
          ((i : ℕ) → i ≢ job + 1 → slice_index new i ≡ slice_index old i)
          → times j (kept ++ job ∷ []) + once_set (mark_of old j) ≡ times j kept + once_set (mark_of new j)
      marks old new kept j here unset else_ = let t = times_append j kept (job ∷ []) in go (ℕ_discrete j job) t
        where
          go : Dec (j ≡ job) → times j (kept ++ job ∷ []) ≡ times j kept + times j (job ∷ []) →
              times j (kept ++ job ∷ []) + once_set (mark_of old j) ≡ times j kept + once_set (mark_of new j)
          go (yes e) t =
              let a : times j (job ∷ []) ≡ 1 = ap (λ (z : ℕ). times j (z ∷ [])) (sym e) ∙ times_self j in
              let b : once_set (mark_of old j) ≡ 0 = ap (λ (z : ℕ). once_set (mark_of old z)) e
              ∙ once_set_zero (mark_of old job) unset in
              let c : once_set (mark_of new j) ≡ 1 = ap (λ (z : ℕ). once_set (mark_of new z)) e
              ∙ once_set_some (mark_of new job) (omega arith) in
              omega arith
          go (no ne) t =
              let a = times_else j job (λ e. ne (sym e)) in
              let b : once_set (mark_of new j) ≡ once_set (mark_of old j) =
              ap once_set (else_ (j + 1) (λ e. ne (omega arith))) in
              omega arith

  one_less : job + 1 - 1 ≡ job
  one_less = omega arith

  abbrev Gives : (State (Unit {0}) View) → ℕ → (Mine → Type 0) → Type 0
  Gives s m told = (w : View) × (a : Act (Unit {0})) × Valid s.homes me.1 a
      × IsKept k (stepped s (job + 1) m id me.1 w a) × told (w, carried_after me.1 a)

  abbrev Sees : ℕ → (ℕ → View) → ℕ → Mine → Type 0
  Sees n first j w = (w.1 ≡ me.1) × (n ≡ 0 → (w.0 ≡ first j) × (knows me.0 j ≡ false)) × (0 < n → w.0 ≡ knowing j me.0)

  pub looks : Allows (IsKept k) slots id me (job + 1) (λ n. n) (Looks (step slots (job + 1) 0 0 none) me)
  looks s kept len at fit = let h = held_of k s kept in
      subst (λ (j : ℕ). Gives s (mark_of s.words job) (Sees (mark_of s.words job) (λ i. one_step me.0) j))
      (sym one_less) (go h (dec_lt 0 (mark_of s.words job)))
    where
      go : Held k s → Dec (0 < mark_of s.words job) →
          Gives s (mark_of s.words job) (Sees (mark_of s.words job) (λ i. one_step me.0) job)
      go h (yes p) = (knowing job me.0, keeps, tt, learns s h at p, (refl, (λ e. absurd (omega arith)), (λ q. refl)))
      go h (no p) = (
        one_step me.0,
        keeps,
        tt,
        same_state s h at,
        (refl, (λ e. (refl, unknown s h at e)), (λ q. absurd (p q))),
      )

  abbrev set_to : ℕ → ℕ → ℕ
  set_to n m = either (eqb m 0) (n + 1) m

  less_one_number : (n : ℕ) → n + 1 - 1 ≡ n
  less_one_number n = omega arith

  pub settles : (n : ℕ) → has_drawn n (seat_of me.0) ≡ true → job_among k.jobs n ≡ job →
      Allows (IsKept k) slots id me (job + 1) (set_to n) (Settles (step slots (job + 1) 0 (n + 1) none) me)
  settles n has of_job s kept len at fit =
      let h = held_of k s kept in
      subst (λ (z : ℕ × ℕ). Gives s (set_to n (mark_of s.words job))
      (Sees (mark_of s.words job) (λ i. keeping i z.1 me.0) z.0)) (λ i. (sym one_less i, sym (less_one_number n) i))
      (go h (dec_lt 0 (mark_of s.words job)))
    where
      go : Held k s → Dec (0 < mark_of s.words job) →
          Gives s (set_to n (mark_of s.words job)) (Sees (mark_of s.words job) (λ i. keeping i n me.0) job)
      go h (yes p) =
          let same : set_to n (mark_of s.words job) ≡ mark_of s.words job =
          exchanged (mark_of s.words job) 0 (n + 1) (λ z. z
          ≡ mark_of s.words job) (λ e. absurd (omega arith)) (λ ne. refl) in (
            knowing job me.0,
            keeps,
            tt,
            subst (λ (z : ℕ). IsKept k record {
              words = set s.words (job + 1) z;
              homes = s.homes;
              views = set s.views id (knowing job me.0);
            }) (sym same) (learns s h at p),
            (refl, (λ e. absurd (omega arith)), (λ q. refl)),
          )
      go h (no p) =
          let unset : mark_of s.words job ≡ 0 = omega arith in
          let same : set_to n (mark_of s.words job) ≡ n + 1 =
          exchanged (mark_of s.words job) 0 (n + 1) (λ z. z ≡ n + 1) (λ e. refl) (λ ne. absurd (ne unset)) in (
            keeping job n me.0,
            keeps,
            tt,
            subst (λ (z : ℕ). IsKept k record {
              words = set s.words (job + 1) z;
              homes = s.homes;
              views = set s.views id (keeping job n me.0);
            }) (sym same) (settles_first s n h at unset has of_job),
            (refl, (λ e. (refl, unknown s h at e)), (λ q. absurd (p q))),
          )

-- no number and no job stands twice in a view
once_in : (k : Extent) (id : ℕ) (v : View) (s : State (Unit {0}) View) → Held k s → get_elem? s.views id ≡ some v →
    IsOnce v
once_in k id v s h at = record {
  drawn = λ x. let a = sum_at (draws_of x) s.views id v at in let b = h.drawn x in
      let c = once_below_le x (next_of (limit_of k) s.words) in omega arith;
  kept = λ j. let a = sum_at (keeps_of j) s.views id v at in let b = h.kept j in
      let c = once_set_le (mark_of s.words j) in omega arith;
}

-- the lists of a seat with every share are those of the whole board
whole_in : (k : Extent) (id : ℕ) (v : View) (s : State (Unit {0}) View) → Held k s → get_elem? s.views id ≡ some v →
    v.share ≡ 65536 → IsWhole v
whole_in k id v s h at all =
    let mine = h.fits id v at in
    let limit : v.limit ≡ limit_of k = mine.limited (omega arith) in
    let only : sum_by share_of s.views ≡ share_of v = h.shares ∙ sym all in
    record {
      next = next_of (limit_of k) s.words;
      within = omega arith;
      drawn = λ x.
          sym (sum_one (draws_of x) share_of s.views id v at only
          (λ j w e none. ap (times x) ((h.fits j w e).empty none).0)) ∙ h.drawn x;
      told = λ t. let a = mine.told t in omega arith;
      kept = λ j p.
          sym (sum_one (keeps_of j) share_of s.views id v at only
          (λ i w e none. ap (times j) ((h.fits i w e).empty none).1)) ∙ h.kept j
          ∙ once_set_some (mark_of s.words j) (mine.known j p);
    }

pub shows : (k : Extent) (slots id : ℕ) (me : Mine) →
    Allows (IsKept k) slots id me 0 (λ n. n) (Shows (step slots 0 0 0 none) me)
shows k slots id me s kept len at fit =
    let h = held_of k s kept in (
      one_step me.0,
      keeps,
      tt,
      subst (λ (ws : List ℕ). IsKept k record {
        words = ws;
        homes = s.homes;
        views = set s.views id (one_step me.0);
      }) (sym (set-get_or s.words 0 0))
          (still_keeps k id me.0 (one_step me.0) s h at refl refl refl refl refl
          (step_fits (limit_of k) s.words me.0 (h.fits id me.0 at))),
      (
        refl,
        refl,
        once_in k id me.0 s h at,
        (let a = sum_at share_of s.views id me.0 at in let b = h.shares in omega arith),
        whole_in k id me.0 s h at,
      ),
    )

-- the job of a number that is given is one of the jobs
pub job_within : (number jobs tries job : ℕ) → number < jobs * tries → job ≡ job_among jobs number → job < jobs
job_within number jobs tries job given is = let some_job = first_factor jobs tries number given in
    let r = mod-lt number some_job in omega arith
