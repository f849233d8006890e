-- A run of a book with one seat: it draws up to a number, and settles the jobs that are to be settled.
use Rattle.std.proofs.Common.{◌≡◌, ◌==◌, ◌&&◌, ℕ, zero, suc, ◌+◌, ◌*◌, ◌<◌, ◌≤◌, List, [], ◌∷◌, ◌++◌, Bool, true, false}
use Rattle.std.proofs.Common.{not, length, set, get_or, if◌then◌else◌, refl, sym, ap, ◌∙◌, subst, arith, replicate}
use Rattle.std.proofs.Common.{◌||◌}
use Rattle.std.specs.List.{list_any}
use Rattle.std.proofs.Math.Nat.{mod-lt}
use Rattle.std.proofs.Math.Decide.{dec_lt}
use native.Mathlib.Decide.{ℕ_discrete}
use Rattle.std.proofs.lemmas.Bool.Decides.{nat_tests}
use Rattle.std.proofs.lemmas.List.{length-replicate, length-set, get_or-set_same, get_or-set_other}
use Rattle.std.proofs.lemmas.List.Folds.{list_any-append}
use Rattle.std.proofs.lemmas.Option.{unwrap_or-slice_get}
use Rattle.std.proofs.lemmas.Bool.{lt-ltb, or_right}
use Rattle.work_book.specs.Book.{BookState, is_marked, job_among}
use Rattle.work_book.specs.Steps.{after, run_of}
use Rattle.work_book.specs.declared.steps.Step.{Step}
use Rattle.work_book.specs.declared.steps.Step.TheVariants.{Draw, Settle}
use Rattle.work_book.proofs.DrawnBelow.{first_factor}

module _ (jobs tries next : ℕ) (settled : ℕ → Bool) (within : next ≤ jobs * tries) (numbers : (job : ℕ) →
    settled job ≡ true → (number : ℕ) × (number < next) × (job_among jobs number ≡ job)) where
  -- a book of one seat
  abbrev one : ℕ → List Bool → List ℕ → List ℕ → BookState
  one n marks drawn kept = record {
    jobs = jobs;
    tries = tries;
    next = n;
    marks = marks;
    seats = record { drawn = drawn; kept = kept; lost = false } ∷ [];
  }

  -- the book that the run is to reach
  abbrev pub IsGoal : BookState → Type 0
  IsGoal book = (book.next ≡ next) × ((job : ℕ) → is_marked book job ≡ settled job)

  abbrev Leads : BookState → Type 0
  Leads book = (steps : List Step) × IsGoal (run_of book steps)

  -- all numbers below n are in the list
  abbrev HasAll : ℕ → List ℕ → Type 0
  HasAll n drawn = (x : ℕ) → x < n → list_any (λ y. y == x) drawn ≡ true

  -- the marks of the jobs below i are as they are to be, and the others open
  record Settled (i : ℕ) (marks : List Bool) : Type 0 where
    wide : length marks ≡ jobs
    done : (job : ℕ) → job < i → get_or marks job false ≡ settled job
    rest : (job : ℕ) → i ≤ job → get_or marks job false ≡ false

  some_jobs : (x : ℕ) → x < next → 0 < jobs
  some_jobs x low = first_factor jobs tries x (omega arith)

  outside : (job : ℕ) → jobs ≤ job → settled job ≡ false
  outside job far = go (settled job) refl
    where
      go : (b : Bool) → settled job ≡ b → b ≡ false
      go true e = let n = numbers job e in let r = mod-lt n.0 (some_jobs n.0 n.1) in let s = n.2 in absurd (omega arith)
      go false e = refl

  -- one more job is settled
  mark_one : (i : ℕ) (marks : List Bool) → i < jobs → settled i ≡ true → Settled i marks →
      Settled (i + 1) (set marks i true)
  mark_one i marks low here s = record {
    wide = length-set marks i true ∙ s.wide;
    done = λ job below. done job below (ℕ_discrete job i);
    rest = λ job above. get_or-set_other marks i job true false (λ e. omega arith) ∙ s.rest job (omega arith);
  }
    where
      done : (job : ℕ) → job < i + 1 → Dec (job ≡ i) → get_or (set marks i true) job false ≡ settled job
      done job below (yes e) =
          let wide = s.wide in
          ap (λ (j : ℕ). get_or (set marks i true) j false) e ∙ get_or-set_same marks i true false (omega arith)
          ∙ sym here ∙ ap settled (sym e)
      done job below (no ne) = get_or-set_other marks i job true false ne ∙ s.done job (omega arith)

  -- a job that is to stay open
  pass_one : (i : ℕ) (marks : List Bool) → settled i ≡ false → Settled i marks → Settled (i + 1) marks
  pass_one i marks here s = record {
    wide = s.wide;
    done = λ job below. done job below (ℕ_discrete job i);
    rest = λ job above. s.rest job (omega arith);
  }
    where
      done : (job : ℕ) → job < i + 1 → Dec (job ≡ i) → get_or marks job false ≡ settled job
      done job below (yes e) = s.rest job (omega arith) ∙ sym here ∙ ap settled (sym e)
      done job below (no ne) = s.done job (omega arith)

  -- what the settle of a drawn number does where its job is open
  after_settle : (marks : List Bool) (drawn kept : List ℕ) (x : ℕ) → list_any (λ y. y == x) drawn ≡ true →
      is_marked (one next marks drawn kept) (job_among jobs x) ≡ false
      → after (one next marks drawn kept) (Settle 0 x)
      ≡ one next (set marks (job_among jobs x) true) drawn (kept ++ job_among jobs x ∷ [])
  after_settle marks drawn kept x has unset =
      λ i. if both i then one next (set marks (job_among jobs x) true) drawn (kept ++ job_among jobs x ∷ []) else one
      next marks drawn kept
    where
      both : (list_any (λ y. y == x) drawn && not (is_marked (one next marks drawn kept) (job_among jobs x))) ≡ true
      both = rw (has, unset) refl

  settle_rest : (left i : ℕ) (marks : List Bool) (drawn kept : List ℕ) → i + left ≡ jobs → HasAll next drawn →
      Settled i marks → Leads (one next marks drawn kept)
  settle_rest zero i marks drawn kept all has s =
      ([], (refl, λ job. unwrap_or-slice_get marks job false ∙ ends job (dec_lt job jobs)))
    where
      ends : (job : ℕ) → Dec (job < jobs) → get_or marks job false ≡ settled job
      ends job (yes low) = s.done job (omega arith)
      ends job (no far) = s.rest job (omega arith) ∙ sym (outside job (omega arith))
  settle_rest (suc left) i marks drawn kept all has s =
      go (λ m k. settle_rest left (i + 1) m drawn k (omega arith) has) (settled i) refl
    where
      go : ((m : List Bool) (k : List ℕ) → Settled (i + 1) m → Leads (one next m drawn k)) → (b : Bool) →
          settled i ≡ b → Leads (one next marks drawn kept)
      go others false e = others marks kept (pass_one i marks e s)
      go others true e =
          let n = numbers i e in
          let x = n.0 in
          let same : job_among jobs x ≡ i = n.2 in
          let unset : is_marked (one next marks drawn kept) (job_among jobs x) ≡ false =
          unwrap_or-slice_get marks (job_among jobs x) false ∙ ap (λ (j : ℕ). get_or marks j false) same
          ∙ s.rest i (omega arith) in
          let step = after_settle marks drawn kept x (has x n.1) unset in
          let low : i < jobs = omega arith in
          let now : Settled (i + 1) (set marks (job_among jobs x) true) =
          subst (λ (j : ℕ). Settled (i + 1) (set marks j true)) (sym same) (mark_one i marks low e s) in
          let more = others (set marks (job_among jobs x) true) (kept ++ job_among jobs x ∷ []) now in
          (Settle 0 x ∷ more.0, subst (λ (book : BookState). IsGoal (run_of book more.0)) (sym step) more.1)

  after_draw : (n : ℕ) (marks : List Bool) (drawn kept : List ℕ) → n < next →
      after (one n marks drawn kept) (Draw 0) ≡ one (n + 1) marks (drawn ++ n ∷ []) kept
  after_draw n marks drawn kept low = ap (λ (b : Bool). if b then one (n + 1) marks (drawn ++ n ∷ []) kept else one n
      marks drawn kept) (lt-ltb n (jobs * tries) (omega arith))

  one_more : (n : ℕ) (drawn : List ℕ) → HasAll n drawn → HasAll (n + 1) (drawn ++ n ∷ [])
  one_more n drawn has x low = list_any-append (λ y. y == x) drawn (n ∷ []) ∙ found (dec_lt x n)
    where
      last : (n x : ℕ) → n ≡ x → list_any (λ y. y == x) (n ∷ []) ≡ true
      last n x e = grind (arith, nat_tests)

      found : Dec (x < n) → (list_any (λ y. y == x) drawn || list_any (λ y. y == x) (n ∷ [])) ≡ true
      found (yes l) = ap (λ (b : Bool). b || list_any (λ y. y == x) (n ∷ [])) (has x l)
      found (no l) = ap (λ (b : Bool). list_any (λ y. y == x) drawn || b) (last n x (omega arith))
          ∙ or_right (list_any (λ y. y == x) drawn) true refl

  draw_rest : (left n : ℕ) (marks : List Bool) (drawn : List ℕ) → n + left ≡ next → HasAll n drawn → Settled 0 marks →
      Leads (one n marks drawn [])
  draw_rest zero n marks drawn all has s =
      let same : n ≡ next = omega arith in
      subst (λ (m : ℕ). Leads (one m marks drawn [])) (sym same)
      (settle_rest jobs 0 marks drawn [] (omega arith) (λ x low. has x (omega arith)) s)
  draw_rest (suc left) n marks drawn all has s =
      let more = draw_rest left (n + 1) marks (drawn ++ n ∷ []) (omega arith) (one_more n drawn has) s in (
        Draw 0 ∷ more.0,
        subst (λ (book : BookState). IsGoal (run_of book more.0))
            (sym (after_draw n marks drawn [] (omega arith))) more.1,
      )

  all_open : (n j : ℕ) → get_or (replicate n false) j false ≡ false
  all_open zero j = refl
  all_open (suc n) zero = refl
  all_open (suc n) (suc j) = all_open n j

  pub leads : Leads (one 0 (replicate jobs false) [] [])
  leads = draw_rest next 0 (replicate jobs false) [] (omega arith) (λ x low. absurd (omega arith)) record {
    wide = length-replicate jobs false;
    done = λ job low. absurd (omega arith);
    rest = λ job far. all_open jobs job;
  }
