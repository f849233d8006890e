-- What a seat knows to be settled, and so which leases are done with, only grows.
use Rattle.std.proofs.Common.{◌≡◌, ◌≢◌, ◌==◌, ◌||◌, ◌⊎◌, ℕ, List, [], ◌∷◌, ◌++◌, inl, inr, true, false, true≢false}
use Rattle.std.proofs.Common.{refl, ap, sym, ◌∙◌, subst}
use Rattle.std.specs.List.{list_any}
use Rattle.std.proofs.lemmas.List.Elements.{All-push, All-same}
use Rattle.std.proofs.lemmas.List.Folds.{list_any-append}
use Rattle.work_book.specs.Board.{Drawn, SettledAs}
use Rattle.work_book.specs.Steps.{lease_among}
use Rattle.work_book.specs.Views.{knows, told_nothing}
use Rattle.work_book.specs.declared.lease.Lease.{Lease}
use Rattle.work_book.specs.declared.lease.Settled.{Settled}
use Rattle.work_book.specs.declared.lease.Settled.TheVariants.{Kept, Double}
use Rattle.work_book.specs.declared.rule.View.{View}
use Rattle.work_book.specs.declared.shared.Board.{Board}
use Rattle.work_book.specs.declared.shared.Draw.{Draw}
use Rattle.work_book.specs.declared.shared.Draw.TheVariants.{Nothing}
use Rattle.workers.specs.declared.worker.Ending.{Ending}
use Rattle.workers.specs.declared.worker.Ending.TheVariants as ending
use Rattle.workers.specs.declared.worker.Next.TheVariants.{End}
use Rattle.workers.specs.declared.gates.Verdict.TheVariants.{Vanish}
use Rattle.workers.specs.Held.{Decides, WasTold, AreDone, AreTold, HasVanished, IsKeptAs, IsToldKept, KnowsAsMuch}
use Rattle.workers.specs.Held.{IsDone, HasEnded, LeavesAs}
use Rattle.workers.proofs.JobCounts.{last_in}

pub knows_same : (v w : View) → w.known ≡ v.known → KnowsAsMuch v w
knows_same v w e job h = ap (list_any (λ known. known == job)) e ∙ h

pub knows_more : (v w : View) (x : ℕ) → w.known ≡ v.known ++ x ∷ [] → KnowsAsMuch v w
knows_more v w x e job h =
    ap (list_any (λ known. known == job)) e
    ∙ list_any-append (λ known. known == job) v.known (x ∷ [])
    ∙ ap (λ b. b || list_any (λ known. known == job) (x ∷ [])) h

pub knows_settled : (v w : View) (lease : Lease) (s : Settled) → SettledAs v lease s w → KnowsAsMuch v w
knows_settled v w lease Kept e = knows_more v w lease.job (ap (λ (z : View). z.known) e.0)
knows_settled v w lease Double e = knows_more v w lease.job (ap (λ (z : View). z.known) e)

pub knows_both : (u v w : View) → KnowsAsMuch u v → KnowsAsMuch v w → KnowsAsMuch u w
knows_both u v w h k job known = k job (h job known)

pub done_more : (decides : Decides) (lease : Lease) (v w : View) → KnowsAsMuch v w → IsDone decides lease v →
    IsDone decides lease w
done_more decides lease v w more (inl h) = inl (more lease.job h)
done_more decides lease v w more (inr h) = inr h

module _ (decides : Decides) (jobs : ℕ) where
  pub all_done_more : (numbers : List ℕ) (v w : View) → KnowsAsMuch v w → AreDone decides jobs numbers v →
      AreDone decides jobs numbers w
  all_done_more numbers v w more h = λ k d below. done_more decides (lease_among jobs _) v w more (h k d below)

  -- one number more, whose lease is done with
  pub one_more_done : (numbers now : List ℕ) (v w : View) (lease : Lease) → KnowsAsMuch v w →
      AreDone decides jobs numbers v → now ≡ numbers ++ lease.number ∷ []
      → lease ≡ lease_among jobs lease.number → IsDone decides lease w → AreDone decides jobs now w
  one_more_done numbers now v w lease more h now_is lease_is done =
      All-same (λ number. IsDone decides (lease_among jobs number) w) now (numbers ++ lease.number ∷ []) now_is
      (All-push (λ number. IsDone decides (lease_among jobs number) w) numbers lease.number
      (all_done_more numbers v w more h)
      (subst (λ (l : Lease). IsDone decides l w) lease_is done))

  -- one number more, at whose lease a worker vanishes
  pub vanished_at : (numbers now : List ℕ) (v w : View) (lease : Lease) → KnowsAsMuch v w →
      AreDone decides jobs numbers v → now ≡ numbers ++ lease.number ∷ [] → w.drawn ≡ now
      → lease ≡ lease_among jobs lease.number → decides lease Vanish → HasVanished decides jobs w
  vanished_at numbers now v w lease more h now_is drawn lease_is vanishes =
      let all : w.drawn ≡ numbers ++ lease.number ∷ [] = drawn ∙ now_is in
      let P : ℕ → Type 0 = λ n. IsDone decides (lease_among jobs n) w ⊎ (n ≡ lease.number) in
      record {
        number = lease.number;
        drawn = last_in lease.number numbers w.drawn all;
        vanishes = subst (λ (l : Lease). decides l Vanish) lease_is vanishes;
        done =
            All-same P w.drawn (numbers ++ lease.number ∷ []) all
            (All-push P numbers lease.number
            (λ k d below. inl (done_more decides (lease_among jobs _) v w more (h k d below))) (inr refl));
      }

-- the gate was told of what a settle keeps
pub told_more : (decides : Decides) (was_told : WasTold) (v w : View) (lease : Lease) (s : Settled) →
    SettledAs v lease s w → (s ≡ Kept → IsKeptAs decides was_told lease)
    → AreTold decides was_told v.kept → AreTold decides was_told w.kept
told_more decides was_told v w lease Kept e fate h =
    All-same (IsToldKept decides was_told) w.kept (v.kept ++ lease.job ∷ []) (ap (λ (z : View). z.kept) e.0)
    (All-push (IsToldKept decides was_told) v.kept lease.job h (lease, refl, fate refl))
told_more decides was_told v w lease Double e fate h =
    All-same (IsToldKept decides was_told) w.kept v.kept (ap (λ (z : View). z.kept) e) h

pub told_same : (decides : Decides) (was_told : WasTold) (v w : View) → w.kept ≡ v.kept →
    AreTold decides was_told v.kept → AreTold decides was_told w.kept
told_same decides was_told v w e h = All-same (IsToldKept decides was_told) w.kept v.kept e h

-- a second settle of a job is a double
pub second_double : (v w : View) (lease : Lease) (s : Settled) → SettledAs v lease s w →
    knows v lease.job ≡ true → s ≡ Double
second_double v w lease Kept e known = absurd (true≢false (sym known ∙ e.1))
second_double v w lease Double e known = refl

-- ... which keeps nothing
pub told_again : (decides : Decides) (was_told : WasTold) (v w : View) (lease : Lease) (s : Settled) →
    SettledAs v lease s w → knows v lease.job ≡ true → AreTold decides was_told v.kept →
    AreTold decides was_told w.kept
told_again decides was_told v w lease Kept e known h = absurd (true≢false (sym known ∙ e.1))
told_again decides was_told v w lease Double e known h =
    told_same decides was_told v w (ap (λ (z : View). z.kept) e) h

-- why a worker ended that leaves a lease which it drew
pub ended_at : (decides : Decides) (board : Board) (v w : View) (lease : Lease) (e : Ending) → KnowsAsMuch v w →
    AreDone decides board.jobs v.drawn v → w.drawn ≡ v.drawn ++ lease.number ∷ []
    → lease ≡ lease_among board.jobs lease.number → w.told ≡ false → LeavesAs decides lease w (End e)
    → HasEnded decides board w e
ended_at decides board v w lease ending.Nothing more done drawn lease_is untold h = absurd h
ended_at decides board v w lease ending.Vanished more done drawn lease_is untold h =
    vanished_at decides board.jobs v.drawn w.drawn v w lease more done drawn refl lease_is h
ended_at decides board v w lease ending.Short more done drawn lease_is untold h = untold
ended_at decides board v w lease ending.Refused more done drawn lease_is untold h = absurd h

-- a draw that gives no lease tells that all numbers are drawn
pub told_end : (board : Board) (v w : View) (d : Draw) → Drawn board v d w → ((lease : Lease) → d ≢ Draw.Lease lease) →
    w ≡ told_nothing v
told_end board v w (Draw.Lease lease) h none = absurd (none lease refl)
told_end board v w Nothing h none = h
