-- What a run of workers ends with.
use Rattle.std.proofs.Common.{◌≡◌, ◌<◌, ℕ, Bool, true, false, true≢false, not, List, [], ◌∷◌, Result, Ok, Err}
use Rattle.std.proofs.Common.{inl, inr, length, refl, subst, sym, ◌⊎◌, ◌+◌, ◌-◌, ◌≤◌, arith}
use Rattle.std.specs.Prelude.{IfErr, IfOk}
use Rattle.std.specs.List.{All}
use Rattle.std.proofs.lemmas.List.Elements.{All-append, All-head, All-tail}
use Rattle.work_book.specs.Board.{seen_by}
use Rattle.work_book.specs.Moves.{IsOnce}
use Rattle.work_book.specs.Views.{merged, stepped}
use Rattle.work_book.specs.declared.rule.View.{View}
use Rattle.collector.specs.Places.{PlacesData, MatrixData}
use Rattle.collector.specs.Offers.{IsFinished}
use Rattle.workers.specs.Study.{StudyData, StudyFits}
use Rattle.workers.specs.Matrices.{IsMatrix, HasShape}
use Rattle.workers.specs.Filling.{AreFilledAs}
use Rattle.work_book.specs.declared.shared.Board.{Board}
use Rattle.workers.specs.Held.{Decides, WasTold, AreTold, IsToldKept}
use Rattle.workers.specs.Threads.{AreWorked}
use Rattle.workers.specs.Outcomes.{HasSplit, KeptEachJob, IsFaultOf, IsWhy, NamesFirst, joined, without}
use Rattle.workers.specs.declared.faults.RunFault.{RunFault}
use Rattle.workers.specs.declared.faults.RunFault.TheVariants.{Memory, Spawn, Unfinished}
use Rattle.workers.specs.declared.worker.Worked.{Worked}
use Rattle.workers.proofs.Unique.{matrix_unique}
use Rattle.workers.proofs.FullPlaces.{matrix_of, shape_of}
use Rattle.workers.proofs.OffersFill.{all_filled, each_kept}

module _ (s : StudyData) (v : View) (places : PlacesData) (was : AreFilledAs s v.kept places) where
  pub matrix_ended : (r : Result MatrixData RunFault) → IfOk r (λ m. IsFinished places m) → IfOk r (λ m. IsMatrix s m)
  matrix_ended (Ok m) done = matrix_of s places m (all_filled s v.kept places m was done) done
  matrix_ended (Err e) done = done

  pub shape_ended : (r : Result MatrixData RunFault) → StudyFits s → IfOk r (λ m. IsFinished places m) →
      IfOk r (λ m. HasShape s m)
  shape_ended (Ok m) fits done = shape_of s places m fits (all_filled s v.kept places m was done) done
  shape_ended (Err e) fits done = done

  pub kept_ended : (r : Result MatrixData RunFault) → IsOnce v → IfOk r (λ m. IsFinished places m) →
      IfOk r (λ m. KeptEachJob s v)
  kept_ended (Ok m) once done = each_kept s v places m was done once
  kept_ended (Err e) once done = done

-- what the workers left is why there is no matrix
pub fault_ended : (s : StudyData) (decides : Decides) (was_told : WasTold) (board : Board) (workers : ℕ)
    (start v : View) (worked : List Worked) (r : Result MatrixData RunFault)
    → length worked ≡ workers → AreWorked board s decides was_told worked → v ≡ joined (without workers start) worked →
    IfErr r (λ e. IsWhy s v worked e)
    → IfErr r (λ e. IsFaultOf s decides was_told board workers start v e)
fault_ended s decides was_told board workers start v worked (Ok m) count ended view_is h = h
fault_ended s decides was_told board workers start v worked (Err e) count ended view_is h =
    inr (record { worked = worked; count = count; ended = ended; view_is = view_is; why = h })

-- a seat that takes others in loses no step
joined_steps : (v : View) (worked : List Worked) → v.steps ≤ (joined v worked).steps
joined_steps v [] = omega arith
joined_steps v (w ∷ worked) =
    let theirs : View = seen_by w.seat in
    let rest : v.steps + theirs.steps + 1 + 1 ≤ (joined v (w ∷ worked)).steps =
    joined_steps (stepped (merged v theirs)) worked in
    omega (arith, rest)

-- ... and has their shares
joined_share : (v : View) (worked : List Worked) → All (λ w. (seen_by w.seat).share ≡ 1) worked →
    (joined v worked).share ≡ v.share + length worked
joined_share v [] one = omega arith
joined_share v (w ∷ worked) one =
    let theirs : View = seen_by w.seat in
    let rest : (joined v (w ∷ worked)).share ≡ v.share + theirs.share + length worked =
    joined_share (stepped (merged v theirs)) worked (All-tail (λ w. (seen_by w.seat).share ≡ 1) w worked one) in
    let mine : theirs.share ≡ 1 = All-head (λ w. (seen_by w.seat).share ≡ 1) w worked one in
    omega (arith, rest)

-- ... so that a seat from which others were split off shows how many these were
pub has_split : (workers : ℕ) (start v : View) (worked : List Worked) → workers < start.share →
    length worked ≡ workers → All (λ w. (seen_by w.seat).share ≡ 1) worked → v ≡ joined (without workers start) worked →
    HasSplit workers start v
has_split workers start v worked room count one is =
    let all : View = joined (without workers start) worked in
    let steps : start.steps + workers ≤ all.steps = joined_steps (without workers start) worked in
    let share : all.share ≡ start.share - workers + length worked = joined_share (without workers start) worked one in
    subst (λ (x : View). HasSplit workers start x) (sym is) (record {
      steps = steps;
      share = omega (arith, share);
    })

module _ (s : StudyData) (decides : Decides) (was_told : WasTold) (board : Board) (workers : ℕ) (start v : View) where
  -- what a fault shows of the seat: how many others were split off
  split_by : (e : RunFault) → workers < start.share → IsFaultOf s decides was_told board workers start v e →
      (e ≡ Memory) ⊎ HasSplit workers start v
  split_by e room (inl h) = inl h.0
  split_by e room (inr left) =
      inr (has_split workers start v left.worked room left.count (λ k d below. (left.ended k d below).share)
      left.view_is)

  pub splits : (r : Result MatrixData RunFault) → workers < start.share →
      IfErr r (λ e. IsFaultOf s decides was_told board workers start v e) →
      IfErr r (λ e. (e ≡ Memory) ⊎ HasSplit workers start v)
  splits (Ok m) room h = h
  splits (Err e) room h = split_by e room h

  -- ... and that the place that is named is the first one that is left
  first_by : (e : RunFault) → IsFaultOf s decides was_told board workers start v e → NamesFirst s v e
  first_by Memory h = tt
  first_by Spawn h = tt
  first_by (Unfinished scenario origin) (inl h) = let no = h.0 in cc
  first_by (Unfinished scenario origin) (inr left) = left.why.2

  pub names_first : (r : Result MatrixData RunFault) →
      IfErr r (λ e. IsFaultOf s decides was_told board workers start v e) → IfErr r (λ e. NamesFirst s v e)
  names_first (Ok m) h = h
  names_first (Err e) h = first_by e h

-- what holds whatever came of a run holds where it gave a matrix
pub if_ok : (P : Type 0) (r : Result MatrixData RunFault) → P → IfOk r (λ _. P)
if_ok P (Ok m) h = h
if_ok P (Err e) h = tt

pub none_told : (decides : Decides) (was_told : WasTold) → AreTold decides was_told []
none_told decides was_told k d below = absurd (omega (arith, below))

-- what is so of each kept job is so of those of a seat that took others in
pub kept_told : (decides : Decides) (was_told : WasTold) (v : View) (worked : List Worked) →
    AreTold decides was_told v.kept → All (λ w. AreTold decides was_told (seen_by w.seat).kept) worked
    → AreTold decides was_told (joined v worked).kept
kept_told decides was_told v [] mine theirs = mine
kept_told decides was_told v (w ∷ worked) mine theirs =
    kept_told decides was_told (stepped (merged v (seen_by w.seat))) worked
    (All-append (IsToldKept decides was_told) v.kept (seen_by w.seat).kept mine
    (All-head (λ w. AreTold decides was_told (seen_by w.seat).kept) w worked theirs))
    (All-tail (λ w. AreTold decides was_told (seen_by w.seat).kept) w worked theirs)

pub not_not : (b : Bool) → not b ≡ false → b ≡ true
not_not true h = refl
not_not false h = absurd (true≢false h)

-- two matrices of a study are one
pub one_matrix : (s : StudyData) (r q : Result MatrixData RunFault) → IfOk r (λ m. IsMatrix s m) →
    IfOk q (λ m. IsMatrix s m) → IfOk r (λ one. IfOk q (λ many. one ≡ many))
one_matrix s (Ok m) (Ok w) h g = matrix_unique s m w h g
one_matrix s (Ok m) (Err e) h g = g
one_matrix s (Err e) q h g = h
