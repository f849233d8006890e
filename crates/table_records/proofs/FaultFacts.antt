-- The faults of records, one record at a time.
use Rattle.std.proofs.Common.{◌≡◌, List, [], ◌∷◌, ◌++◌, Some, refl, sym, ap, subst, inl, inr, append_assoc, ◌∙◌}
use Rattle.std.specs.Prelude.{slice_get}
use Rattle.std.proofs.lemmas.List.{append-nil}
use Rattle.table_records.specs.Faults.{Tells, faults_after, faults_at}
use Rattle.table_records.specs.declared.fault.FeedFault.{FeedFault}
use Rattle.table_records.specs.declared.fault.FileName.{FileName}
use Rattle.table_records.specs.declared.fault.What.{What}

pub first_append : {X : Type 0} (xs ys : List X) (x : X) → slice_get xs 0 ≡ Some x → slice_get (xs ++ ys) 0 ≡ Some x
first_append [] ys x h = cc h
first_append (z ∷ xs) ys x h = h

pub tells_more : (e : FeedFault) (xs ys : List FeedFault) → Tells e xs → Tells e (xs ++ ys)
tells_more e xs ys t = elim t [ inl m ↦ inl m | inr h ↦ inr (first_append xs ys e h) ]

module _ {R : Type 0} (file : FileName) (checks : List R → R → List What) where
  faults_append : (seen xs ys : List R) → faults_after file checks seen (xs ++ ys)
      ≡ faults_after file checks seen xs ++ faults_after file checks (seen ++ xs) ys
  faults_append seen [] ys = ap (λ (s : List R). faults_after file checks s ys) (sym (append-nil seen))
  faults_append seen (x ∷ xs) ys =
      ap (λ (l : List FeedFault). faults_at file checks seen x ++ l)
      (faults_append (seen ++ x ∷ []) xs ys ∙ ap
      (λ (s : List R). faults_after file checks (seen ++ x ∷ []) xs ++ faults_after file checks s ys)
      (append_assoc seen (x ∷ []) xs))
      ∙ sym (append_assoc (faults_at file checks seen x) (faults_after file checks (seen ++ x ∷ []) xs)
      (faults_after file checks (seen ++ x ∷ xs) ys))

  -- one record more without fault
  pub faults_pass : (before : List R) (r : R) → faults_after file checks [] before ≡ [] → checks before r ≡ [] →
      faults_after file checks [] (before ++ r ∷ []) ≡ []
  faults_pass before r none h = faults_append [] before (r ∷ []) ∙ rw (none, h) refl

  -- the first fault of a record is that of all records, where those before it have none
  pub faults_told : (e : FeedFault) (before after : List R) (r : R) → faults_after file checks [] before ≡ [] →
      Tells e (faults_at file checks before r)
      → Tells e (faults_after file checks [] (before ++ r ∷ after))
  faults_told e before after r none t =
      subst (Tells e) (sym (faults_append [] before (r ∷ after)
      ∙ ap (λ (l : List FeedFault). l ++ faults_after file checks before (r ∷ after)) none))
      (tells_more e _ _ t)
