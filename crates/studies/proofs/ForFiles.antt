-- What holds of a result for each of the files that it may be of.
use Rattle.std.proofs.Common.{Result, Ok, Err}
use Rattle.std.specs.Prelude.{IfErr, IfOk}
use Rattle.studies.specs.Inputs.{InputFiles}

module _ {V E : Type 0} (Are : InputFiles → Type 0) where
  pub ok_for : (P : InputFiles → V → Type 0) (r : Result V E) → ((i : InputFiles) → Are i → IfOk r (λ v. P i v)) →
      IfOk r (λ v. (i : InputFiles) → Are i → P i v)
  ok_for P (Ok v) h = h
  ok_for P (Err e) h = tt

  pub err_for : (P : InputFiles → E → Type 0) (r : Result V E) → ((i : InputFiles) → Are i → IfErr r (λ e. P i e)) →
      IfErr r (λ e. (i : InputFiles) → Are i → P i e)
  err_for P (Ok v) h = tt
  err_for P (Err e) h = h

  -- ... and of these files
  pub ok_at : (P : InputFiles → V → Type 0) (r : Result V E) (i : InputFiles) → Are i →
      IfOk r (λ v. (i : InputFiles) → Are i → P i v) → IfOk r (λ v. P i v)
  ok_at P (Ok v) i are h = h i are
  ok_at P (Err e) i are h = tt

  pub err_at : (P : InputFiles → E → Type 0) (r : Result V E) (i : InputFiles) → Are i →
      IfErr r (λ e. (i : InputFiles) → Are i → P i e) → IfErr r (λ e. P i e)
  err_at P (Ok v) i are h = tt
  err_at P (Err e) i are h = h i are

-- files that are of one kind are of the other
module _ {V E : Type 0} (Are Were : InputFiles → Type 0) (are : (i : InputFiles) → Were i → Are i) where
  pub ok_too : (P : InputFiles → V → Type 0) (r : Result V E) → IfOk r (λ v. (i : InputFiles) → Are i → P i v) →
      IfOk r (λ v. (i : InputFiles) → Were i → P i v)
  ok_too P r h = ok_for Were P r (λ i were. ok_at Are P r i (are i were) h)

  pub err_too : (P : InputFiles → E → Type 0) (r : Result V E) → IfErr r (λ e. (i : InputFiles) → Are i → P i e) →
      IfErr r (λ e. (i : InputFiles) → Were i → P i e)
  err_too P r h = err_for Were P r (λ i were. err_at Are P r i (are i were) h)
