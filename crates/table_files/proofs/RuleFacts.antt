-- What a reader's definition refuses, the rule of its check refuses.
use Rattle.std.proofs.Common.{◌≡◌, ◌==◌, ◌&&◌, ℕ, zero, suc, Bool, true, false, List, [], ◌∷◌, Option, Some, None}
use Rattle.std.proofs.Common.{nat_le, arith, refl, if◌then◌else◌}
use Rattle.std.specs.Prelude.{is_none, not, option_and_then, option_map}
use Rattle.std.proofs.lemmas.Bool.{le-leb}
use Rattle.table_records.specs.Checks.{is_neither, is_no_headway}
use Rattle.table_records.specs.Fields.{day_of, is_empty, number_of}
use Rattle.table_files.specs.Calendar.{days_of}
use Rattle.table_files.specs.Days.{choice, date_of, flag_of}
use Rattle.table_files.specs.Frequencies.{headway_of}
use Rattle.table_files.specs.Places.{kind_of}

none_of : {A B : Type 0} (f : A → B) (o : Option A) → is_none (option_map f o) ≡ true → is_none o ≡ true
none_of f None h = refl
none_of f (Some x) h = cc h

-- a date that isn't one
pub no_date : (text : List ℕ) → is_none (date_of text) ≡ true → is_none (day_of text) ≡ true
no_date text bad = none_of _ (day_of text) bad

-- a type that is neither left out nor a number
pub no_kind : (text : List ℕ) → is_none (kind_of text) ≡ true → (not (is_empty text) && is_none (number_of text)) ≡ true
no_kind text bad = by (is_empty text) bad
  where
    by : (b : Bool) → is_none (if b then Some 0 else number_of text) ≡ true → (not b && is_none (number_of text)) ≡ true
    by true h = h
    by false h = h

-- a number that is none of two
pub no_choice : (off on : ℕ) (o : Option ℕ) → is_none (choice off on o) ≡ true → is_neither off on o ≡ true
no_choice off on None h = refl
no_choice off on (Some n) h = by (n == off) (n == on) h
  where
    by : (a b : Bool) → is_none (if a then Some false else if b then Some true else None) ≡ true →
        (not a && not b) ≡ true
    by true b k = cc k
    by false true k = cc k
    by false false k = refl

-- a headway that isn't one
pub no_headway : (text : List ℕ) → is_none (headway_of text) ≡ true → is_no_headway (number_of text) ≡ true
no_headway text bad = by (number_of text) bad
  where
    by : (o : Option ℕ) → is_none (option_and_then (λ n. if nat_le 1 n then Some n else None) o) ≡ true →
        is_no_headway o ≡ true
    by None h = refl
    by (Some zero) h = refl
    by (Some (suc m)) h = let some : nat_le 1 (suc m) ≡ true = le-leb 1 (suc m) (omega arith) in cc (rw some at h)

-- weekdays of which one is no flag
pub record HasNoFlag (texts : List (List ℕ)) : Type 0 where
  pub bad : is_none (days_of texts) ≡ true

-- it is the first of them, or one of the rest
pub one_flag : {P : Type 0} {text : List ℕ} {rest : List (List ℕ)} → HasNoFlag (text ∷ rest) →
    (is_neither 0 1 (number_of text) ≡ true → P) → (HasNoFlag rest → P) → P
one_flag {P = P} {text = text} {rest = rest} days here there =
    by (flag_of text) (λ bad. here (no_choice 0 1 (number_of text) bad)) days.bad
  where
    by : (o : Option Bool) → (is_none o ≡ true → P) →
        is_none (option_and_then (λ day. option_map (λ days. day ∷ days) (days_of rest)) o) ≡ true → P
    by None first b = first refl
    by (Some day) first b = there (record { bad = none_of _ (days_of rest) b })

pub no_day : {P : Type 0} → HasNoFlag [] → P
no_day days = cc (days.bad)
