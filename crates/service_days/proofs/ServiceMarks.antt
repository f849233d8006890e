-- Marks of the services that run on a day, row by row.
use Rattle.std.proofs.Common.{◌≡◌, ◌<◌, ◌+◌, ◌==◌, ◌&&◌, ◌||◌, ◌∙◌, if◌then◌else◌, ℕ, Bool, true, false, not, List}
use Rattle.std.proofs.Common.{length, map, take, get_or, refl, sym, ap}
use Rattle.std.specs.List.{list_any}
use Rattle.std.proofs.lemmas.List.Folds.{list_any_more}
use Rattle.std.proofs.lemmas.Bool.{or_right, and_right}
use Rattle.table_records.proofs.MappedTests.{list_any-map}
use Rattle.table_files.specs.declared.calendar.CalendarRow.{CalendarRow}
use Rattle.table_files.specs.declared.calendar_dates.ExceptionRow.{ExceptionRow}
use Rattle.gtfs_tables.specs.Feed.{FeedData, calendar_data, exception_data}
use Rattle.service_days.specs.Services.{adds, removes, schedules}

-- what the rows of a feed say of a service on a day
module _ (feed : FeedData) (service day n : ℕ) (same : n ≡ day) where
  pub added_by_rows : (exceptions : List ExceptionRow) → map exception_data exceptions ≡ feed.exceptions → (a : Bool)
      → a ≡ list_any (λ r. adds service n (exception_data r)) exceptions →
      a ≡ list_any (adds service day) feed.exceptions
  added_by_rows exceptions e a h = h ∙ sym (list_any-map exception_data (adds service n) exceptions)
      ∙ (λ k. list_any (adds service (same k)) (e k))

  pub removed_by_rows : (exceptions : List ExceptionRow) → map exception_data exceptions ≡ feed.exceptions → (a : Bool)
      → a ≡ list_any (λ r. removes service n (exception_data r)) exceptions →
      a ≡ list_any (removes service day) feed.exceptions
  removed_by_rows exceptions e a h = h ∙ sym (list_any-map exception_data (removes service n) exceptions)
      ∙ (λ k. list_any (removes service (same k)) (e k))

  pub scheduled_by_rows : (calendar : List CalendarRow) → map calendar_data calendar ≡ feed.calendar → (a : Bool)
      → a ≡ list_any (λ r. schedules service n (calendar_data r)) calendar →
      a ≡ list_any (schedules service day) feed.calendar
  scheduled_by_rows calendar e a h = h ∙ sym (list_any-map calendar_data (schedules service n) calendar)
      ∙ (λ k. list_any (schedules service (same k)) (e k))

-- marked where scheduled, unmarked where removed, marked where added
marks_are_runs : (a s r before last : Bool) → before ≡ false → last ≡ (((before || s) && not r) || a) →
    last ≡ (a || (s && not r))
marks_are_runs true s r before last h e = rw h at e ∙ or_right ((false || s) && not r) true refl
marks_are_runs false s r before last h e = rw h at e ∙ last_false ((false || s) && not r)
  where
    last_false : (b : Bool) → (b || false) ≡ b
    last_false true = refl
    last_false false = refl

pub marked_in_turn : (a s r start x y z : Bool) (da ds dr : Bool) → start ≡ false → x ≡ (start || ds) →
    y ≡ (x && not dr) → z ≡ (y || da)
    → ds ≡ s → dr ≡ r → da ≡ a → z ≡ (a || (s && not r))
marked_in_turn a s r start x y z da ds dr none first second third es er ea =
    marks_are_runs a s r start z none (third ∙ (λ k. second k || ea k) ∙ (λ k. (first k && not (er k)) || a)
    ∙ (λ k. ((start || es k) && not r) || a))

or_true : (a b : Bool) → true ≡ (a || (b || true))
or_true true b = refl
or_true false true = refl
or_true false false = refl

or_false : (a b : Bool) → (a || b) ≡ (a || (b || false))
or_false true b = refl
or_false false true = refl
or_false false false = refl

and_true : (a b : Bool) → false ≡ (a && not (b || true))
and_true false b = refl
and_true true true = refl
and_true true false = refl

and_false : (a b : Bool) → (a && not b) ≡ (a && not (b || false))
and_false false b = refl
and_false true true = refl
and_false true false = refl

-- a mark is set, or kept, by one row more
set_or : (here start before : Bool) → (if here then true else (start || before)) ≡ (start || (before || (here && true)))
set_or true start before = or_true start before
set_or false start before = or_false start before

clear_and : (here start before : Bool) →
    (if here then false else (start && not before)) ≡ (start && not (before || (here && true)))
clear_and true start before = and_true start before
clear_and false start before = and_false start before

-- one more row is looked at, which is of a service and says something of it or nothing
module _ {A : Type 0} (of : A → ℕ) (says : A →
    Bool) (rows : List A) (i : ℕ) (x : A) (lt : i < length rows) (is : x ≡ get_or rows i x) (s : ℕ) where
  abbrev before : Bool
  before = list_any (λ r. (of r == s) && says r) (take i rows)

  more : list_any (λ r. (of r == s) && says r) (take (i + 1) rows) ≡ (before || ((of x == s) && says x))
  more = list_any_more (λ r. (of r == s) && says r) rows i x lt ∙ ap (λ r. before || ((of r == s) && says r)) (sym is)

  said : says x ≡ true → list_any (λ r. (of r == s) && says r) (take (i + 1) rows) ≡ (before || ((of x == s) && true))
  said h = more ∙ ap (λ b. before || ((of x == s) && b)) h

  silent : says x ≡ false → list_any (λ r. (of r == s) && says r) (take (i + 1) rows) ≡ (before || false)
  silent h = more ∙ ap (λ b. before || ((of x == s) && b)) h ∙ ap (λ b. before || b) (and_right (of x == s) false refl)

  pub marked : (start old new : Bool) → says x ≡ true → new ≡ (if of x == s then true else old)
      → old ≡ (start || list_any (λ r. (of r == s) && says r) (take i rows))
      → new ≡ (start || list_any (λ r. (of r == s) && says r) (take (i + 1) rows))
  marked start old new h step so =
      step ∙ ap (λ o. if of x == s then true else o) so ∙ set_or (of x == s) start before
      ∙ ap (λ b. start || b) (sym (said h))

  pub still_marked : (start old : Bool) → says x ≡ false
      → old ≡ (start || list_any (λ r. (of r == s) && says r) (take i rows))
      → old ≡ (start || list_any (λ r. (of r == s) && says r) (take (i + 1) rows))
  still_marked start old h so = so ∙ or_false start before ∙ ap (λ b. start || b) (sym (silent h))

  pub unmarked : (start old new : Bool) → says x ≡ true → new ≡ (if of x == s then false else old)
      → old ≡ (start && not (list_any (λ r. (of r == s) && says r) (take i rows)))
      → new ≡ (start && not (list_any (λ r. (of r == s) && says r) (take (i + 1) rows)))
  unmarked start old new h step so =
      step ∙ ap (λ o. if of x == s then false else o) so ∙ clear_and (of x == s) start before
      ∙ ap (λ b. start && not b) (sym (said h))

  pub still_unmarked : (start old : Bool) → says x ≡ false
      → old ≡ (start && not (list_any (λ r. (of r == s) && says r) (take i rows)))
      → old ≡ (start && not (list_any (λ r. (of r == s) && says r) (take (i + 1) rows)))
  still_unmarked start old h so = so ∙ and_false start before ∙ ap (λ b. start && not b) (sym (silent h))
