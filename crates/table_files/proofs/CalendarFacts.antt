-- One more row of `calendar.txt`.
use Rattle.std.proofs.Common.{◌≡◌, ◌∙◌, ℕ, Bool, false, List, [], ◌∷◌, ◌++◌, length, Option, Some, None, refl, sym, ap}
use Rattle.std.proofs.lemmas.List.{map-append}
use Rattle.std.specs.Prelude.{option_map, unwrap_or, pos, unsigned_abs, ◌+ℤ◌, ℤ}
use Rattle.std.specs.List.{list_any}
use Rattle.std.specs.Str.{bytes_eq}
use Rattle.jiff.specs.Words.{epoch_day}
use Rattle.jiff_core.specs.declared.civil.date.Date.{Date}
use Rattle.table_records.specs.Fields.{day_of, is_empty}
use Rattle.table_files.specs.Calendar.{CalendarData, IsCalendar, ServiceRow, checks, data_of, days_of, services_of}
use Rattle.table_files.specs.Calendar.{shown}
use Rattle.table_files.specs.Days.{date_of, day_number}
use Rattle.table_files.specs.declared.calendar.Calendar.{Calendar}
use Rattle.table_files.specs.declared.calendar.CalendarRow.{CalendarRow}
use Rattle.table_files.proofs.ServiceFacts.{all_listed, number_new, values_stay}

-- a date as a number
pub date_is : (o : Option Date) (text : List ℕ) → option_map epoch_day o ≡ day_of text →
    option_map day_number o ≡ date_of text
date_is o text h = by o ∙ ap (λ (n : Option ℤ). option_map (λ z. unsigned_abs (z +ℤ pos 4371587)) n) h
  where
    by : (o : Option Date) → option_map day_number o
        ≡ option_map (λ z. unsigned_abs (z +ℤ pos 4371587)) (option_map epoch_day o)
    by None = refl
    by (Some d) = refl

-- the calendar with one more row
pub calendar_more : (a b : Calendar) (before : List ServiceRow) (r : ServiceRow) (row : CalendarRow) →
    IsCalendar a before → list_any (bytes_eq r.service) a.services ≡ false
    → b.services ≡ a.services ++ r.service ∷ [] → b.rows.items ≡ a.rows.items ++ row ∷ []
    → row.service ≡ length a.services → Some row.days ≡ days_of r.days → Some (day_number row.first) ≡ date_of r.first →
    Some (day_number row.last) ≡ date_of r.last
    → IsCalendar b (before ++ r ∷ [])
calendar_more a b before r row is new services rows number days first last =
    let all : b.services ≡ services_of (before ++ r ∷ []) =
    services ∙ rw (is.services, map-append (λ (x : ServiceRow). x.service) before (r ∷ [])) refl in
    let stay = values_stay (λ (x : ServiceRow). x.service)
    (λ (n : ℕ) (x : ServiceRow). record {
      service = n;
      days = unwrap_or (days_of x.days) [];
      first = unwrap_or (date_of x.first) 0;
      last = unwrap_or (date_of x.last) 0;
    })
    a.services (r.service ∷ []) before (rw is.services (all_listed (λ (x : ServiceRow). x.service) [] before)) in
    let here : shown row ≡ data_of b.services r =
    rw (services, number_new a.services r.service new, ← days, ← first, ← last, number) refl in
    record {
      services = all;
      values = rw (
        rows,
        map-append shown a.rows.items (row ∷ []),
        map-append (data_of b.services) before (r ∷ []),
        ← here,
        is.values,
      ) (rw services (ap (λ (l : List CalendarData). l ++ shown row ∷ []) (sym stay)));
    }

pub no_fault : (before : List ServiceRow) (r : ServiceRow) (days : List Bool) (first last : ℕ) →
    is_empty r.service ≡ false → list_any (bytes_eq r.service) (services_of before) ≡ false
    → Some days ≡ days_of r.days → Some first ≡ date_of r.first → Some last ≡ date_of r.last → checks before r ≡ []
no_fault before r days first last some new d f l = rw (some, new, ← d, ← f, ← l) refl
