-- One more row of `calendar_dates.txt`.
use Rattle.std.proofs.Common.{◌≡◌, ◌∙◌, ℕ, Bool, false, List, [], ◌∷◌, ◌++◌, map, Some, refl, sym, ap}
use Rattle.std.proofs.lemmas.List.{map-append}
use Rattle.std.specs.Prelude.{unwrap_or}
use Rattle.table_records.specs.Fields.{is_empty}
use Rattle.table_files.specs.CalendarDates.{AreExceptions, DateRow, checks, data_of, shown}
use Rattle.table_files.specs.Days.{adds_of, date_of, day_number}
use Rattle.table_records.specs.Identifiers.{number_in}
use Rattle.table_files.specs.Services.{named}
use Rattle.table_files.specs.declared.calendar_dates.CalendarDates.{CalendarDates}
use Rattle.table_files.specs.declared.calendar_dates.ExceptionRow.{ExceptionRow}
use Rattle.table_files.proofs.ServiceFacts.{named-append, values_stay_named}

-- the exceptions with one more row
pub exceptions_more : (known : List (List ℕ)) (a b : CalendarDates) (before : List DateRow) (r : DateRow)
    (row : ExceptionRow) → AreExceptions known a before
    → b.services ≡ named a.services (r.service ∷ []) → b.rows.items ≡ a.rows.items ++ row ∷ []
    → row.service ≡ number_in b.services r.service → Some (day_number row.date) ≡ date_of r.date →
    Some row.adds ≡ adds_of r.kind
    → AreExceptions known b (before ++ r ∷ [])
exceptions_more known a b before r row is services rows number date adds =
    let before_ids : List (List ℕ) = map (λ (x : DateRow). x.service) before in
    let all : b.services ≡ named (named known before_ids) (r.service ∷ []) =
    services ∙ ap (λ (l : List (List ℕ)). named l (r.service ∷ [])) is.services in
    let stay = values_stay_named (λ (x : DateRow). x.service)
    (λ (n : ℕ) (x : DateRow). record {
      service = n;
      date = unwrap_or (date_of x.date) 0;
      adds = unwrap_or (adds_of x.kind) false;
    })
    known before r.service in
    let old : map shown a.rows.items ≡ map (data_of (named known before_ids)) before =
    is.values ∙ ap (λ (l : List (List ℕ)). map (data_of l) before) is.services in
    let here : shown row ≡ data_of b.services r = rw (number, ← date, ← adds) refl in
    let kept : map shown a.rows.items ≡ map (data_of b.services) before =
    old ∙ sym stay ∙ ap (λ (l : List (List ℕ)). map (data_of l) before) (sym all) in
    record {
      services = all ∙ sym (named-append known before_ids (r.service ∷ []))
          ∙ ap (named known) (sym (map-append (λ (x : DateRow). x.service) before (r ∷ [])));
      values = rw (
        rows,
        map-append shown a.rows.items (row ∷ []),
        map-append (data_of b.services) before (r ∷ []),
      ) (λ k. kept k ++ here k ∷ []);
    }

pub no_fault : (before : List DateRow) (r : DateRow) (date : ℕ) (adds : Bool) → is_empty r.service ≡ false →
    Some date ≡ date_of r.date → Some adds ≡ adds_of r.kind → checks before r ≡ []
no_fault before r date adds some d a = rw (some, ← d, ← a) refl
