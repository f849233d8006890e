-- What the records of a file that names stops make, with one record more.
use Rattle.std.proofs.Common.{◌≡◌, ◌∙◌, ◌||◌, ℕ, zero, suc, Bool, true, false, List, [], ◌∷◌, ◌++◌, Some, length, map}
use Rattle.std.proofs.Common.{replicate, set, slice_get, refl, sym, ap, subst, if◌then◌else◌}
use Rattle.std.proofs.lemmas.List.{map-append}
use Rattle.std.proofs.lemmas.Simd.{splat_is_map}
use Rattle.std.specs.Prelude.{find, is_none, option_map, unwrap_or}
use Rattle.std.specs.List.{AllByRecursion, IsDistinct, list_any}
use Rattle.std.specs.Str.{bytes_eq}
use Rattle.table_files.proofs.ServiceFacts.{same_text}
use Rattle.table_records.specs.Faults.{IsFirst}
use Rattle.table_records.specs.declared.fault.What.{What}
use Rattle.table_records.specs.declared.fault.What.TheVariants as what
use Rattle.table_records.specs.Fields.{number_of}
use Rattle.table_records.specs.Identifiers.{number_in}
use Rattle.timetable.specs.declared.trips.StopNo.{StopNo}
use Rattle.gtfs_tables.specs.NamedStops.{AreMarked, AreNamed, NamedRow, at_stop, checks, count_of, named_stop}
use Rattle.gtfs_tables.specs.NamedStops.{stop_checks, stops_named}
use Rattle.gtfs_tables.specs.declared.named_stops.NamedList.{NamedList}
use Rattle.gtfs_tables.proofs.MarkFacts.{first_more, found_stop}
use Rattle.gtfs_tables.proofs.NumbersLeadBack.{differs, flipped}

-- a stop that the new record doesn't name keeps its number
kept_at : (rows : List NamedRow) (r : NamedRow) (id : List ℕ) → bytes_eq id r.stop ≡ false →
    at_stop (rows ++ r ∷ []) id ≡ at_stop rows id
kept_at [] r id other = rw other refl
kept_at (x ∷ rows) r id other = by (bytes_eq id x.stop) (kept_at rows r id other)
  where
    by : (b : Bool) → at_stop (rows ++ r ∷ []) id ≡ at_stop rows id
        → unwrap_or (option_map count_of (if b then Some x else find (λ y. bytes_eq id y.stop) (rows ++ r ∷ []))) 0
        ≡ unwrap_or (option_map count_of (if b then Some x else find (λ y. bytes_eq id y.stop) rows)) 0
    by true e = refl
    by false e = e

-- the stop that it names, and no record before it, gets its number
put_at : (rows : List NamedRow) (r : NamedRow) → list_any (bytes_eq r.stop) (stops_named rows) ≡ false →
    at_stop (rows ++ r ∷ []) r.stop ≡ count_of r
put_at [] r new = rw (same_text r.stop) refl
put_at (x ∷ rows) r new = by (bytes_eq r.stop x.stop) new (λ e. put_at rows r e)
  where
    by : (b : Bool) → (b || list_any (bytes_eq r.stop) (stops_named rows)) ≡ false →
        (list_any (bytes_eq r.stop) (stops_named rows) ≡ false → at_stop (rows ++ r ∷ []) r.stop ≡ count_of r)
        → unwrap_or (option_map count_of (if b then Some x else find (λ y. bytes_eq r.stop y.stop) (rows ++ r ∷ []))) 0
        ≡ count_of r
    by true e more = cc e
    by false e more = more e

-- stops that all differ from the one that is named keep their numbers
others_keep : (rows : List NamedRow) (r : NamedRow) (stops : List (List ℕ)) →
    AllByRecursion (λ y. bytes_eq r.stop y ≡ false) stops →
    map (at_stop rows) stops ≡ map (at_stop (rows ++ r ∷ [])) stops
others_keep rows r [] all = refl
others_keep rows r (x ∷ stops) all = λ k. sym (kept_at rows r x (flipped r.stop x all.0)) k ∷ others_keep rows r stops
    all.1 k

-- the numbers of all stops, with one written
pub counts_more : (rows : List NamedRow) (r : NamedRow) (stops : List (List ℕ)) (n : ℕ) → IsDistinct bytes_eq stops →
    slice_get stops n ≡ Some r.stop
    → list_any (bytes_eq r.stop) (stops_named rows) ≡ false →
    set (map (at_stop rows) stops) n (count_of r) ≡ map (at_stop (rows ++ r ∷ [])) stops
unfolding IsDistinct
counts_more rows r [] n apart at new = cc at
counts_more rows r (x ∷ stops) zero apart at new =
    let is : x ≡ r.stop = cc at in
    let here : count_of r ≡ at_stop (rows ++ r ∷ []) x =
    sym (put_at rows r new) ∙ ap (at_stop (rows ++ r ∷ [])) (sym is) in
    let rest : map (at_stop rows) stops ≡ map (at_stop (rows ++ r ∷ [])) stops =
    others_keep rows r stops (rw is at apart.0) in
    λ k. here k ∷ rest k
counts_more rows r (x ∷ stops) (suc n) apart at new =
    let other : bytes_eq x r.stop ≡ false = differs x stops n r.stop apart.0 at in
    let rest = counts_more rows r stops n apart.1 at new in
    λ k. sym (kept_at rows r x other) k ∷ rest k

-- the records, with one more
pub named_more : (stops : List (List ℕ)) (a b : NamedList) (rows : List NamedRow) (r : NamedRow) (s : StopNo) →
    IsDistinct bytes_eq stops → AreNamed stops a rows
    → AreMarked stops b.named.marks.items (stops_named rows ++ r.stop ∷ []) → b.stops.items ≡ a.stops.items ++ s ∷ [] →
    b.counts.items ≡ set a.counts.items s.0 (count_of r)
    → stop_checks stops (stops_named rows) r.stop ≡ [] → s.0 ≡ number_in stops r.stop →
    AreNamed stops b (rows ++ r ∷ [])
named_more stops a b rows r s apart are marked added written none number =
    let (here, new) = found_stop stops (stops_named rows) r.stop s.0 none number in
    record {
      marked = subst (AreMarked stops b.named.marks.items) (sym (map-append (λ (x : NamedRow). x.stop) rows (r ∷ [])))
          marked;
      stops_are = added ∙ (λ k. are.stops_are k ++ record { 0 = number k } ∷ [])
          ∙ sym (map-append (named_stop stops) rows (r ∷ []));
      counts_are = written ∙ ap (λ (l : List ℕ). set l s.0 (count_of r)) are.counts_are
          ∙ counts_more rows r stops s.0 apart here new;
    }

-- no records yet
pub none_named : (stops : List (List ℕ)) (table : NamedList) → AreMarked stops table.named.marks.items [] →
    table.stops.items ≡ [] → table.counts.items ≡ replicate (length stops) 0 → AreNamed stops table []
none_named stops table marked no_stops zeros =
    record { marked = marked; stops_are = no_stops; counts_are = zeros ∙ splat_is_map stops (length stops) 0 refl }

module _ (stops : List (List ℕ)) (rows : List NamedRow) (r : NamedRow) where
  -- the first fault of a record's stop
  pub stop_told : (b : Bool) (w : What) → IsFirst w (stop_checks stops (stops_named rows) r.stop) →
      IsFirst w (checks b stops rows r)
  stop_told false w first = first
  stop_told true w first = first_more w (stop_checks stops (stops_named rows) r.stop) _ first

  module _ (none : stop_checks stops (stops_named rows) r.stop ≡ []) where
    -- a count that is no number
    pub no_number : (b : Bool) → b ≡ true → is_none (number_of r.count) ≡ true →
        IsFirst what.BadNumber (checks b stops rows r)
    no_number false counted bad = cc counted
    no_number true counted bad = rw (none, bad) refl

    -- a record without fault
    pub no_fault : (b : Bool) → (b ≡ true → is_none (number_of r.count) ≡ false) → checks b stops rows r ≡ []
    no_fault false good = none
    no_fault true good = rw (none, good refl) refl
