-- One more record of `transfers.txt`.
use Rattle.std.proofs.Common.{◌≡◌, ◌+◌, ◌∙◌, ◌++◌, ℕ, Bool, true, false, List, [], ◌∷◌, length, Option, Some, None}
use Rattle.std.proofs.Common.{position, arith, refl, sym, ap, subst, if◌then◌else◌, map, ◌≤◌}
use Rattle.std.specs.Prelude.{◌&&◌, ◌==◌, All, nat_le, option_and_then, slice_get, unwrap_or}
use Rattle.std.specs.List.{cons_option, enumerate_from, filter_map}
use Rattle.std.specs.Str.{bytes_eq}
use Rattle.std.proofs.lemmas.List.{append-nil, length-append}
use Rattle.std.proofs.lemmas.List.Elements.{All-cons, All-nil, filter_map-append}
use Rattle.std.proofs.lemmas.Option.{get_or_from_slice_get, slice_get_within}
use Rattle.table_records.specs.Reading.{table_rows}
use Rattle.table_records.specs.Table.{Gives, records_of}
use Rattle.table_records.specs.declared.limits.TheConstants.{MOST_BYTES}
use Rattle.table_records.proofs.ReadingFacts.{few_records}
use Rattle.table_files.specs.declared.transfers.Link.{Link}
use Rattle.table_files.specs.declared.transfers.Transfers.{Transfers}
use Rattle.table_files.specs.declared.place.Place.{Place}
use Rattle.table_files.specs.declared.place.Place.TheVariants.{Other}
use Rattle.table_files.specs.Children.{IsPlace}
use Rattle.table_files.specs.Places.{ArePlaces, PlaceData, kind_of}
use Rattle.table_files.specs.Transfers.{AreTransfers, IsLink, Takes, TransferRow, checks, end_of, gives_any, is_change}
use Rattle.table_files.specs.Transfers.{is_general, is_used, is_whole, link_at, link_of, links_of, row_of, unused_of}
use Rattle.table_files.specs.Transfers.{used_checks}
use Rattle.table_files.proofs.ChildrenFacts.{enumerate_from-append}

-- the links with one more row
links_push : (places : PlaceData) (before : List TransferRow) (r : TransferRow) (at : ℕ) → at ≡ length before + 2
    → links_of places (before ++ r ∷ []) ≡ links_of places before ++ filter_map
    (λ (x : ℕ × TransferRow). link_of places x.0 x.1) ((at, r) ∷ [])
links_push places before r at is =
    let here : 2 + length before ≡ at = omega (arith, is) in
    let link : ℕ × TransferRow → Option Link = λ x. link_of places x.0 x.1 in
    ap (filter_map link) (enumerate_from-append 2 before (r ∷ []))
    ∙ filter_map-append link (enumerate_from 2 before) ((2 + length before, r) ∷ [])
    ∙ (λ k. links_of places before ++ filter_map link ((here k, r) ∷ []))

pub transfers_more : (places : PlaceData) (a b : Transfers) (before : List TransferRow) (r : TransferRow) (at : ℕ)
    (link : Option Link) → at ≡ length before + 2 → link ≡ link_of places at r
    → Takes link a b → AreTransfers places a before → AreTransfers places b (before ++ r ∷ [])
transfers_more places a b before r at (Some link) number is (links, unused) are = record {
  links = links ∙ ap (λ (l : List Link). l ++ link ∷ []) are.links
      ∙ sym (links_push places before r at number ∙ rw (← is) refl);
  unused = omega (
    arith,
    links,
    unused,
    are.unused,
    ap length links,
    length-append a.links.items (link ∷ []),
    length-append before (r ∷ []),
  );
}
transfers_more places a b before r at None number is (links, unused) are = record {
  links = links ∙ are.links ∙ sym (links_push places before r at number
      ∙ rw (← is) (append-nil (links_of places before)));
  unused = omega (arith, unused, are.unused, ap length links, length-append before (r ∷ []));
}

-- the rows that give no link
pub count_unused : (places : PlaceData) (t : Transfers) (rows : List TransferRow) →
    AreTransfers places t rows → t.unused ≡ unused_of places rows
count_unused places t rows are = omega (arith, are.unused, ap length are.links)

-- an end is a place of the feed, or stands for no stop
end_in_range : (places : PlaceData) (id : List ℕ) → ArePlaces places →
    IsPlace (length places.stops) (length places.stations) (end_of places.names places.places id)
end_in_range places id are = by (position (bytes_eq id) places.names)
  where
    at : (o : Option Place) (n : ℕ) → slice_get places.places n ≡ o →
        IsPlace (length places.stops) (length places.stations) (unwrap_or o Other)
    at None n e = tt
    at (Some place) n e =
        let in_range : Place → Type 0 = IsPlace (length places.stops) (length places.stations) in
        subst in_range (get_or_from_slice_get places.places n place Other e)
        (are.in_range n Other (slice_get_within places.places n place e))

    by : (o : Option ℕ) → IsPlace (length places.stops) (length places.stations)
        (unwrap_or (option_and_then (slice_get places.places) o) Other)
    by None = tt
    by (Some n) = at (slice_get places.places n) n refl

links_from : (places : PlaceData) → ArePlaces places → (rows : List (ℕ × TransferRow))
    → All (IsLink (length places.stops) (length places.stations))
    (filter_map (λ (x : ℕ × TransferRow). link_of places x.0 x.1) rows)
links_from places are [] = All-nil (IsLink (length places.stops) (length places.stations))
links_from places are ((at, r) ∷ rows) =
    by (is_used r && gives_any places.children (link_at places at r)) (links_from places are rows)
  where
    by : (b : Bool) → All (IsLink (length places.stops) (length places.stations))
        (filter_map (λ (x : ℕ × TransferRow). link_of places x.0 x.1) rows)
        → All (IsLink (length places.stops) (length places.stations))
        (cons_option (if b then Some (link_at places at r) else None)
        (filter_map (λ (x : ℕ × TransferRow). link_of places x.0 x.1) rows))
    by true rest =
        All-cons (IsLink (length places.stops) (length places.stations)) (link_at places at r) _
        (record { origin = end_in_range places r.from are; target = end_in_range places r.to are }) rest
    by false rest = rest

-- the ends of all links are places of the feed
pub links_in_range : (places : PlaceData) (rows : List TransferRow) (links : List Link) → ArePlaces places →
    links ≡ links_of places rows
    → All (IsLink (length places.stops) (length places.stations)) links
links_in_range places rows links are is = rw is (links_from places are (enumerate_from 2 rows))

-- the rows behind a header, or none where there is no header
pub rows_after : (records rest : List (List (List ℕ))) (found : Bool) (fields : List (List ℕ)) →
    Gives records found fields rest → table_rows row_of records ≡ map (row_of fields) rest
rows_after [] rest found fields g = rw (g.1) refl
rows_after (r ∷ rs) rest found fields g = λ k. map (row_of (sym g.1 k)) (sym g.2 k)

pub few_after : (bytes : List ℕ) (records rest : List (List (List ℕ))) (found : Bool) (fields : List (List ℕ)) →
    records ≡ records_of bytes → length bytes ≤ MOST_BYTES → Gives records found fields rest
    → length rest ≤ MOST_BYTES
few_after bytes [] rest found fields is few g = rw (g.1) (omega arith)
few_after bytes (r ∷ rs) rest found fields is few g = rw (g.2) (few_records bytes r rs (sym is) few)

-- what a row of a type gives
module _ (places : PlaceData) (names : List (List ℕ)) (at : ℕ) (r : TransferRow) (kind : ℕ) (of : Some kind
    ≡ kind_of r.kind) where
  pub used_by : is_used r ≡ (nat_le kind 2 && is_general r && is_whole r)
  used_by = rw (← of) refl

  pub change_by : is_change r ≡ ((kind == 2) && bytes_eq r.from r.to)
  change_by = rw (← of) refl

  -- none where the row is not used
  pub skips : is_used r ≡ false → (checks names [] r ≡ []) × (None ≡ link_of places at r)
  skips unused = (rw (unused, ← of) refl, rw unused refl)

  -- and otherwise the link, if it gives a pair
  module _ (used : is_used r ≡ true) where
    pub checks_used : checks names [] r ≡ used_checks names r
    checks_used = rw (used, ← of) refl

    pub gives : (link : Link) (b : Bool) → used_checks names r ≡ [] → link ≡ link_at places at r →
        b ≡ gives_any places.children link
        → (checks names [] r ≡ []) × ((if b then Some link else None) ≡ link_of places at r)
    gives link b none is pair =
        let here : gives_any places.children (link_at places at r) ≡ b =
        ap (gives_any places.children) (sym is) ∙ sym pair in
        (checks_used ∙ none, rw (used, here) (ap (λ (x : Link). if b then Some x else None) is))
