-- Change times with one row more, and with one stop more.
use Rattle.std.proofs.Common.{◌≡◌, ◌∙◌, ◌||◌, ◌++◌, ◌==◌, ◌+◌, ◌<◌, ◌≤◌, ℕ, Bool, true, false, List, [], ◌∷◌, inl, inr}
use Rattle.std.proofs.Common.{length, map, filter, take, set, get_or, max, min, replicate, refl, sym, ap, arith}
use Rattle.std.proofs.Common.{if◌then◌else◌}
use Rattle.std.specs.Prelude.{All}
use Rattle.std.specs.List.{range_with_len}
use Rattle.std.proofs.lemmas.Bool.{cases_eq}
use Rattle.std.proofs.lemmas.Bool.Decides.{nat_tests}
use Rattle.std.proofs.lemmas.List.{append-nil, ext_get_or, get_or-map, get_or-replicate, length-replicate}
use Rattle.std.proofs.lemmas.List.{get_or-set_other, get_or-set_same, length-set, map-append, take_all, take_more}
use Rattle.std.proofs.lemmas.List.Elements.{All-map, filter-append}
use Rattle.std.proofs.lemmas.List.Folds.{list_any-append}
use Rattle.std.proofs.lemmas.List.FromFn.{get_or-range_with_len, length-map-range_with_len, length-range_with_len}
use Rattle.timetable.specs.declared.trips.StopNo.{StopNo}
use Rattle.timetable.specs.declared.limits.TheConstants.{MOST_CHANGE_SECONDS}
use Rattle.table_files.specs.declared.transfers.Link.{Link}
use Rattle.table_files.specs.Children.{stops_at}
use Rattle.table_files.specs.Transfers.{changes_at}
use Rattle.gtfs_tables.specs.Feed.{FeedData}
use Rattle.footpaths.specs.Changes.{change_of, change_times, greatest, has_stop, is_stated_for, longer, stated_for}

-- the greatest, with one time more
greatest_push : (times : List ℕ) (time : ℕ) → greatest (times ++ time ∷ []) ≡ max (greatest times) time
greatest_push [] time = omega arith
greatest_push (first ∷ times) time = let rest = greatest_push times time in omega (arith, rest)

-- the change time, with one row more
change_push : (children : List (List StopNo)) (links : List Link) (link : Link) (p : ℕ)
    → change_of children (links ++ link ∷ []) p
    ≡ longer (is_stated_for children p link) (change_of children links p) (min link.seconds MOST_CHANGE_SECONDS)
change_push children links link p =
    ap (λ (times : List ℕ). min (greatest times) MOST_CHANGE_SECONDS) parts ∙ by (is_stated_for children p link)
  where
    seconds : Link → ℕ
    seconds = λ x. x.seconds

    parts : stated_for children (links ++ link ∷ []) p
        ≡ stated_for children links p ++ map (λ (x : Link). x.seconds) (filter (is_stated_for children p) (link ∷ []))
    parts =
        ap (map (λ (x : Link). x.seconds)) (filter-append (is_stated_for children p) links (link ∷ []))
        ∙ map-append (λ (x : Link). x.seconds) (filter (is_stated_for children p) links)
        (filter (is_stated_for children p) (link ∷ []))

    by : (b : Bool) → min (greatest (stated_for children links p ++ map (λ (x : Link). x.seconds)
        (if b then link ∷ [] else []))) MOST_CHANGE_SECONDS
        ≡ longer b (change_of children links p) (min link.seconds MOST_CHANGE_SECONDS)
    by true = let e = greatest_push (stated_for children links p) link.seconds in omega (arith, e)
    by false = ap (λ (times : List ℕ). min (greatest times) MOST_CHANGE_SECONDS)
        (append-nil (stated_for children links p))

pub change_more : (children : List (List StopNo)) (links : List Link) (i : ℕ) (d : Link) (p : ℕ) → i < length links
    → change_of children (take (i + 1) links) p
    ≡ longer (is_stated_for children p (get_or links i d)) (change_of children (take i links) p)
    (min (get_or links i d).seconds MOST_CHANGE_SECONDS)
change_more children links i d p within =
    ap (λ (l : List Link). change_of children l p) (take_more links i d within)
    ∙ change_push children (take i links) (get_or links i d) p

-- no stop, and then one of two lists
merged : (b t : Bool) (time other : ℕ) → longer (b || (t || false)) time other ≡ longer t (longer b time other) other
merged true true time other = omega arith
merged true false time other = refl
merged false true time other = refl
merged false false time other = refl

-- one stop is raised
raised_at : (now : List ℕ) (q seconds p : ℕ) → p < length now →
    get_or (set now q (max (get_or now q 0) seconds)) p 0 ≡ longer (q == p) (get_or now p 0) seconds
raised_at now q seconds p within = elim (cases_eq p q) [
  | inl e ↦
      let yes : (q == p) ≡ true = grind (arith, nat_tests, e) in
      let room : q < length now = omega (arith, e, within) in
      rw (yes, e) (get_or-set_same now q (max (get_or now q 0) seconds) 0 room)
  | inr d ↦
      let no : (q == p) ≡ false = grind (arith, nat_tests, d) in
      rw no (get_or-set_other now q p (max (get_or now q 0) seconds) 0 d)
]

-- the change times of the first stops of a list are raised, and then that of the next one
pub raised_more : (old now : List ℕ) (stops : List StopNo) (i : ℕ) (d : StopNo) (seconds : ℕ) → i < length stops
    → ((p : ℕ) → p < length now → get_or now p 0 ≡ longer (has_stop p (take i stops)) (get_or old p 0) seconds)
    → (p : ℕ) → p < length now → get_or (set now (get_or stops i d).0 (max (get_or now (get_or stops i d).0 0) seconds))
    p 0 ≡ longer (has_stop p (take (i + 1) stops)) (get_or old p 0) seconds
raised_more old now stops i d seconds here before p within =
    let x = get_or stops i d in
    let one : has_stop p (take (i + 1) stops) ≡ (has_stop p (take i stops) || ((x.0 == p) || false)) =
    ap (has_stop p) (take_more stops i d here) ∙ list_any-append (λ (y : StopNo). y.0 == p) (take i stops) (x ∷ []) in
    raised_at now x.0 seconds p within
    ∙ ap (λ (time : ℕ). longer (x.0 == p) time seconds) (before p within)
    ∙ sym (merged (has_stop p (take i stops)) (x.0 == p) (get_or old p 0) seconds)
    ∙ sym (ap (λ (b : Bool). longer b (get_or old p 0) seconds) one)

-- no change takes too long
pub changes_short : (feed : FeedData) → All (λ seconds. seconds ≤ MOST_CHANGE_SECONDS) (change_times feed)
changes_short feed = All-map (λ seconds. seconds
    ≤ MOST_CHANGE_SECONDS) (change_of feed.children feed.links) (range_with_len 0 (length feed.stops))
    (λ k d lt. omega arith)

pub changes_each : (feed : FeedData) → length (change_times feed) ≡ length feed.stops
changes_each feed = length-map-range_with_len (change_of feed.children feed.links) 0 (length feed.stops)

-- the change times of all rows
pub changes_all : (feed : FeedData) (i : ℕ) (changes : List ℕ) → length feed.links ≤ i →
    length changes ≡ length feed.stops
    → ((p : ℕ) → p < length changes → get_or changes p 0 ≡ change_of feed.children (take i feed.links) p) →
    changes ≡ change_times feed
changes_all feed i changes past each are =
    let f = change_of feed.children feed.links in
    ext_get_or 0 changes (change_times feed) (each ∙ sym (changes_each feed)) (λ p within.
    let below : p < length feed.stops = omega (arith, each, within) in
    let long = length-range_with_len 0 (length feed.stops) in
    let number : get_or (range_with_len 0 (length feed.stops)) p 0 ≡ p = let e =
    get_or-range_with_len 0 (length feed.stops) p 0 below in omega (arith, e) in
    are p within
    ∙ ap (λ (l : List Link). change_of feed.children l p) (take_all i feed.links past)
    ∙ sym (get_or-map f (range_with_len 0 (length feed.stops)) p 0 0 (omega (arith, long, below)) ∙ ap f number))

-- the positions of a list stay when an element is set
pub set_within : (now : List ℕ) (q time p : ℕ) → p < length (set now q time) → p < length now
set_within now q time p within = let same = length-set now q time in omega (arith, same, within)

-- the stops that a link states a change time for
pub change_stops : (children : List (List StopNo)) (link : Link) → link.changes ≡ true →
    changes_at children link ≡ stops_at link.origin children
change_stops children link states = rw states refl

pub no_change_stops : (children : List (List StopNo)) (link : Link) → link.changes ≡ false →
    changes_at children link ≡ []
no_change_stops children link none = rw none refl

-- no times yet
pub none_yet : (n : ℕ) (changes : List ℕ) → changes ≡ replicate n 0 → (p : ℕ) → p < length changes →
    get_or changes p 0 ≡ 0
none_yet n changes is p within =
    let long = length-replicate {A = ℕ} n 0 in
    let below : p < n = let same = ap length is in omega (arith, same, long, within) in
    rw is (get_or-replicate {A = ℕ} n p 0 0 below)
