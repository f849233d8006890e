-- What every run of a book and a collector keeps to.
use Rattle.std.proofs.Common.{◌≡◌, ◌<◌, ◌+◌, ◌*◌, ◌==◌, ℕ, zero, suc, Bool, true, false, cond, List, [], ◌∷◌, Option}
use Rattle.std.proofs.Common.{Some, None, length, get_or, replicate, map, refl, sym, ap, ◌∙◌, subst, arith, nat_lt}
use Rattle.std.proofs.Common.{if◌then◌else◌}
use Rattle.std.specs.List.{find, slice_get, All}
use Rattle.std.specs.Option.{option_or}
use Rattle.std.proofs.lemmas.List.{length-replicate}
use Rattle.std.proofs.lemmas.List.Elements.{All-nil, All-cons, All-head, All-tail}
use Rattle.std.proofs.lemmas.Bool.{and_parts, eqb-true}
use Rattle.std.proofs.lemmas.Bool.Decides.{nat_tests}
use Rattle.std.proofs.lemmas.Nat.{same_from_place, mul-add-lt}
use Rattle.work_book.specs.Steps as book
use Rattle.work_book.specs.Laws.{drawn_count}
use Rattle.work_book.specs.declared.steps.Answer.{Answer}
use Rattle.work_book.specs.declared.steps.Answer.TheVariants.{Nothing}
use Rattle.work_book.proofs.StepsAreFair.{reached_fair, new_fair}
use Rattle.work_book.proofs.NothingIsLast.{nothing_stays}
use Rattle.collector.specs.Row.{RowData}
use Rattle.collector.specs.Places.{PlacesData, place_of, row_at}
use Rattle.collector.specs.Offers.{belongs, offered}
use Rattle.collector.specs.Plain.{Core, after, answers_of, handed, book_steps}
use Rattle.collector.specs.Laws.{Setup, opening, reached, is_for, first_for, ArePlacedFirst, IsRightWhenFinished}
use Rattle.collector.specs.Laws.{AreMissingUnhanded, AreDrawnAtNothing}
use Rattle.collector.specs.declared.plain.CoreStep.{CoreStep}
use Rattle.collector.specs.declared.plain.CoreStep.TheVariants.{Book, Hand}
use Rattle.collector.specs.declared.plain.CoreAnswer.TheVariants as answer
use Rattle.collector.proofs.Merge.{run_is}
use Rattle.collector.proofs.Offered.{offered_at, offered_sizes, offered_length, belongs_in, in_range}

-- the places of a run, and its book
places_are : (s : Setup) (steps : List CoreStep) → (reached s steps).places ≡ offered (opening s).places (handed steps)
places_are s steps = sym (ap (λ (c : Core). c.places) (run_is steps (opening s).book (opening s).places))

pub book_is : (s : Setup) (steps : List CoreStep) →
    (reached s steps).book ≡ book.run_of (opening s).book (book_steps steps)
book_is s steps = sym (ap (λ (c : Core). c.book) (run_is steps (opening s).book (opening s).places))

open_size : (s : Setup) → length (opening s).places.rows ≡ s.scenarios * s.origins
open_size s = length-replicate (s.scenarios * s.origins) None

-- an empty list of places has no row at any place
pub none_at : (n k : ℕ) → get_or (replicate {A = Option RowData} n None) k None ≡ None
none_at zero k = refl
none_at (suc n) zero = refl
none_at (suc n) (suc k) = none_at n k

pub placed_first : (s : Setup) (steps : List CoreStep) → ArePlacedFirst s steps
placed_first s steps k below =
    ap (λ (p : PlacesData). row_at p k) (places_are s steps)
    ∙ offered_at (handed steps) (opening s).places k (open_size s)
    ∙ ap (λ (o : Option RowData). option_or o (first_for s steps k)) (none_at (s.scenarios * s.origins) k)

-- a row that is found passes the test, and has what all rows have
found : (P : RowData → Type 0) (test : RowData → Bool) (rows : List RowData) (row : RowData) → All P rows →
    find test rows ≡ Some row → (test row ≡ true) × P row
found P test [] row all h = cc
found P test (x ∷ rows) row all h = go (λ f. found P test rows row (All-tail P x rows all) f) (test x) refl h
  where
    go : (find test rows ≡ Some row → (test row ≡ true) × P row) → (b : Bool) → test x ≡ b →
        cond b (Some x) (find test rows) ≡ Some row → (test row ≡ true) × P row
    go more true e h = let same : x ≡ row = cc in (ap test (sym same) ∙ e, subst P same (All-head P x rows all))
    go more false e h = more h

-- where none is found, no row passes
not_found : (test : RowData → Bool) (rows : List RowData) → find test rows ≡ None →
    All (λ (row : RowData). test row ≡ false) rows
not_found test [] h = All-nil (λ (row : RowData). test row ≡ false)
not_found test (x ∷ rows) h = go (λ f. not_found test rows f) (test x) refl h
  where
    go : (find test rows ≡ None → All (λ (row : RowData). test row ≡ false) rows) → (b : Bool) → test x ≡ b →
        cond b (Some x) (find test rows) ≡ None → All (λ (row : RowData). test row ≡ false) (x ∷ rows)
    go more true e h = cc
    go more false e h = All-cons (λ (row : RowData). test row ≡ false) x rows e (more h)

pub missing_unhanded : (s : Setup) (steps : List CoreStep) → AreMissingUnhanded s steps
missing_unhanded s steps k below none = not_found (is_for (opening s).places k) (handed steps)
    (sym (placed_first s steps k below) ∙ none)

pub map_length : (rows : List RowData) → length (map (λ (r : RowData). Some r) rows) ≡ length rows
map_length [] = refl
map_length (x ∷ rows) = ap suc (map_length rows)

pub map_at : (rows : List RowData) (k : ℕ) (row : RowData) →
    get_or (map (λ (r : RowData). Some r) rows) k None ≡ Some row → slice_get rows k ≡ Some row
map_at [] k row h = cc
map_at (x ∷ rows) zero row h = h
map_at (x ∷ rows) (suc k) row h = map_at rows k row h

there_at : (rows : List RowData) (k : ℕ) → k < length rows →
    (row : RowData) × (get_or (map (λ (r : RowData). Some r) rows) k None ≡ Some row)
there_at [] k h = absurd (omega arith)
there_at (x ∷ rows) zero h = (x, refl)
there_at (x ∷ rows) (suc k) h = there_at rows k (omega arith)

pub right_when_finished : (s : Setup) (steps : List CoreStep) → IsRightWhenFinished s steps
right_when_finished s steps right m are done =
    let sizes = offered_sizes (handed steps) (opening s).places in
    let is = places_are s steps in
    let count : length m.rows ≡ s.scenarios * s.origins =
    sym (map_length m.rows) ∙ sym (ap length done.rows) ∙ ap (λ (p : PlacesData). length p.rows) is
    ∙ offered_length (handed steps) (opening s).places ∙ open_size s in
    record {
      scenarios = done.scenarios ∙ ap (λ (p : PlacesData). p.scenarios) is ∙ sizes.scenarios;
      origins = done.origins ∙ ap (λ (p : PlacesData). p.origins) is ∙ sizes.origins;
      width = done.width ∙ ap (λ (p : PlacesData). p.width) is ∙ sizes.width;
      shares = done.shares ∙ ap (λ (p : PlacesData). p.shares) is ∙ sizes.shares;
      limits = done.limits ∙ ap (λ (p : PlacesData). p.limits) is ∙ sizes.limits;
      count = count;
      rows = λ scenario origin in_scenario in_origin.
          let below = in_range scenario origin s.scenarios s.origins in_scenario in_origin in
          let k : ℕ = scenario * s.origins + origin in
          let there = there_at m.rows k (subst (λ n. k < n) (sym count) below) in
          let at : first_for s steps k ≡ Some there.0 =
          sym (placed_first s steps k below) ∙ ap (λ (l : List (Option RowData)). get_or l k None) done.rows
          ∙ there.1 in
          let row = found (λ (r : RowData). belongs (opening s).places r ≡ true →
          r ≡ right r.scenario r.origin) (is_for (opening s).places k) (handed steps) there.0 are at in
          let test = and_parts (belongs (opening s).places there.0)
          (place_of (opening s).places there.0.scenario there.0.origin == k) row.0 in
          let value : there.0 ≡ right there.0.scenario there.0.origin = row.1 test.0 in
          let same = same_from_place there.0.scenario there.0.origin scenario origin s.origins
          (belongs_in (opening s).places there.0 test.0).1 in_origin (eqb-true _ _ test.1) in
          map_at m.rows k there.0 there.1 ∙ ap (λ (r : RowData). Some r) (value ∙ (λ i. right (same.0 i) (same.1 i)));
    }

-- an answer of the book stands among the book's answers
told : (steps : List CoreStep) (c : Core) (i : ℕ) (a : Answer) →
    slice_get (answers_of c steps) i ≡ Some (answer.Book a) →
    (j : ℕ) × (slice_get (book.answers_of c.book (book_steps steps)) j ≡ Some a)
told [] c i a h = cc
told (Book step ∷ steps) c zero a h = (zero, inner _ _ h)
  where
    inner : (x y : Answer) → Some (answer.Book x) ≡ Some (answer.Book y) → Some x ≡ Some y
    inner x y e = cc
told (Book step ∷ steps) c (suc i) a h = let more = told steps (after c (Book step)) i a h in (suc more.0, more.1)
told (Hand seat row ∷ steps) c zero a h = cc
told (Hand seat row ∷ steps) c (suc i) a h = told steps (after c (Hand seat row)) i a h

one_where : (n next : ℕ) → n < next → (if nat_lt n next then 1 else 0) ≡ suc zero
one_where n next h = grind (arith, nat_tests)

pub drawn_at_nothing : (s : Setup) (steps : List CoreStep) → AreDrawnAtNothing s steps
drawn_at_nothing s steps i told_nothing job pass low right =
    let here = told steps (opening s) i Nothing told_nothing in
    let fair = reached_fair s.jobs s.tries s.seats (book_steps steps) in
    let all = nothing_stays (book_steps steps) (opening s).book (new_fair s.jobs s.tries s.seats) here.0 here.1 in
    let below : pass * s.jobs + job < (book.run_of (opening s).book (book_steps steps)).next =
    subst (λ n. pass * s.jobs + job < n) (sym all) (mul-add-lt pass s.jobs job s.tries right low) in
    ap (drawn_count (pass * s.jobs + job)) (book_is s steps) ∙ fair.drawn (pass * s.jobs + job) ∙ one_where _ _ below
