-- The footpaths of a network whose stops have numbers of their own.
use Rattle.std.proofs.Common.{◌≡◌, ◌≢◌, inl, inr, ℕ, zero, suc, ◌+◌, ◌<◌, ◌≤◌, List, [], ◌∷◌, ◌++◌, length, map}
use Rattle.std.proofs.Common.{get_or, set, slice_get, slice_index, Some, All, false, sum, sum_by, refl, sym, ◌∙◌, ap}
use Rattle.std.proofs.Common.{add-one, subst, arith}
use Rattle.std.specs.List.{IsDistinct}
use Rattle.std.proofs.Math.Dec.{eqb}
use Rattle.std.proofs.lemmas.Bool.{cases_eq, cases_lt, eqb-false, ne_eqb}
use Rattle.std.proofs.lemmas.List.{get_or_default, get_or-map, get_or-set_other, length-map, length-set, length_push}
use Rattle.std.proofs.lemmas.List.Elements.{All-head, All-tail, All-from_recursion}
use Rattle.std.proofs.lemmas.List.Sorted.{Contains-permutation, IsPermutation-map, IsPermutation-sym}
use Rattle.std.proofs.lemmas.List.Sorted.{length_permutation}
use Rattle.std.proofs.lemmas.Grind.{same_number_lists}
use Rattle.std.proofs.lemmas.List.Sums.{sum-map, sum_by-cons, sum_by-set}
use Rattle.std.proofs.lemmas.Map.Keys.{apart_from_distinct, IsDistinct-from_apart, IsDistinct-head}
use Rattle.std.proofs.lemmas.Map.Keys.{IsDistinct-IsPermutation, IsDistinct-tail}
use Rattle.std.proofs.lemmas.Option.{get_or_from_slice_get, slice_get-get_or, slice_get_within}
use Rattle.timetable.specs.declared.trips.StopNo.{StopNo}
use Rattle.timetable.specs.Footpaths.{AreFeet, FeetData, FootLists, RowInRange, RowWithin}
use Rattle.timetable.specs.Numbering.{AreNumbers, number_in}
use Rattle.timetable.specs.Renumbering.{AreRenumbered, AreRenumberedRows, IsRenumberedRow, renumbered_walk}
use Rattle.timetable.proofs.ListsAddedTo.{get_cases}
use Rattle.timetable.proofs.MappedLists.{map_got, map_put}

-- sums of what is the same for each item
sum_same : {X : Type 0} (f g : X → ℕ) (xs : List X) → All (λ x. f x ≡ g x) xs → sum_by f xs ≡ sum_by g xs
sum_same f g [] all = refl
sum_same f g (x ∷ xs) all =
    let here = All-head (λ y. f y ≡ g y) x xs all in
    let rest = sum_same f g xs (All-tail (λ y. f y ≡ g y) x xs all) in
    omega (arith, sum_by-cons f x xs, sum_by-cons g x xs, here, rest)

-- lists that are picked once each have no more items than all lists
pub sum_picked : {X : Type 0} (lists : List (List X)) (order : List ℕ) → IsDistinct eqb order →
    All (λ a. a < length lists) order → sum_by (λ a. length (get_or lists a [])) order ≤ sum_by length lists
sum_picked lists [] apart within = omega arith
sum_picked {X} lists (a ∷ order) apart within =
    let g : ℕ → ℕ = λ b. length (get_or lists b []) in
    let rest : List (List X) = set lists a [] in
    let l : a < length lists = All-head (λ b. b < length lists) a order within in
    let later = All-tail (λ b. b < length lists) a order within in
    let ne = All-from_recursion (λ b. eqb a b ≡ false) order (IsDistinct-head eqb a order apart) in
    let others : sum_by (λ b. length (get_or rest b [])) order ≡ sum_by g order =
    sum_same (λ b. length (get_or rest b [])) g order (λ k d m.
    let differ = eqb-false a (get_or order k d) (ne k d m) in
    ap length (get_or-set_other lists a (get_or order k d) [] [] (λ e. differ (sym e)))) in
    let few = sum_picked rest order (IsDistinct-tail eqb a order apart)
    (λ k d m. let w = later k d m in omega (arith, w, length-set lists a [])) in
    let less = sum_by-set length lists a [] [] l in
    let first = sum_by-cons g a order in
    omega (arith, others, few, less, first)

flips : (x y : ℕ) → eqb x y ≡ eqb y x
flips x y = elim (cases_eq x y) [
  | inl e ↦ rw e refl
  | inr ne ↦ ne_eqb x y ne ∙ sym (ne_eqb y x (λ e. ne (sym e)))
]

-- targets of one row come later in ascending order
rises : (stops source : ℕ) (row : List (StopNo × ℕ)) → RowInRange stops source row → (i : ℕ) (j : ℕ) (d : StopNo × ℕ) →
    i < j → j < length row → (get_or row i d).0.0 < (get_or row j d).0.0
rises stops source row ok i zero d l w = absurd (omega (arith, l))
rises stops source row ok i (suc j) d l w =
    let here : j < length row = omega (arith, w) in
    let step = ok.ascending j (get_or row j d) (get_or row (j + 1) d) (slice_get-get_or row j d here)
    (slice_get-get_or row (j + 1) d (omega (arith, w))) in
    let next : (get_or row (j + 1) d).0.0 ≡ (get_or row (suc j) d).0.0 = ap (λ n. (get_or row n d).0.0) (add-one j) in
    elim (cases_lt i j) [
      | inl lt ↦ let before = rises stops source row ok i j d lt here in omega (arith, before, step, next)
      | inr ge ↦ let e : i ≡ j = omega (arith, l, ge) in rw e (omega (arith, step, next))
    ]

module _ (stops : ℕ) (numbers order : List ℕ) (are : AreNumbers stops numbers order) where
  abbrev pub number : ℕ → ℕ
  number = number_in numbers

  -- no two stops have one number
  pub differ : (p q : ℕ) → p < stops → q < stops → number p ≡ number q → p ≡ q
  differ p q l r e = sym (are.number p l).1 ∙ (ap (λ n. slice_index order n) e ∙ (are.number q r).1)

  pub order_apart : IsDistinct eqb order
  order_apart = IsDistinct-from_apart eqb order (λ i j d l w.
      let a : i < stops = omega (arith, are.count, l, w) in
      let b : j < stops = omega (arith, are.count, w) in
      let first : get_or order i d ≡ slice_index order i = get_or_default order i d 0 (omega (arith, l, w)) in
      let second : get_or order j d ≡ slice_index order j = get_or_default order j d 0 w in
      ne_eqb (get_or order i d) (get_or order j d) (λ e.
      let same : i ≡ j =
      sym (are.stop i a).1 ∙ (ap (λ p. slice_index numbers p) (sym first ∙ (e ∙ second)) ∙ (are.stop j b).1) in
      omega (arith, l, same)))

  module _ (source : ℕ) (at : source < stops) (row renumbered : List (StopNo × ℕ)) (ok : RowInRange stops source row)
      (is : IsRenumberedRow number row renumbered) where
    -- what stands in the row stands there by the numbers
    pub walk_forth : (k : ℕ) (x : StopNo × ℕ) → slice_get row k ≡ Some x →
        (j : ℕ) × (slice_get renumbered j ≡ Some (renumbered_walk number x))
    walk_forth k x h =
        let y = renumbered_walk number x in
        let put = map_put (renumbered_walk number) row k x h in
        let mapped = map (renumbered_walk number) row in
        let found = Contains-permutation mapped renumbered y is.walks (
          k,
          slice_get_within mapped k y put,
          get_or_from_slice_get mapped k y y put,
        ) in
        (found.0, slice_get-get_or renumbered found.0 y found.1 ∙ ap Some found.2)

    -- and the other way round
    pub walk_back : (k : ℕ) (y : StopNo × ℕ) → slice_get renumbered k ≡ Some y →
        (j : ℕ) × (x : StopNo × ℕ) × (slice_get row j ≡ Some x) × (renumbered_walk number x ≡ y)
    walk_back k y h =
        let mapped = map (renumbered_walk number) row in
        let found = Contains-permutation renumbered mapped y (IsPermutation-sym mapped renumbered is.walks) (
          k,
          slice_get_within renumbered k y h,
          get_or_from_slice_get renumbered k y y h,
        ) in
        let got = map_got (renumbered_walk number) row found.0 y
        (slice_get-get_or mapped found.0 y found.1 ∙ ap Some found.2) in
        (found.0, got.0, got.1, got.2)

    read_key : (i d : ℕ) → i < length row →
        get_or (map (λ (x : StopNo × ℕ). x.0.0) (map (renumbered_walk number) row)) i d
        ≡ number (get_or row i (record { 0 = 0 }, 0)).0.0
    read_key i d l =
        let none : StopNo × ℕ = (record { 0 = 0 }, 0) in
        let mapped = map (renumbered_walk number) row in
        let within : i < length mapped = omega (arith, l, length-map row (renumbered_walk number)) in
        get_or-map (λ (x : StopNo × ℕ). x.0.0) mapped i none d within
        ∙ ap (λ (x : StopNo × ℕ). x.0.0) (get_or-map (renumbered_walk number) row i none none l)

    keys_apart : IsDistinct eqb (map (λ (x : StopNo × ℕ). x.0.0) renumbered)
    keys_apart =
        let key : StopNo × ℕ → ℕ = λ x. x.0.0 in
        let mapped = map (renumbered_walk number) row in
        IsDistinct-IsPermutation eqb flips (map key mapped) (map key renumbered)
        (IsPermutation-map key mapped renumbered is.walks)
        (IsDistinct-from_apart eqb (map key mapped) (λ i j d l w.
        let none : StopNo × ℕ = (record { 0 = 0 }, 0) in
        let wj : j < length row = omega (arith, w, length-map mapped key, length-map row (renumbered_walk number)) in
        let wi : i < length row = omega (arith, l, wj) in
        let first = read_key i d wi in
        let second = read_key j d wj in
        let a = ok.targets i (get_or row i none) (slice_get-get_or row i none wi) in
        let b = ok.targets j (get_or row j none) (slice_get-get_or row j none wj) in
        let up = rises stops source row ok i j none l wj in
        ne_eqb (get_or (map key mapped) i d) (get_or (map key mapped) j d) (λ e.
        let same = differ (get_or row i none).0.0 (get_or row j none).0.0 a.0 b.0 (sym first ∙ (e ∙ second)) in
        omega (arith, up, same))))

    pub row_in_range : RowInRange stops (number source) renumbered
    row_in_range =
        record {
          targets = λ k y h.
              let was = walk_back k y h in
              let target = ok.targets was.0 was.1 was.2 in
              let there : number was.1.0.0 ≡ y.0.0 = ap (λ (x : StopNo × ℕ). x.0.0) was.3 in
              let low = (are.number was.1.0.0 target.0).0 in
              (omega (arith, low, there), λ e. target.1 (differ was.1.0.0 source target.0 at (there ∙ e)));
          ascending = λ k x y g h.
              let key : StopNo × ℕ → ℕ = λ z. z.0.0 in
              let next = slice_get_within renumbered (k + 1) y h in
              let here : k < length renumbered = omega (arith, next) in
              let keys = map key renumbered in
              let no_less = is.sorted k (k + 1) x (omega arith) next in
              let apart = eqb-false (get_or keys k 0) (get_or keys (k + 1) 0)
              (apart_from_distinct eqb keys k (k + 1) 0 keys_apart (omega arith)
              (omega (arith, next, length-map renumbered key))) in
              let first : get_or renumbered k x ≡ x = get_or_from_slice_get renumbered k x x g in
              let second : get_or renumbered (k + 1) x ≡ y = get_or_from_slice_get renumbered (k + 1) y x h in
              let read = get_or-map key renumbered k x 0 here ∙ ap key first in
              let read_next = get_or-map key renumbered (k + 1) x 0 next ∙ ap key second in
              let differs : key x ≢ key y = λ e. apart (read ∙ (e ∙ sym read_next)) in
              omega (arith, no_less, ap key first, ap key second, differs);
        }

    pub row_within : RowWithin row → RowWithin renumbered
    row_within short k y h =
        let was = walk_back k y h in
        let few = short was.0 was.1 was.2 in
        rw (← ap (λ (x : StopNo × ℕ). x.1) was.3) few

  -- the footpaths and change times, where the rows are those of each number's stop
  module _ (feet again : FeetData) (ok : AreFeet feet) (lists : length feet.walks ≡ stops)
      (rows : AreRenumberedRows number order feet.walks stops again.walks) (sized : length again.changes ≡ stops)
      (each : (n : ℕ) → n < stops → slice_index again.changes n ≡ slice_index feet.changes (slice_index order n)) where
    stop_of : (n : ℕ) → n < stops → slice_index order n < stops
    stop_of n l = (are.stop n l).0

    row_of : (n : ℕ) → n < stops →
        slice_get feet.walks (slice_index order n) ≡ Some (get_or feet.walks (slice_index order n) [])
    row_of n l = slice_get-get_or feet.walks (slice_index order n) [] (omega (arith, stop_of n l, lists))

    in_range : (n : ℕ) → n < stops → RowInRange stops (slice_index order n) (get_or feet.walks (slice_index order n) [])
    in_range n l = rw (← lists)
        (ok.in_range.walks.rows (slice_index order n) (get_or feet.walks (slice_index order n) []) (row_of n l))

    below : (n : ℕ) (row : List (StopNo × ℕ)) → slice_get again.walks n ≡ Some row → n < stops
    below n row h = omega (arith, slice_get_within again.walks n row h, rows.count)

    new_row : (n : ℕ) (row : List (StopNo × ℕ)) → slice_get again.walks n ≡ Some row → RowInRange stops n row
    new_row n row h =
        let l = below n row h in
        subst (λ (m : ℕ). RowInRange stops m row) (are.stop n l).1
        (row_in_range (slice_index order n) (stop_of n l) (get_or feet.walks (slice_index order n) []) row
        (in_range n l) (rows.each n row h))

    short_row : (n : ℕ) (row : List (StopNo × ℕ)) → slice_get again.walks n ≡ Some row → RowWithin row
    short_row n row h =
        let l = below n row h in
        row_within (slice_index order n) (stop_of n l) (get_or feet.walks (slice_index order n) []) row (in_range n l)
        (rows.each n row h)
        (ok.within.walks.rows (slice_index order n) (get_or feet.walks (slice_index order n) []) (row_of n l))

    long_row : (n : ℕ) → n < stops →
        length (get_or again.walks n []) ≡ length (get_or feet.walks (slice_index order n) [])
    long_row n l =
        let row = get_or feet.walks (slice_index order n) [] in
        let here = slice_get-get_or again.walks n [] (omega (arith, l, rows.count)) in
        let is = rows.each n (get_or again.walks n []) here in
        length_permutation (map (renumbered_walk number) row) (get_or again.walks n []) is.walks
        ∙ length-map row (renumbered_walk number)

    few_pairs : sum_by length again.walks ≤ sum_by length feet.walks
    few_pairs =
        let g : ℕ → ℕ = λ a. length (get_or feet.walks a []) in
        let long : List (StopNo × ℕ) → ℕ = length in
        let same : map long again.walks ≡ map g order =
        same_number_lists (map long again.walks) (map g order)
        (omega (arith, length-map again.walks long, length-map order g, rows.count, are.count)) (λ k l.
        let low : k < stops = omega (arith, l, length-map again.walks long, rows.count) in
        get_or-map long again.walks k [] 0 (omega (arith, low, rows.count))
        ∙ (long_row k low ∙ sym (get_or-map g order k 0 0 (omega (arith, low, are.count))))) in
        let sums : sum_by length again.walks ≡ sum_by g order =
        sym (sum-map long again.walks) ∙ (ap sum same ∙ sum-map g order) in
        let few = sum_picked feet.walks order order_apart (λ k d l.
        let low = stop_of k (omega (arith, l, are.count)) in
        let read = get_or_default order k d 0 l in
        omega (arith, low, read, lists)) in
        omega (arith, sums, few)

    pub feet_again : AreFeet again
    feet_again =
        record {
          in_range = rw rows.count (record {
            walks = record { lists = rows.count; rows = new_row };
            changes = sized;
          });
          within = record {
            walks = record {
              stops = omega (arith, rows.count, lists, ok.within.walks.stops);
              rows = short_row;
              pairs = omega (arith, few_pairs, ok.within.walks.pairs);
            };
            changes = λ k d l.
                let low : k < stops = omega (arith, l, sized) in
                let read = get_or_default again.changes k d 0 l in
                let was = each k low in
                let few = ok.within.changes (slice_index order k) 0
                (omega (arith, stop_of k low, ok.in_range.changes, lists)) in
                omega (arith, read, was, few);
          };
        }

    pub are_renumbered : AreRenumbered number stops feet again
    are_renumbered =
        record {
          forth = λ a b seconds h.
              let l : a < stops = omega (arith, slice_get_within feet.walks a h.0 h.2, lists) in
              let n = number a in
              let at = are.number a l in
              let is = rows.each n (get_or again.walks n []) (slice_get-get_or again.walks n []
              (omega (arith, at.0, rows.count))) in
              let row : get_or feet.walks (slice_index order n) [] ≡ h.0 =
              ap (λ p. get_or feet.walks p []) at.1 ∙ get_or_from_slice_get feet.walks a h.0 [] h.2 in
              let found = walk_forth a l h.0 (get_or again.walks n [])
              (rw (← lists) (ok.in_range.walks.rows a h.0 h.2)) (rw (← row) is) h.1 (record { 0 = b }, seconds) h.3 in (
                get_or again.walks n [],
                found.0,
                slice_get-get_or again.walks n [] (omega (arith, at.0, rows.count)),
                found.1,
              );
          back = λ x y seconds h.
              let l = below x h.0 h.2 in
              let a = slice_index order x in
              let was = walk_back a (stop_of x l) (get_or feet.walks a []) h.0 (in_range x l) (rows.each x h.0 h.2) h.1
              (record { 0 = y }, seconds) h.3 in
              let to : number was.1.0.0 ≡ y = ap (λ (z : StopNo × ℕ). z.0.0) was.3 in
              let takes : was.1.1 ≡ seconds = ap (λ (z : StopNo × ℕ). z.1) was.3 in (
                a,
                was.1.0.0,
                (
                  get_or feet.walks a [],
                  was.0,
                  row_of x l,
                  subst (λ (s : ℕ). slice_get (get_or feet.walks a []) was.0
                      ≡ Some (was.1.0, s)) takes was.2,
                ),
                sym (are.stop x l).1,
                sym to,
              );
          changes = λ p l.
              let at = are.number p l in
              each (number p) at.0 ∙ ap (λ (q : ℕ). slice_index feet.changes q) at.1;
        }

-- one more row
pub row_more : (number : ℕ → ℕ) (order : List ℕ) (walks done news : FootLists) (i a : ℕ)
    (row last : List (StopNo × ℕ)) → AreRenumberedRows number order walks i done → a ≡ slice_index order i →
    row ≡ get_or walks a [] → IsRenumberedRow number row last → news ≡ done ++ last ∷ [] →
    AreRenumberedRows number order walks (i + 1) news
row_more number order walks done news i a row last rows at read is more =
    record {
      count = omega (arith, ap length more, length_push done last, rows.count);
      each = λ n other h. elim (get_cases done last n other (sym (ap (λ xs. slice_get xs n) more) ∙ h)) [
        | inl before ↦ rows.each n other before
        | inr now ↦
            let here : n ≡ i = now.0 ∙ rows.count in
            let same : get_or walks (slice_index order n) [] ≡ row =
            ap (λ k. get_or walks (slice_index order k) []) here ∙ (ap (λ p. get_or walks p []) (sym at) ∙ sym read) in
            rw (same, now.1) is
      ];
    }
