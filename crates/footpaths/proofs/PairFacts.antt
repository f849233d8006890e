-- Pairs of stops that go past the limit, with one stop or one walk more.
use Rattle.std.proofs.Common.{◌≡◌, ◌<◌, ◌≤◌, ◌+◌, ◌∙◌, ◌++◌, ◌==◌, ℕ, suc, true, List, [], ◌∷◌, length, map, filter}
use Rattle.std.proofs.Common.{take, drop, get_or, inl, inr, arith, refl, sym, ap, add-one, drop-cons}
use Rattle.std.specs.List.{flat_map}
use Rattle.std.proofs.lemmas.Bool.Decides.{nat_tests}
use Rattle.std.proofs.lemmas.List.{append-nil, length-append, map-append, take-append-drop}
use Rattle.std.proofs.lemmas.List.Concat.{flat_map-append}
use Rattle.std.proofs.lemmas.List.Elements.{filter-append}
use Rattle.table_records.specs.declared.fault.What.{What}
use Rattle.timetable.specs.declared.trips.StopNo.{StopNo}
use Rattle.table_files.specs.Ends.{differ, pairs_between}
use Rattle.footpaths.specs.Direct.{DirectLists, Footpath}
use Rattle.footpaths.specs.Pairs.{IsRefusal, with_more}

module _ {X : Type 0} (paths : List X → List Footpath) (joined : (xs ys : List X) →
    paths (xs ++ ys) ≡ paths xs ++ paths ys) where
  -- the footpaths of the first items and of the next one are among those of all
  within : (xs : List X) (i : ℕ) (d : X) → i < length xs →
      length (paths (take i xs)) + length (paths (get_or xs i d ∷ [])) ≤ length (paths xs)
  within xs i d here =
      let next : drop i xs ≡ (get_or xs i d ∷ []) ++ drop (i + 1) xs = rw (add-one, drop-cons xs i d) refl in
      let all : paths xs ≡ paths (take i xs) ++ (paths (get_or xs i d ∷ []) ++ paths (drop (i + 1) xs)) =
      ap paths (sym (take-append-drop i xs)) ∙ joined (take i xs) (drop i xs)
      ∙ ap (λ (ys : List Footpath). paths (take i xs) ++ ys) (ap paths next
      ∙ joined (get_or xs i d ∷ []) (drop (i + 1) xs)) in
      let count = ap length all in
      omega (
        arith,
        count,
        length-append (paths (take i xs)) (paths (get_or xs i d ∷ []) ++ paths (drop (i + 1) xs)),
        length-append (paths (get_or xs i d ∷ [])) (paths (drop (i + 1) xs)),
      )

  -- where the next item's footpaths are refused, so are those of all
  pub refused : (direct : DirectLists) (xs : List X) (i : ℕ) (d : X) (w : What) → i < length xs
      → IsRefusal (with_more direct (paths (take i xs))) (paths (get_or xs i d ∷ [])) w → IsRefusal direct (paths xs) w
  refused direct xs i d w here (inl memory) = inl memory
  refused direct xs i d w here (inr (is, past)) =
      let few = within xs i d here in
      inr (
        is,
        omega (
          arith,
          past,
          few,
          length-append (direct.pairs ++ paths (take i xs)) (paths (get_or xs i d ∷ [])),
          length-append direct.pairs (paths (take i xs)),
          length-append direct.pairs (paths xs),
        ),
      )

-- the pairs of a stop and each other one of some
abbrev pub pairs_from : StopNo → ℕ → List StopNo → List Footpath
pairs_from a seconds to = map (λ (b : StopNo). (a, b, seconds)) (filter (differ a) to)

pub refused_from : (direct : DirectLists) (a : StopNo) (seconds : ℕ) (to : List StopNo) (i : ℕ) (d : StopNo)
    (w : What) → i < length to → differ a (get_or to i d) ≡ true
    → IsRefusal (with_more direct (pairs_from a seconds (take i to))) ((a, get_or to i d, seconds) ∷ []) w →
    IsRefusal direct (pairs_from a seconds to) w
refused_from direct a seconds to i d w here other r =
    let pair : StopNo → Footpath = λ b. (a, b, seconds) in
    refused (pairs_from a seconds) (λ xs ys. ap (map pair) (filter-append (differ a) xs ys)
    ∙ map-append pair (filter (differ a) xs) (filter (differ a) ys)) direct to i d w here (rw other r)

pub refused_between : (direct : DirectLists) (from to : List StopNo) (seconds i : ℕ) (d : StopNo) (w : What) →
    i < length from
    → IsRefusal (with_more direct (pairs_between (take i from) to seconds)) (pairs_from (get_or from i d) seconds to)
    w → IsRefusal direct (pairs_between from to seconds) w
refused_between direct from to seconds i d w here r =
    let pairs : StopNo → List Footpath = λ a. pairs_from a seconds to in
    refused (flat_map pairs) (flat_map-append pairs) direct from i d w here
    (rw (append-nil (pairs (get_or from i d))) r)

-- no stops to go to
pub none_to : (from : List StopNo) (seconds : ℕ) → pairs_between from [] seconds ≡ []
none_to [] seconds = refl
none_to (a ∷ from) seconds = none_to from seconds

pub none_added : (direct : DirectLists) (from to : List StopNo) (seconds : ℕ) → true ≡ (length to == 0) →
    direct ≡ with_more direct (pairs_between from to seconds)
none_added direct from [] seconds e = rw (none_to from seconds, append-nil direct.pairs) refl
none_added direct from (b ∷ to) seconds e = absurd (not_empty (length to) e)
  where
    not_empty : (n : ℕ) → true ≡ (suc n == 0) → ⊥
    not_empty n h = grind (arith, nat_tests)
