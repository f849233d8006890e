-- The footpaths from one stop, and from one stop more.
use Rattle.std.proofs.Common.{◌≡◌, ◌≢◌, ◌<◌, ◌≤◌, ◌+◌, ◌⊎◌, ◌++◌, inl, inr, ℕ, zero, suc, List, [], ◌∷◌, length, map}
use Rattle.std.proofs.Common.{arith, refl, sym, ◌∙◌, ap, Some, slice_get, get_or, sum_by, subst}
use Rattle.std.specs.List.{Contains, All}
use Rattle.std.proofs.lemmas.Bool.{cases_lt}
use Rattle.std.proofs.lemmas.List.{length_push}
use Rattle.std.proofs.lemmas.List.Elements.{All-head, All-tail, All-contains}
use Rattle.std.proofs.lemmas.List.Sums.{sum_by_push}
use Rattle.std.proofs.lemmas.Option.{same_Some, slice_get_within, get_or_from_slice_get, slice_get-get_or}
use Rattle.timetable.specs.declared.trips.StopNo.{StopNo}
use Rattle.timetable.specs.Footpaths.{FootLists, IsFoot}
use Rattle.timetable.proofs.MappedLists.{map_put}
use Rattle.timetable.proofs.ListsAddedTo.{get_kept}
use Rattle.footpaths.specs.declared.adjacency.Adjacency.{Adjacency}
use Rattle.footpaths.specs.Direct.{Footpath, DirectLists, LeadsBetween, AreDirect}
use Rattle.footpaths.specs.Chains.{Leads, HasChain, Foot}
use Rattle.footpaths.specs.Closure.{Ascends, AllAscend, AreClosed, HasTooMany}
use Rattle.footpaths.specs.Adjacency.{Leaving, legs_of, part, IsAdjacency}
use Rattle.footpaths.specs.Dijkstra.{Marks, LeadToStops, AreShortest, row_of}
use Rattle.footpaths.proofs.WaysAreChains.{has_chain, way_of_chain}
use Rattle.footpaths.proofs.DijkstraAsAWhole.{way_end}

-- the row has a footpath to b
abbrev pub HasTarget : List (StopNo × ℕ) → ℕ → ℕ → Type 0
HasTarget row b s = (k : ℕ) × (slice_get row k ≡ Some (record { 0 = b }, s))

-- exactly the walking times from one stop
pub record IsClosedRow (direct : List Footpath) (limit source : ℕ) (row : List (StopNo × ℕ)) : Type 0 where
  pub ascending : Ascends row
  pub least : (b s : ℕ) → HasTarget row b s → Foot direct limit source b s
  pub complete : (b s : ℕ) → source ≢ b → HasChain direct source b s → s ≤ limit → (time : ℕ) × HasTarget row b time

-- one list for each of the first n stops, with exactly the walking times from it
pub record AreClosedBelow (direct : List Footpath) (limit n : ℕ) (feet : FootLists) : Type 0 where
  pub lists : length feet ≡ n
  pub ascending : AllAscend feet
  pub least : (a b s : ℕ) → IsFoot feet a b s → Foot direct limit a b s
  pub complete : (a b s : ℕ) → a < n → a ≢ b → HasChain direct a b s → s ≤ limit → (time : ℕ) × IsFoot feet a b time

-- what stands in a list with one element more
snoc_cases : {X : Type 0} (xs : List X) (x : X) (k : ℕ) (y : X) → slice_get (xs ++ x ∷ []) k ≡ Some y →
    ((k < length xs) × (slice_get xs k ≡ Some y)) ⊎ ((k ≡ length xs) × (y ≡ x))
snoc_cases [] x zero y e = inr (refl, sym (same_Some x y e))
snoc_cases {X} [] x (suc k) y e = let w = slice_get_within {A = X} [] k y e in absurd (omega (arith, w))
snoc_cases (w ∷ ws) x zero y e = inl (omega arith, e)
snoc_cases (w ∷ ws) x (suc k) y e = elim (snoc_cases ws x k y e) [
  | inl h ↦ inl (let l = h.0 in omega (arith, l), h.1)
  | inr h ↦ inr (ap suc h.0, h.1)
]

snoc_last : {X : Type 0} (xs : List X) (x : X) → slice_get (xs ++ x ∷ []) (length xs) ≡ Some x
snoc_last [] x = refl
snoc_last (w ∷ ws) x = snoc_last ws x

-- what stands in a list of values of a function
map_at : {X Y : Type 0} (f : X → Y) (xs : List X) (k : ℕ) (y : Y) → slice_get (map f xs) k ≡ Some y →
    (x : X) × (slice_get xs k ≡ Some x) × (y ≡ f x)
map_at {X} {Y} f [] k y e = let w = slice_get_within {A = Y} [] k y e in absurd (omega (arith, w))
map_at f (x ∷ xs) zero y e = (x, refl, sym (same_Some (f x) y e))
map_at f (x ∷ xs) (suc k) y e = map_at f xs k y e

contains_at : (xs : List ℕ) (k x : ℕ) → slice_get xs k ≡ Some x → Contains xs x
contains_at xs k x e = (k, slice_get_within xs k x e, get_or_from_slice_get xs k x x e)

-- the stops that are reached, with their labels, are the walking times from the source
pub row_closed : (direct : DirectLists) (limit source : ℕ) (leaving : Leaving) (m : Marks) → AreDirect direct
    → ((u : ℕ) → u < direct.stops → leaving u ≡ legs_of direct.pairs limit u) → LeadToStops direct.stops leaving →
    source < direct.stops → limit ≤ 7200
    → AreShortest leaving direct.stops source limit m → IsClosedRow direct.pairs limit source (row_of m)
row_closed direct limit source leaving m given same all here low st = record {
  ascending = λ k x y e f.
      let p = map_at _ m.touched k x e in
      let q = map_at _ m.touched (k + 1) y f in
      let here = slice_get_within m.touched (k + 1) q.0 q.1 in
      let up = st.ascending k here in
      let px = get_or_from_slice_get m.touched k p.0 0 p.1 in
      let qx = get_or_from_slice_get m.touched (k + 1) q.0 0 q.1 in
      let fx : x.0.0 ≡ p.0 = ap (λ (z : StopNo × ℕ). z.0.0) p.2 in
      let fy : y.0.0 ≡ q.0 = ap (λ (z : StopNo × ℕ). z.0.0) q.2 in
      omega (arith, up, px, qx, fx, fy);
  least = λ b s t.
      let p = map_at _ m.touched t.0 (record { 0 = b }, s) t.1 in
      let b_is : b ≡ p.0 = ap (λ (z : StopNo × ℕ). z.0.0) p.2 in
      let s_is : s ≡ get_or m.labels p.0 0 = ap (λ (z : StopNo × ℕ). z.1) p.2 in
      let r = st.touched.reached p.0 (contains_at m.touched t.0 p.0 p.1) in
      foot b s (subst (λ (q : ℕ). q < direct.stops) (sym b_is) (subst (λ (n : ℕ). p.0 < n) st.count r.0))
      (λ e. r.1 (sym (e ∙ b_is)))
      (s_is ∙ ap (λ (q : ℕ). get_or m.labels q 0) (sym b_is)) (let h = r.2 in omega (arith, h, s_is));
  complete = λ b s other chain within.
      let way = way_of_chain direct.pairs limit direct.stops leaving chain.0 source source b 0 0 same given.between here
      chain.1.given chain.1.leads
      (let e = chain.1.sum in omega (arith, e, within)) (refl, refl) in
      let sum = chain.1.sum in
      let total : 0 + sum_by (λ (path : Footpath). path.2) chain.0 ≤ limit = omega (arith, sum, within) in
      let label = st.least b way.0 _ way.1 total in
      let place = way_end leaving direct.stops source b way.0 _ all here way.1 in
      elim (st.touched.all b (subst (λ (n : ℕ). b < n) (sym st.count) place) (λ e. other (sym e))) [
        | inl c ↦ (
          get_or m.labels b 0,
          (
            c.0,
            map_put (λ (stop : ℕ). (record { 0 = stop }, get_or m.labels stop 0)) m.touched c.0 b
                (slice_get-get_or m.touched c.0 b c.1 ∙ ap Some c.2),
          ),
        )
        | inr never ↦ absurd (omega (arith, never, label, total, low))
      ];
}
  where
    foot : (b s : ℕ) → b < direct.stops → source ≢ b → s ≡ get_or m.labels b 0 → s ≤ limit →
        Foot direct.pairs limit source b s
    foot b s below other label within =
        let way = st.way b below (omega (arith, label, within)) in
        record {
          other = other;
          least = record {
            holds = subst (HasChain direct.pairs source b) (sym label)
                (has_chain direct.pairs limit direct.stops leaving source b way.0 _ same all here other way.1);
            least = λ t chain. elim (cases_lt limit t) [
              | inl lt ↦ omega (arith, lt, within)
              | inr ge ↦ shorter b s t label ge chain
            ];
          };
          within = within;
        }
      where
        shorter : (b s t : ℕ) → s ≡ get_or m.labels b 0 → t ≤ limit → HasChain direct.pairs source b t → s ≤ t
        shorter b s t label ge chain =
            let sum = chain.1.sum in
            let way = way_of_chain direct.pairs limit direct.stops leaving chain.0 source source b 0 0 same
            given.between here chain.1.given chain.1.leads
            (omega (arith, sum, ge)) (refl, refl) in
            let total : 0 + sum_by (λ (path : Footpath). path.2) chain.0 ≤ limit = omega (arith, sum, ge) in
            let l = st.least b way.0 _ way.1 total in
            omega (arith, l, label, sum)

pub row_shortest : (direct : DirectLists) (limit source n : ℕ) (a : Adjacency) (m : Marks) → AreDirect direct →
    IsAdjacency direct limit a → n ≡ direct.stops
    → source < direct.stops → limit ≤ 7200 → AreShortest (part a) n source limit m →
    IsClosedRow direct.pairs limit source (row_of m)
row_shortest direct limit source n a m given by_stop same here low st =
    row_closed direct limit source (part a) m given by_stop.parts by_stop.in_range.targets here low
    (subst (λ (k : ℕ). AreShortest (part a) k source limit m) same st)

-- one stop more
pub closed_more : (direct : List Footpath) (limit n : ℕ) (feet : FootLists) (row : List (StopNo × ℕ)) →
    AreClosedBelow direct limit n feet → IsClosedRow direct limit n row →
    AreClosedBelow direct limit (n + 1) (feet ++ row ∷ [])
closed_more direct limit n feet row h r = record {
  lists = let c = h.lists in let l = length_push feet row in omega (arith, c, l);
  ascending = λ a xs e. elim (snoc_cases feet row a xs e) [
    | inl before ↦ h.ascending a xs before.1
    | inr last ↦ subst Ascends (sym last.1) r.ascending
  ];
  least = λ a b s f. elim (snoc_cases feet row a f.0 f.2) [
    | inl before ↦ h.least a b s (f.0, f.1, before.1, f.3)
    | inr last ↦ subst (λ (q : ℕ). Foot direct limit q b s) (sym (last.0 ∙ h.lists))
        (r.least b s (f.1, subst (λ (w : List (StopNo × ℕ)). slice_get w f.1 ≡ Some (record { 0 = b }, s)) last.1 f.3))
  ];
  complete = λ a b s l other chain within. elim (cases_lt a n) [
    | inl lt ↦ let w = h.complete a b s lt other chain within in
        (w.0, (w.1.0, w.1.1, get_kept feet row a w.1.0 w.1.2, w.1.3))
    | inr ge ↦ at_last a b s (omega (arith, ge, l)) other chain within
  ];
}
  where
    at_last : (a b s : ℕ) → a ≡ n → a ≢ b → HasChain direct a b s → s ≤ limit →
        (time : ℕ) × IsFoot (feet ++ row ∷ []) a b time
    at_last a b s e other chain within =
        let w = r.complete b s (λ f. other (e ∙ f)) (subst (λ (q : ℕ). HasChain direct q b s) e chain) within in
        (w.0, (row, w.1.0, ap (slice_get (feet ++ row ∷ [])) (e ∙ sym h.lists) ∙ snoc_last feet row, w.1.1))

-- a chain begins at a stop
pub chain_start : (direct : DirectLists) (a b s : ℕ) → AreDirect direct → HasChain direct.pairs a b s → a < direct.stops
chain_start direct a b s given chain = go chain.0 chain.1.some chain.1.given chain.1.leads
  where
    go : (xs : List Footpath) → 0 < length xs → All (Contains direct.pairs) xs → Leads xs a b → a < direct.stops
    go [] some all l = absurd (omega (arith, some))
    go (x ∷ xs) some all l = subst (λ (q : ℕ). q
        < direct.stops) l.0 (All-contains (LeadsBetween direct.stops) direct.pairs x given.between
        (All-head (Contains direct.pairs) x xs all)).from

-- ... and ends at one
pub chain_end : (direct : DirectLists) (a b s : ℕ) → AreDirect direct → HasChain direct.pairs a b s → b < direct.stops
chain_end direct a b s given chain = go a chain.0 (chain_start direct a b s given chain) chain.1.given chain.1.leads
  where
    go : (a : ℕ) (xs : List Footpath) → a < direct.stops → All (Contains direct.pairs) xs → Leads xs a b →
        b < direct.stops
    go a [] here all l = subst (λ (q : ℕ). q < direct.stops) l here
    go a (x ∷ xs) here all l = go x.1.0 xs (All-contains (LeadsBetween direct.stops) direct.pairs x given.between
        (All-head (Contains direct.pairs) x xs all)).to (All-tail (Contains direct.pairs) x xs all) l.1

-- all stops
pub closed_all : (direct : DirectLists) (limit n : ℕ) (feet : FootLists) → AreDirect direct → n ≡ direct.stops →
    AreClosedBelow direct.pairs limit n feet →
    AreClosed direct limit (record { walks = feet; changes = direct.changes })
closed_all direct limit n feet given e h = record {
  lists = h.lists ∙ e;
  ascending = h.ascending;
  least = h.least;
  complete = λ a b s other chain within. h.complete a b s (let w = chain_start direct a b s given chain in
      omega (arith, w, e)) other chain within;
  changes = refl;
}

pub sum_more : (feet : FootLists) (row : List (StopNo × ℕ)) →
    sum_by length (feet ++ row ∷ []) ≡ sum_by length feet + length row
sum_more feet row = sum_by_push length feet row

-- too many
pub too_many : (direct : List Footpath) (limit n : ℕ) (feet : FootLists) (row : List (StopNo × ℕ)) →
    AreClosedBelow direct limit n feet → IsClosedRow direct limit n row → 4000000 < sum_by length feet + length row →
    HasTooMany direct limit
too_many direct limit n feet row h r many =
    let m = closed_more direct limit n feet row h r in
    record {
      some_feet = feet ++ row ∷ [];
      ascending = m.ascending;
      are_feet = m.least;
      many = rw (sum_more feet row) many;
    }
