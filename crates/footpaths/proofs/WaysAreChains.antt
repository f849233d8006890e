-- Ways along the leaving within a limit are chains of direct footpaths, and the other way round.
use Rattle.std.proofs.Common.{◌≡◌, ◌≢◌, ◌<◌, ◌≤◌, ◌+◌, ◌++◌, inl, inr, ℕ, zero, suc, List, [], ◌∷◌, Bool, true, false}
use Rattle.std.proofs.Common.{cond, length, map, sum_by, arith, refl, sym, ◌∙◌, ap, subst}
use Rattle.std.specs.List.{Contains, All, filter}
use Rattle.std.specs.Prelude.{nat_eq, nat_le}
use Rattle.std.proofs.lemmas.Bool.{cases_Bool, eqb-true, eq-eqb, leb-true, le-leb, false≢true}
use Rattle.std.proofs.lemmas.List.{length_push}
use Rattle.std.proofs.lemmas.List.Elements.{All-nil, All-push, All-head, All-tail, All-contains}
use Rattle.std.proofs.lemmas.List.Sums.{sum_by_push, sum_by-cons}
use Rattle.timetable.specs.declared.trips.StopNo.{StopNo}
use Rattle.footpaths.specs.Direct.{Footpath, LeadsBetween}
use Rattle.footpaths.specs.Chains.{Leads, HasChain}
use Rattle.footpaths.specs.Adjacency.{Leaving, leaves, legs_of}
use Rattle.footpaths.specs.Dijkstra.{Way, LeadToStops}
use Rattle.footpaths.proofs.DijkstraSteps.{Contains-front, Contains-later, Contains-split}
use Rattle.footpaths.proofs.DijkstraAsAWhole.{way_end}

-- what leaves a stop begins there and is within the limit
leaves_true : (limit stop : ℕ) (path : Footpath) → leaves limit stop path ≡ true → (path.0.0 ≡ stop) × (path.2 ≤ limit)
leaves_true limit stop path e = elim (cases_Bool (nat_eq path.0.0 stop)) [
  | inl here ↦ (
    eqb-true path.0.0 stop here,
    leb-true path.2 limit (subst (λ (b : Bool). cond b (nat_le path.2 limit) false ≡ true) here e),
  )
  | inr away ↦ absurd (false≢true (subst (λ (b : Bool). cond b (nat_le path.2 limit) false ≡ true) away e))
]

true_leaves : (limit : ℕ) (path : Footpath) → path.2 ≤ limit → leaves limit path.0.0 path ≡ true
true_leaves limit path low = rw (eq-eqb path.0.0 path.0.0 refl) (le-leb path.2 limit low)

-- a footpath from a stop is a direct footpath within the limit
pub direct_leaving : (direct : List Footpath) (limit stop : ℕ) (to : StopNo) (w : ℕ) →
    Contains {X = StopNo × ℕ} (legs_of direct limit stop) (to, w)
    → Contains {X = Footpath} direct (record { 0 = stop }, to, w) × (w ≤ limit)
direct_leaving [] limit stop to w c = let z = c.1 in absurd (omega (arith, z))
direct_leaving (x ∷ xs) limit stop to w c = elim (cases_Bool (leaves limit stop x)) [
  | inl out ↦
      elim (Contains-split (x.1, x.2) (to, w) (legs_of xs limit stop)
      (subst (λ (t : Bool). Contains {X = StopNo
      × ℕ} (map (λ (path : Footpath). (path.1, path.2))
      (cond t (x ∷ filter (leaves limit stop) xs) (filter (leaves limit stop) xs))) (to, w)) out c)) [
        | inl later ↦ let r = direct_leaving xs limit stop to w later in (Contains-later x _ xs r.0, r.1)
        | inr here ↦
            let l = leaves_true limit stop x out in
            let first : x.0.0 ≡ stop = l.0 in
            let same : ◌≡◌ {A = Footpath} x (record { 0 = stop }, to, w) = path_is x stop to w first here in
            let secs : w ≡ x.2 = ap (λ (q : StopNo × ℕ). q.1) here in
            let low = l.1 in
            (subst (λ (p : Footpath). Contains (x ∷ xs) p) same (Contains-front x xs), omega (arith, secs, low))
      ]
  | inr not ↦
      let r = direct_leaving xs limit stop to w
      (subst (λ (t : Bool). Contains {X = StopNo
      × ℕ} (map (λ (path : Footpath). (path.1, path.2))
      (cond t (x ∷ filter (leaves limit stop) xs) (filter (leaves limit stop) xs))) (to, w)) not c) in
      (Contains-later x _ xs r.0, r.1)
]
  where
    path_is : (x : Footpath) (stop : ℕ) (to : StopNo) (w : ℕ) → x.0.0 ≡ stop → ◌≡◌ {A = StopNo × ℕ} (to, w) (x.1, x.2) →
        ◌≡◌ {A = Footpath} x (record { 0 = stop }, to, w)
    path_is x stop to w e f = ap (λ (q : ℕ). (record { 0 = q }, x.1, x.2)) e
        ∙ ap (λ (q : StopNo × ℕ). (record { 0 = stop }, q.0, q.1)) (sym f)

-- a direct footpath within the limit is a footpath from where it begins
pub leg_of_direct : (direct : List Footpath) (limit : ℕ) (path : Footpath) → Contains direct path → path.2 ≤ limit
    → Contains {X = StopNo × ℕ} (legs_of direct limit path.0.0) (path.1, path.2)
leg_of_direct [] limit path c low = let z = c.1 in absurd (omega (arith, z))
leg_of_direct (x ∷ xs) limit path c low = elim (cases_Bool (leaves limit path.0.0 x)) [
  | inl out ↦
      subst (λ (t : Bool). Contains {X = StopNo
      × ℕ} (map (λ (p : Footpath). (p.1, p.2))
      (cond t (x ∷ filter (leaves limit path.0.0) xs) (filter (leaves limit path.0.0) xs))) (path.1, path.2)) (sym out)
      (elim (Contains-split x path xs c) [
        | inl later ↦ Contains-later (x.1, x.2) _ _ (leg_of_direct xs limit path later low)
        | inr here ↦ subst (λ (p : Footpath). Contains {X =
            StopNo × ℕ} ((x.1, x.2) ∷ legs_of xs limit path.0.0) (p.1, p.2)) (sym here) (Contains-front (x.1, x.2) _)
      ])
  | inr not ↦
      subst (λ (t : Bool). Contains {X = StopNo
      × ℕ} (map (λ (p : Footpath). (p.1, p.2))
      (cond t (x ∷ filter (leaves limit path.0.0) xs) (filter (leaves limit path.0.0) xs))) (path.1, path.2)) (sym not)
      (elim (Contains-split x path xs c) [
        | inl later ↦ leg_of_direct xs limit path later low
        | inr here ↦ absurd (false≢true (sym not ∙ ap (λ (p : Footpath). leaves limit path.0.0 p) (sym here)
            ∙ true_leaves limit path low))
      ])
]

-- one footpath more at the end of a chain
leads_more : (chain : List Footpath) (a c b : ℕ) (path : Footpath) → Leads chain a c → path.0.0 ≡ c → path.1.0 ≡ b →
    Leads (chain ++ path ∷ []) a b
leads_more [] a c b path l e f = (e ∙ sym l, f)
leads_more (x ∷ xs) a c b path l e f = (l.0, leads_more xs x.1.0 c b path l.1 e f)

-- a way is a list of direct footpaths
pub chain_of_way : (direct : List Footpath) (limit stops : ℕ) (leaving : Leaving) (a b n s : ℕ) →
    ((u : ℕ) → u < stops → leaving u ≡ legs_of direct limit u) → LeadToStops stops leaving → a < stops
    → Way leaving a b n s → (chain : List Footpath) × All (Contains direct) chain × Leads chain a b
    × (sum_by (λ (path : Footpath). path.2) chain ≡ s) × (length chain ≡ n)
chain_of_way direct limit stops leaving a b zero s same all here way =
    ([], All-nil (Contains direct), way.0, sym way.1, refl)
chain_of_way direct limit stops leaving a b (suc n) s same all here way =
    let before = chain_of_way direct limit stops leaving a way.0 n way.1 same all here way.3 in
    let place = way_end leaving stops a way.0 n way.1 all here way.3 in
    let path : Footpath = (record { 0 = way.0 }, record { 0 = b }, way.2) in
    let given = direct_leaving direct limit way.0 (record { 0 = b }) way.2
    (subst (λ (ls : List (StopNo × ℕ)). Contains {X =
    StopNo × ℕ} ls (record { 0 = b }, way.2)) (same way.0 place) way.4) in
    let total = sum_by_push (λ (p : Footpath). p.2) before.0 path in
    let sum_before = before.3 in
    let sum_now = way.5 in
    let count_before = before.4 in
    let count_now = length_push before.0 path in (
      before.0 ++ path ∷ [],
      All-push (Contains direct) before.0 path before.1 given.0,
      leads_more before.0 a way.0 b path before.2 refl refl,
      omega (arith, total, sum_before, sum_now),
      omega (arith, count_before, count_now),
    )

pub has_chain : (direct : List Footpath) (limit stops : ℕ) (leaving : Leaving) (a b n s : ℕ) →
    ((u : ℕ) → u < stops → leaving u ≡ legs_of direct limit u) → LeadToStops stops leaving → a < stops
    → a ≢ b → Way leaving a b n s → HasChain direct a b s
has_chain direct limit stops leaving a b n s same all here other way =
    let c = chain_of_way direct limit stops leaving a b n s same all here way in
    (c.0, record { some = some c.0 c.2; given = c.1; leads = c.2; sum = c.3 })
  where
    some : (chain : List Footpath) → Leads chain a b → 0 < length chain
    some [] l = absurd (other l)
    some (x ∷ xs) l = omega arith

-- a list of direct footpaths within the limit makes a way longer
pub way_of_chain : (direct : List Footpath) (limit stops : ℕ) (leaving : Leaving) (chain : List Footpath)
    (o a b n r : ℕ) → ((u : ℕ) → u < stops → leaving u ≡ legs_of direct limit u)
    → All (LeadsBetween stops) direct → a < stops → All (Contains direct) chain → Leads chain a b →
    sum_by (λ (path : Footpath). path.2) chain ≤ limit
    → Way leaving o a n r → (m : ℕ) × Way leaving o b m (r + sum_by (λ (path : Footpath). path.2) chain)
way_of_chain direct limit stops leaving [] o a b n r same between here given l low way =
    (n, subst (λ (q : ℕ). Way leaving o q n (r + 0)) l (subst (λ (t : ℕ). Way leaving o a n t) (nothing r) way))
  where
    nothing : (r : ℕ) → r ≡ r + 0
    nothing r = omega arith
way_of_chain direct limit stops leaving (x ∷ xs) o a b n r same between here given l low way =
    let total = sum_by-cons (λ (p : Footpath). p.2) x xs in
    let path = All-head (Contains direct) x xs given in
    let start = l.0 in
    let first : x.2 ≤ limit = omega (arith, total, low) in
    let footpath : Contains {X = StopNo × ℕ} (leaving a) (x.1, x.2) =
    subst (λ (ls : List (StopNo × ℕ)). Contains {X =
    StopNo × ℕ} ls (x.1, x.2)) (sym (same a here))
    (subst (λ (q : ℕ). Contains {X = StopNo × ℕ} (legs_of direct limit q) (x.1, x.2)) start
    (leg_of_direct direct limit x path first)) in
    let on : Way leaving o x.1.0 (suc n) (r + x.2) = (a, r, x.2, way, footpath, refl) in
    let place : x.1.0 < stops = (All-contains (LeadsBetween stops) direct x between path).to in
    let rest = way_of_chain direct limit stops leaving xs o x.1.0 b (suc n) (r + x.2) same between place
    (All-tail (Contains direct) x xs given) l.1 (omega (arith, total, low)) on in
    (rest.0, subst (λ (t : ℕ). Way leaving o b rest.0 t) (together r x.2 _ _ total) rest.1)
  where
    together : (r w s t : ℕ) → t ≡ w + s → r + w + s ≡ r + t
    together r w s t e = omega arith
