-- Dijkstra's algorithm as a whole: what is true at first, while notes are taken one by one, and when none is left.
use Rattle.std.proofs.Common.{◌≡◌, ◌≢◌, ◌<◌, ◌≤◌, ◌+◌, ◌-◌, inl, inr, ℕ, zero, suc, List, [], ◌∷◌, length, get_or}
use Rattle.std.proofs.Common.{arith, sym, ◌∙◌, ap, subst}
use Rattle.std.proofs.Math.ListN.{set}
use Rattle.std.specs.List.{Contains}
use Rattle.std.specs.List.Sorted.{IsPermutation, IsSorted}
use Rattle.std.specs.Ordering.{nat_cmp}
use Rattle.std.proofs.lemmas.Bool.{cases_eq}
use Rattle.std.proofs.lemmas.List.{length-set, get_or-set_same, get_or-set_other, nil_from_length}
use Rattle.std.proofs.lemmas.List.Elements.{All-contains}
use Rattle.std.proofs.lemmas.List.Sorted.{Contains-permutation, IsPermutation-sym}
use Rattle.timetable.specs.declared.trips.StopNo.{StopNo}
use Rattle.footpaths.specs.Adjacency.{Leaving}
use Rattle.footpaths.specs.Dijkstra.{Marks, AreFresh, Way, LeadToStops, PassedOn, Spreads, AreShortest}
use Rattle.footpaths.proofs.DijkstraSteps.{Contains-front, Contains-later, Contains-split}
use Rattle.footpaths.proofs.ReachedStops.{touched_none, touched_sorted, touched_ascend}

-- a way from a stop leads to a stop
pub way_end : (leaving : Leaving) (stops a b n s : ℕ) → LeadToStops stops leaving → a < stops → Way leaving a b n s →
    b < stops
way_end leaving stops a b zero s all here c = subst (λ (x : ℕ). x < stops) c.0 here
way_end leaving stops a b (suc n) s all here c =
    All-contains (λ (footpath : StopNo × ℕ). footpath.0.0 < stops) (leaving c.0) (record { 0 = b }, c.2)
    (all c.0 (way_end leaving stops a c.0 n c.1 all here c.3)) c.4

-- where nothing is noted, no way is shorter
pub least : (leaving : Leaving) (stops source limit : ℕ) (m : Marks) → LeadToStops stops leaving → length m.noted ≡ 0 →
    Spreads leaving stops source limit m
    → source < stops → (n p s : ℕ) → Way leaving source p n s → s ≤ limit → get_or m.labels p 0 ≤ s
least leaving stops source limit m all none st here zero p s c low =
    subst (λ (q : ℕ). get_or m.labels q 0 ≤ s) c.0 (let z = st.start in omega arith)
least leaving stops source limit m all none st here (suc n) p s c low =
    let before = least leaving stops source limit m all none st here n c.0 c.1 c.3 (let e = c.5 in omega arith) in
    let place = way_end leaving stops source c.0 n c.1 all here c.3 in
    elim (st.passed c.0 place (let e = c.5 in omega arith)) [
      | inl noted ↦ (let h = noted.1 in absurd (omega arith))
      | inr on ↦ (let h = on p c.2 c.4 (let e = c.5 in omega arith) in let e = c.5 in omega arith)
    ]

-- the note that is taken is of a stop
pub note_taken : (leaving : Leaving) (stops source limit : ℕ) (m : Marks) (ks : List (ℕ × ℕ)) (x : ℕ × ℕ) →
    IsPermutation m.noted (x ∷ ks)
    → Spreads leaving stops source limit m → (x.0 ≤ limit) × (x.1 < stops)
note_taken leaving stops source limit m ks x moved st =
    st.noted x (Contains-permutation _ _ x (IsPermutation-sym _ _ moved) (Contains-front x ks))

-- a note that is out of date
pub note_dropped : (leaving : Leaving) (stops source limit : ℕ) (m : Marks) (ks : List (ℕ × ℕ)) (x : ℕ × ℕ) →
    IsPermutation m.noted (x ∷ ks)
    → Spreads leaving stops source limit m → (limit - x.0 ≡ get_or m.labels x.1 0 → ⊥)
    → Spreads leaving stops source limit (record { labels = m.labels; touched = m.touched; noted = ks })
note_dropped leaving stops source limit m ks x moved st stale = record {
  count = st.count;
  start = st.start;
  way = st.way;
  passed = λ u here low. elim (st.passed u here low) [
    | inl noted ↦ elim (Contains-split x _ ks (Contains-permutation _ _ _ moved noted)) [
      | inl c ↦ inl c
      | inr e ↦ absurd (stale (subst (λ (y : ℕ × ℕ). limit - y.0 ≡ get_or m.labels y.1 0) e (omega arith)))
    ]
    | inr on ↦ inr on
  ];
  noted = λ y c. st.noted y (Contains-permutation _ _ y (IsPermutation-sym _ _ moved) (Contains-later x y ks c));
  touched = record { reached = st.touched.reached; all = st.touched.all; once = st.touched.once };
}

-- a note that is up to date, once the label was passed on
pub note_served : (leaving : Leaving) (stops source limit : ℕ) (m new : Marks) (ks : List (ℕ × ℕ)) (x : ℕ × ℕ)
    → IsPermutation m.noted (x ∷ ks) → Spreads leaving stops source limit m → limit - x.0 ≡ get_or m.labels x.1 0
    → PassedOn limit (limit - x.0) (leaving x.1) (record { labels = m.labels; touched = m.touched; noted = ks }) new →
    Spreads leaving stops source limit new
note_served leaving stops source limit m new ks x moved st fresh p =
    let first = st.noted x (Contains-permutation _ _ x (IsPermutation-sym _ _ moved) (Contains-front x ks)) in
    record {
      count = p.count ∙ st.count;
      start = let a = p.lower source in let b = st.start in omega arith;
      way = λ q here low. elim (p.cause q) [
        | inl same ↦ subst (λ (l : ℕ). (n : ℕ) × Way leaving source q n l) (sym same) (st.way q here (omega arith))
        | inr f ↦ let c = st.way x.1 first.1 (omega arith) in
            (suc c.0, (x.1, get_or m.labels x.1 0, f.0, c.1, f.1, f.3 ∙ ap (λ (l : ℕ). l + f.0) fresh))
      ];
      passed = λ u here low. elim (p.cause u) [
        | inr f ↦ inl f.4
        | inl same ↦ elim (st.passed u here (omega arith)) [
          | inr on ↦ inr (λ v w footpath within. let a = on v w footpath (omega arith) in let b = p.lower v in
              omega arith)
          | inl noted ↦ elim (Contains-split x _ ks (Contains-permutation _ _ _ moved noted)) [
            | inl c ↦ inl (p.kept _ (subst (λ (l : ℕ). Contains ks (limit - l, u)) (sym same) c))
            | inr e ↦ inr (λ v w footpath within. fresh_on u v w e footpath within same)
          ]
        ]
      ];
      noted = λ y c. elim (p.only y c) [
        | inl old ↦ st.noted y (Contains-permutation _ _ y (IsPermutation-sym _ _ moved) (Contains-later x y ks old))
        | inr h ↦ (h.0, subst (λ (n : ℕ). y.1 < n) st.count h.1)
      ];
      touched = p.touched source st.start (record {
        reached = st.touched.reached;
        all = st.touched.all;
        once = st.touched.once;
      });
    }
  where
    -- the stop itself: its label was passed on along its leaving
    fresh_on : (u v w : ℕ) → (limit - get_or m.labels u 0, u) ≡ x → Contains (leaving u) (record { 0 = v }, w) →
        get_or new.labels u 0 + w ≤ limit
        → get_or new.labels u 0 ≡ get_or m.labels u 0 → get_or new.labels v 0 ≤ get_or new.labels u 0 + w
    fresh_on u v w e footpath within same =
        let stop : u ≡ x.1 = ap (λ (y : ℕ × ℕ). y.1) e in
        let label : get_or new.labels u 0 ≡ limit - x.0 = same ∙ ap (λ (q : ℕ). get_or m.labels q 0) stop ∙ sym fresh in
        let known : Contains (leaving x.1) (record { 0 = v }, w) =
        subst (λ (q : ℕ). Contains (leaving q) (record { 0 = v }, w)) stop footpath in
        let a = p.met v w known (omega arith) in
        omega arith

-- at first the source alone has a label, and is noted
pub started : (leaving : Leaving) (stops source limit : ℕ) (m : Marks) (ks : List (ℕ × ℕ)) → limit ≤ 7200 →
    source < stops → AreFresh stops m
    → IsPermutation ((limit, source) ∷ []) ks
    → Spreads leaving stops source limit (record { labels = set m.labels source 0; touched = []; noted = ks })
started leaving stops source limit m ks low here fresh moved =
    let place : source < length m.labels = rw fresh.count here in
    let at : get_or (set m.labels source 0) source 0 ≡ 0 = get_or-set_same m.labels source 0 0 place in
    let other : (p : ℕ) → p < stops → p ≢ source →
    get_or (set m.labels source 0) p 0 ≡ 4294967295 =
    λ p h n. get_or-set_other m.labels source p 0 0 n ∙ fresh.never p 0 (rw fresh.count h) in
    record {
      count = length-set m.labels source 0 ∙ fresh.count;
      start = at;
      way = λ p h l. elim (cases_eq p source) [
        | inl e ↦ (0, (sym e, ap (λ (q : ℕ). get_or (set m.labels source 0) q 0) e ∙ at))
        | inr n ↦ let v = other p h n in absurd (omega (arith, v, l, low))
      ];
      passed = λ p h l. elim (cases_eq p source) [
        | inl e ↦ inl (Contains-permutation _ _ _ moved
            (subst (λ (y : ℕ × ℕ). Contains ((limit, source) ∷ []) y) (start_note p e)
            (Contains-front (limit, source) [])))
        | inr n ↦ let v = other p h n in absurd (omega (arith, v, l, low))
      ];
      noted = λ y c. elim (Contains-split (
        limit,
        source,
      ) y [] (Contains-permutation _ _ y (IsPermutation-sym _ _ moved) c)) [
        | inl never ↦ let z = never.1 in absurd (omega (arith, z))
        | inr e ↦ subst (λ (z : ℕ × ℕ). (z.0 ≤ limit) × (z.1 < stops)) (sym e) (omega arith, here)
      ];
      touched = touched_none source limit (set m.labels source 0) ks (λ p below n. other p (let c =
          length-set m.labels source 0 in let d = fresh.count in omega (arith, below, c, d)) n);
    }
  where
    pair : (a b c d : ℕ) → a ≡ b → c ≡ d → ◌≡◌ {A = ℕ × ℕ} (a, c) (b, d)
    pair a b c d e f = cc

    zero_at : (p : ℕ) → p ≡ source → get_or (set m.labels source 0) p 0 ≡ 0
    zero_at p e = ap (λ (q : ℕ). get_or (set m.labels source 0) q 0) e
        ∙ get_or-set_same m.labels source 0 0 (rw fresh.count here)

    less : (a b : ℕ) → b ≡ 0 → a ≡ a - b
    less a b e = omega arith

    start_note : (p : ℕ) → p ≡ source → ◌≡◌ {A = ℕ × ℕ} (limit, source) (limit - get_or (set m.labels source 0) p 0, p)
    start_note p e = pair _ _ _ _ (less limit _ (zero_at p e)) (sym e)

-- when nothing is noted and the stops that are reached are sorted
pub all_shortest : (leaving : Leaving) (stops source limit : ℕ) (m : Marks) (ts : List ℕ) (ks : List (ℕ × ℕ)) →
    LeadToStops stops leaving → source < stops → length m.noted ≡ 0 → length ks ≡ 0
    → Spreads leaving stops source limit m → IsPermutation m.touched ts → IsSorted nat_cmp ts
    → AreShortest leaving stops source limit (record { labels = m.labels; touched = ts; noted = ks })
all_shortest leaving stops source limit m ts ks all here none left st moved sorted =
    let touched = touched_sorted source limit m ts ks moved st.touched in
    record {
      count = st.count;
      ascending = touched_ascend source limit (record { labels = m.labels; touched = ts; noted = ks }) sorted touched;
      noted = nil_from_length ks left;
      touched = touched;
      way = st.way;
      least = λ p n s c low. least leaving stops source limit m all none st here n p s c low;
    }
