-- One step of Dijkstra's algorithm: a label is offered to a stop, and to one footpath more.
use Rattle.std.proofs.Common.{◌≡◌, ◌<◌, ◌≤◌, ◌+◌, ◌-◌, ◌++◌, ◌⊎◌, inl, inr, ℕ, zero, suc, List, [], ◌∷◌, length, take}
use Rattle.std.proofs.Common.{get_or, arith, refl, sym, ◌∙◌, ap, subst}
use Rattle.std.proofs.Math.ListN.{set}
use Rattle.std.specs.List.{Contains}
use Rattle.std.specs.List.Sorted.{IsPermutation}
use Rattle.std.proofs.lemmas.Bool.{cases_eq}
use Rattle.std.proofs.lemmas.List.{length-set, get_or-set_same, get_or-set_other, get_or-take, length-take-le}
use Rattle.std.proofs.lemmas.List.{get_or_default}
use Rattle.std.proofs.lemmas.List.Elements.{Contains-get_or}
use Rattle.std.proofs.lemmas.List.Sums.{sum_by-set}
use Rattle.std.proofs.lemmas.List.Sorted.{Contains-permutation, IsPermutation-sym, length_permutation}
use Rattle.timetable.specs.declared.trips.StopNo.{StopNo}
use Rattle.footpaths.specs.Dijkstra.{Marks, AreTouched, Relaxed, PassedOn}
use Rattle.footpaths.proofs.ReachedStops.{touched_lowered, touched_more}

pub Contains-front : {X : Type 0} (x : X) (xs : List X) → Contains (x ∷ xs) x
Contains-front x xs = (0, omega arith, refl)

pub Contains-later : {X : Type 0} (y x : X) (xs : List X) → Contains xs x → Contains (y ∷ xs) x
Contains-later y x xs c = (suc c.0, omega (arith, c.1), c.2)

pub Contains-split : {X : Type 0} (y x : X) (xs : List X) → Contains (y ∷ xs) x → (Contains xs x) ⊎ (x ≡ y)
Contains-split {X} y x xs c = go c.0 c.1 c.2
  where
    go : (k : ℕ) → k < length (y ∷ xs) → get_or (y ∷ xs) k x ≡ x → (Contains xs x) ⊎ (x ≡ y)
    go zero h e = inr (sym e)
    go (suc k) h e = inl (k, omega arith, e)

-- a label falls, and the stop is noted
lowered : (limit stop label : ℕ) (old : Marks) (ts : List ℕ) (ks : List (ℕ × ℕ)) → stop < length old.labels →
    label < get_or old.labels stop 0
    → IsPermutation ((limit - label, stop) ∷ old.noted) ks
    → ((source : ℕ) → get_or old.labels source 0 ≡ 0 → AreTouched source limit old →
    AreTouched source limit (record { labels = set old.labels stop label; touched = ts; noted = ks }))
    → Relaxed limit stop label old (record { labels = set old.labels stop label; touched = ts; noted = ks })
lowered limit stop label old ts ks here less moved touched =
    let ls = old.labels in
    let at : get_or (set ls stop label) stop 0 ≡ label = get_or-set_same ls stop label 0 here in
    let noted : Contains ks (limit - label, stop) = Contains-permutation _ _ _ moved (Contains-front _ old.noted) in
    let total = sum_by-set (λ x. x) ls stop label 0 here in
    let count = length_permutation _ _ moved in
    record {
      count = length-set ls stop label;
      lower = λ p. elim (cases_eq p stop) [
        | inl e ↦ rw (e, at) (omega arith)
        | inr n ↦ rw (get_or-set_other ls stop p label 0 n) (omega arith)
      ];
      met = rw at (omega arith);
      cause = λ p. elim (cases_eq p stop) [
        | inl e ↦ inr (e, ap (λ q. get_or (set ls stop label) q 0) e ∙ at, noted)
        | inr n ↦ inl (get_or-set_other ls stop p label 0 n)
      ];
      kept = λ x c. Contains-permutation _ _ x moved (Contains-later _ x old.noted c);
      only = λ x c. Contains-split _ x old.noted (Contains-permutation _ _ x (IsPermutation-sym _ _ moved) c);
      measure = omega arith;
      touched = touched;
    }

-- a stop's first label
pub relaxed_first : (limit stop label : ℕ) (old : Marks) (ks : List (ℕ × ℕ)) → stop < length old.labels →
    label ≤ limit → limit ≤ 7200
    → get_or old.labels stop 0 ≡ 4294967295 → IsPermutation ((limit - label, stop) ∷ old.noted) ks
    → Relaxed limit stop label old (record {
      labels = set old.labels stop label;
      touched = old.touched ++ stop ∷ [];
      noted = ks;
    })
relaxed_first limit stop label old ks here low high never moved =
    lowered limit stop label old (old.touched ++ stop ∷ []) ks here (omega arith) moved
    (λ source start t. touched_more limit stop label source old ks here low (omega arith) never start t)

-- a lower label
pub relaxed_again : (limit stop label : ℕ) (old : Marks) (ks : List (ℕ × ℕ)) → stop < length old.labels → label ≤ limit
    → (get_or old.labels stop 0 ≡ 4294967295 → ⊥) → label < get_or old.labels stop 0 →
    IsPermutation ((limit - label, stop) ∷ old.noted) ks
    → Relaxed limit stop label old (record { labels = set old.labels stop label; touched = old.touched; noted = ks })
relaxed_again limit stop label old ks here low there less moved =
    lowered limit stop label old old.touched ks here less moved
    (λ source start t. touched_lowered limit stop label source old ks here low there t)

-- a footpath of one more is a footpath of those before, or that footpath
pub Contains-more : {X : Type 0} (xs : List X) (i : ℕ) (x d : X) → i < length xs → Contains (take (i + 1) xs) x →
    (Contains (take i xs) x) ⊎ (x ≡ get_or xs i d)
Contains-more xs i x d here c =
    let below : c.0 < i + 1 = rw (← length-take-le (i + 1) xs (omega arith)) c.1 in
    elim (cases_eq c.0 i) [
      | inl e ↦ inr (sym c.2 ∙ get_or-take (i + 1) xs c.0 x below ∙ ap (λ k. get_or xs k x) e
          ∙ get_or_default xs i x d here)
      | inr n ↦ inl (
        c.0,
        rw (length-take-le i xs (omega arith)) (omega arith),
        get_or-take i xs c.0 x (omega arith) ∙ sym (get_or-take (i + 1) xs c.0 x below) ∙ c.2,
      )
    ]

pub Contains-kept : {X : Type 0} (xs : List X) (i : ℕ) (x : X) → i < length xs → Contains (take i xs) x →
    Contains (take (i + 1) xs) x
Contains-kept xs i x here c =
    let below : c.0 < i = rw (← length-take-le i xs (omega arith)) c.1 in (
      c.0,
      rw (length-take-le (i + 1) xs (omega arith)) (omega arith),
      get_or-take (i + 1) xs c.0 x (omega arith) ∙ sym (get_or-take i xs c.0 x below) ∙ c.2,
    )

-- the footpath at i is a footpath of one more
pub Contains-last : {X : Type 0} (xs : List X) (i : ℕ) (d : X) → i < length xs →
    Contains (take (i + 1) xs) (get_or xs i d)
Contains-last xs i d here = subst (Contains (take (i + 1) xs)) (get_or-take (i + 1) xs i d (omega arith))
    (Contains-get_or (take (i + 1) xs) i d (rw (length-take-le (i + 1) xs (omega arith)) (omega arith)))

-- one footpath more, whose label is past the limit
pub leg_skipped : (limit label i : ℕ) (leaving : List (StopNo × ℕ)) (old new : Marks) (d : StopNo × ℕ) →
    i < length leaving
    → limit < label + (get_or leaving i d).1 → PassedOn limit label (take i leaving) old new →
    PassedOn limit label (take (i + 1) leaving) old new
leg_skipped limit label i leaving old new d here high p = record {
  count = p.count;
  lower = p.lower;
  met = λ v w c low. elim (Contains-more leaving i (record { 0 = v }, w) d here c) [
    | inl before ↦ p.met v w before low
    | inr e ↦ let f : w ≡ (get_or leaving i d).1 = ap (λ (q : StopNo × ℕ). q.1) e in absurd (omega arith)
  ];
  cause = λ q. elim (p.cause q) [
    | inl e ↦ inl e
    | inr f ↦ inr (f.0, Contains-kept leaving i _ here f.1, f.2, f.3, f.4)
  ];
  kept = p.kept;
  only = p.only;
  measure = p.measure;
  touched = p.touched;
}

-- one footpath more, along which the label was passed
pub leg_passed : (limit label i : ℕ) (leaving : List (StopNo × ℕ)) (old now new : Marks) (d : StopNo × ℕ) →
    i < length leaving
    → (get_or leaving i d).0.0 < length old.labels → label + (get_or leaving i d).1 ≤ limit →
    PassedOn limit label (take i leaving) old now
    → Relaxed limit (get_or leaving i d).0.0 (label + (get_or leaving i d).1) now new →
    PassedOn limit label (take (i + 1) leaving) old new
leg_passed limit label i leaving old now new d here to low p r = record {
  count = r.count ∙ p.count;
  lower = λ q. let a = r.lower q in let b = p.lower q in omega arith;
  met = λ v w c within. elim (Contains-more leaving i (record { 0 = v }, w) d here c) [
    | inl before ↦ let a = r.lower v in let b = p.met v w before within in omega arith
    | inr e ↦ subst (λ (x : StopNo × ℕ). get_or new.labels x.0.0 0 ≤ label + x.1) (sym e) r.met
  ];
  cause = λ q. elim (r.cause q) [
    | inl same ↦ elim (p.cause q) [
      | inl e ↦ inl (same ∙ e)
      | inr f ↦ inr (
        f.0,
        Contains-kept leaving i _ here f.1,
        f.2,
        same ∙ f.3,
        r.kept _ (subst (λ (l : ℕ). Contains now.noted (limit - l, q)) (sym same) f.4),
      )
    ]
    | inr f ↦ inr (
      (get_or leaving i d).1,
      subst (λ (x : ℕ). Contains (take (i + 1) leaving) (record { 0 = x }, (get_or leaving i d).1)) (sym f.0)
          (Contains-last leaving i d here),
      low,
      f.1,
      subst (λ (l : ℕ). Contains new.noted (limit - l, q)) (sym f.1)
          (subst (λ (x : ℕ). Contains new.noted (limit - (label + (get_or leaving i d).1), x)) (sym f.0) f.2),
    )
  ];
  kept = λ x c. r.kept x (p.kept x c);
  only = λ x c. elim (r.only x c) [
    | inl before ↦ p.only x before
    | inr e ↦ inr (subst (λ (y : ℕ × ℕ). (y.0 ≤ limit) × (y.1 < length old.labels)) (sym e) (omega arith, to))
  ];
  measure = let a = r.measure in let b = p.measure in omega arith;
  touched = λ source start t. r.touched source (let b = p.lower source in
      omega (arith, b, start)) (p.touched source start t);
}
