-- The stops that are reached, when a label falls and when they are sorted.
use Rattle.std.proofs.Common.{◌≡◌, ◌≢◌, ◌<◌, ◌≤◌, ◌++◌, ◌⊎◌, inl, inr, ℕ, List, [], ◌∷◌, false, length, get_or, arith}
use Rattle.std.proofs.Common.{sym, ◌∙◌, ap, subst}
use Rattle.std.specs.List.{Contains, All, list_any}
use Rattle.std.specs.List.Sorted.{IsPermutation, IsStrictlyIncreasing, IsSorted}
use Rattle.std.specs.Ordering.{nat_cmp}
use Rattle.std.specs.Cmp.{nat_eq_equiv}
use Rattle.std.specs.Prelude.{nat_eq}
use Rattle.std.proofs.Math.ListN.{set}
use Rattle.std.proofs.lemmas.Bool.{cases_eq, cases_Bool, eqb-true}
use Rattle.std.proofs.lemmas.List.{length-set, get_or-set_same, get_or-set_other}
use Rattle.std.proofs.lemmas.List.Elements.{Contains-push, Contains-push_cases, Contains-append_left, All-from_get_or}
use Rattle.std.proofs.lemmas.List.Elements.{All-contains}
use Rattle.std.proofs.lemmas.List.Sorted.{Contains-permutation, IsPermutation-sym, IsNonDecreasingBy-from_sort}
use Rattle.std.proofs.lemmas.Map.Keys.{IsDistinct-push, IsDistinct-from_apart, IsDistinct-IsPermutation}
use Rattle.std.proofs.lemmas.Map.Keys.{IsStrictlyIncreasing-from_distinct}
use Rattle.std.proofs.lemmas.Map.Views.{Contains-from_any}
use Rattle.footpaths.specs.Dijkstra.{Marks, AreTouched}

-- a label that was there already falls
pub touched_lowered : (limit stop label source : ℕ) (old : Marks) (ks : List (ℕ × ℕ)) → stop < length old.labels →
    label ≤ limit
    → (get_or old.labels stop 0 ≡ 4294967295 → ⊥) → AreTouched source limit old
    → AreTouched source limit (record { labels = set old.labels stop label; touched = old.touched; noted = ks })
touched_lowered limit stop label source old ks here low there t = record {
  reached = λ p c. let r = t.reached p c in (
    rw (length-set old.labels stop label) r.0,
    r.1,
    elim (cases_eq p stop) [
      | inl e ↦ rw (e, get_or-set_same old.labels stop label 0 here) low
      | inr n ↦ rw (get_or-set_other old.labels stop p label 0 n) r.2
    ],
  );
  all = λ p below other. elim (t.all p (subst (λ (n : ℕ). p < n) (length-set old.labels stop label) below) other) [
    | inl c ↦ inl c
    | inr never ↦ elim (cases_eq p stop) [
      | inl e ↦ absurd (there (ap (λ (q : ℕ). get_or old.labels q 0) (sym e) ∙ never))
      | inr n ↦ inr (get_or-set_other old.labels stop p label 0 n ∙ never)
    ]
  ];
  once = t.once;
}

-- a stop gets its first label
pub touched_more : (limit stop label source : ℕ) (old : Marks) (ks : List (ℕ × ℕ)) → stop < length old.labels →
    label ≤ limit → limit < 4294967295
    → get_or old.labels stop 0 ≡ 4294967295 → get_or old.labels source 0 ≡ 0 → AreTouched source limit old
    → AreTouched source limit (record {
      labels = set old.labels stop label;
      touched = old.touched ++ stop ∷ [];
      noted = ks;
    })
touched_more limit stop label source old ks here low high never start t = record {
  reached = λ p c. elim (Contains-push_cases old.touched stop p c) [
    | inl before ↦ let r = t.reached p before in (
      rw (length-set old.labels stop label) r.0,
      r.1,
      elim (cases_eq p stop) [
        | inl e ↦ rw (e, get_or-set_same old.labels stop label 0 here) low
        | inr n ↦ rw (get_or-set_other old.labels stop p label 0 n) r.2
      ],
    )
    | inr e ↦ subst (λ (q : ℕ). (q < length (set old.labels stop label)) × (q ≢ source)
        × (get_or (set old.labels stop label) q 0 ≤ limit)) e
        (rw (length-set old.labels stop label) here, other_stop, rw (get_or-set_same old.labels stop label 0 here) low)
  ];
  all = λ p below other. elim (cases_eq p stop) [
    | inl e ↦ inl (subst (Contains (old.touched ++ stop ∷ [])) (sym e) (Contains-push old.touched stop))
    | inr n ↦ elim (t.all p (subst (λ (m : ℕ). p < m) (length-set old.labels stop label) below) other) [
      | inl c ↦ inl (Contains-append_left old.touched (stop ∷ []) p c)
      | inr none ↦ inr (get_or-set_other old.labels stop p label 0 n ∙ none)
    ]
  ];
  once = IsDistinct-push nat_eq_equiv old.touched stop t.once new_stop;
}
  where
    other_stop : stop ≢ source
    other_stop e = let z : get_or old.labels stop 0 ≡ 0 = ap (λ (q : ℕ). get_or old.labels q 0) e ∙ start in
        omega (arith, z, never)

    new_stop : list_any (nat_eq stop) old.touched ≡ false
    new_stop = elim (cases_Bool (list_any (nat_eq stop) old.touched)) [
      | inl found ↦ let r = (t.reached stop (Contains-from_any (λ x y e. eqb-true x y e) stop old.touched found)).2 in
          absurd (omega (arith, r, never, high))
      | inr none ↦ none
    ]

-- the same stops in ascending order
pub touched_sorted : (source limit : ℕ) (m : Marks) (ts : List ℕ) (ks : List (ℕ × ℕ)) → IsPermutation m.touched ts →
    AreTouched source limit m
    → AreTouched source limit (record { labels = m.labels; touched = ts; noted = ks })
touched_sorted source limit m ts ks moved t = record {
  reached = λ p c. t.reached p (Contains-permutation ts m.touched p (IsPermutation-sym m.touched ts moved) c);
  all = λ p below other. elim (t.all p below other) [
    | inl c ↦ inl (Contains-permutation m.touched ts p moved c)
    | inr never ↦ inr never
  ];
  once = IsDistinct-IsPermutation nat_eq (λ x y. nat_eq_equiv.symm x y) m.touched ts moved t.once;
}

pub touched_ascend : (source limit : ℕ) (m : Marks) → IsSorted nat_cmp m.touched → AreTouched source limit m →
    IsStrictlyIncreasing m.touched
touched_ascend source limit m sorted t =
    IsStrictlyIncreasing-from_distinct m.touched (IsNonDecreasingBy-from_sort (λ x. x) m.touched sorted) t.once

-- none is reached yet
pub touched_none : (source limit : ℕ) (labels : List ℕ) (ks : List (ℕ × ℕ)) →
    ((p : ℕ) → p < length labels → p ≢ source → get_or labels p 0 ≡ 4294967295)
    → AreTouched source limit (record { labels = labels; touched = []; noted = ks })
touched_none source limit labels ks never = record {
  reached = λ p c. let z = c.1 in absurd (omega (arith, z));
  all = λ p below other. inr (never p below other);
  once = IsDistinct-from_apart nat_eq [] (λ i j d lt below. absurd (omega (arith, below)));
}

-- the labels of the stops that were reached, and of the source, are taken back
pub labels_taken_back : (source limit : ℕ) (m : Marks) (news : List ℕ) → source < length m.labels →
    length news ≡ length m.labels → AreTouched source limit m
    → All (λ stop. get_or news stop 0 ≡ 4294967295) m.touched
    → ((p : ℕ) → (get_or news p 0 ≡ get_or m.labels p 0) ⊎ (get_or news p 0 ≡ 4294967295))
    → All (λ label. label ≡ 4294967295) (set news source 4294967295)
labels_taken_back source limit m news here same t forgotten others =
    All-from_get_or (λ label. label ≡ 4294967295) (set news source 4294967295) 0 (λ p below. elim (cases_eq p source) [
      | inl e ↦ ap (λ (q : ℕ). get_or (set news source 4294967295) q 0) e
          ∙ get_or-set_same news source 4294967295 0 (rw same here)
      | inr n ↦ get_or-set_other news source p 4294967295 0 n
          ∙ elim (t.all p (let l = length-set news source 4294967295 in omega (arith, l, below, same)) n) [
            | inl c ↦ All-contains (λ stop. get_or news stop 0 ≡ 4294967295) m.touched p forgotten c
            | inr never ↦ elim (others p) [
              | inl old ↦ old ∙ never
              | inr gone ↦ gone
            ]
          ]
    ])
