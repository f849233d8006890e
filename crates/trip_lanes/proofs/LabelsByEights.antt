-- Labels of parts, bounded part by part of eight.
use Rattle.std.proofs.Common.{◌≡◌, ◌+◌, ◌-◌, ◌*◌, ◌/◌, ◌%◌, ◌<◌, ◌≤◌, ◌⊎◌, inl, inr, ℕ, List, slice_index}
use Rattle.std.proofs.Common.{min, max, arith, subst, sym, ◌∙◌}
use Rattle.std.proofs.Math.Nat.{div-add-mod, mod-lt}
use Rattle.std.proofs.lemmas.Bool.{cases_lt}
use Rattle.trip_lanes.specs.Eights.{AreBounds, AreLeast, AreGreatest}

module _ (R : ℕ → ℕ → Type 0) where
  -- one part bounds itself
  pub of_part : ((a : ℕ) → R a a) → (labels eight : List ℕ) (j : ℕ) →
      ((k : ℕ) → k < 8 → slice_index eight k ≡ slice_index labels (8 * j + k)) → AreBounds R j (j + 1) labels eight
  of_part self labels eight j each =
      record {
        bounds = λ i k from end h.
            let here : j ≡ i = omega (arith, from, end) in
            subst (λ (n : ℕ). R (slice_index eight k) (slice_index labels (8 * n + k))) here
            (subst (λ (n : ℕ). R (slice_index eight k) n) (each k h) (self (slice_index eight k)));
        some = λ k h. (j, omega arith, omega arith, sym (each k h));
      }

  -- some parts and those after them
  pub of_both : ((a b c : ℕ) → R a b → R b c → R a c) → (from mid end : ℕ) (labels one other both : List ℕ) →
      from ≤ mid → mid ≤ end → AreBounds R from mid labels one → AreBounds R mid end labels other →
      ((k : ℕ) → k < 8 → R (slice_index both k) (slice_index one k)) →
      ((k : ℕ) → k < 8 → R (slice_index both k) (slice_index other k)) →
      ((k : ℕ) → k < 8 →
      (slice_index both k ≡ slice_index one k) ⊎ (slice_index both k ≡ slice_index other k)) →
      AreBounds R from end labels both
  of_both trans from mid end labels one other both early late ones others by_one by_other either =
      record {
        bounds = λ j k begins ends h.
            elim (cases_lt j mid) [
              | inl before ↦ trans _ _ _ (by_one k h) (ones.bounds j k begins before h)
              | inr after ↦ trans _ _ _ (by_other k h) (others.bounds j k after ends h)
            ];
        some = λ k h.
            elim (either k h) [
              | inl e ↦ let found = ones.some k h in (found.0, found.1, omega (arith, found.2, late), found.3 ∙ sym e)
              | inr e ↦
                  let found = others.some k h in (found.0, omega (arith, found.1, early), found.2, found.3 ∙ sym e)
            ];
      }

  -- the parts of a labels that begins with another
  pub in_front : (labels front eight : List ℕ) (n : ℕ) →
      ((l : ℕ) → l < 8 * n → slice_index front l ≡ slice_index labels l) → AreBounds R 0 n front eight →
      AreBounds R 0 n labels eight
  in_front labels front eight n same b =
      let at = λ (j k : ℕ) (ends : j < n) (h : k < 8). same (8 * j + k) (omega (arith, ends, h)) in
      record {
        bounds = λ j k begins ends h.
            subst (λ (x : ℕ). R (slice_index eight k) x) (at j k ends h) (b.bounds j k begins ends h);
        some = λ k h.
            let found = b.some k h in (found.0, found.1, found.2, sym (at found.0 k found.2 h) ∙ found.3);
      }

  -- and of a labels that ends with it
  pub in_back : (labels back eight : List ℕ) (m n : ℕ) →
      ((l : ℕ) → l < 8 * n → slice_index back l ≡ slice_index labels (8 * m + l)) → AreBounds R 0 n back eight →
      AreBounds R m (m + n) labels eight
  in_back labels back eight m n same b =
      record {
        bounds = λ j k begins ends h.
            let place : 8 * m + (8 * (j - m) + k) ≡ 8 * j + k = omega (arith, begins) in
            let there = same (8 * (j - m) + k) (omega (arith, begins, ends, h)) in
            subst (λ (i : ℕ). R (slice_index eight k) (slice_index labels i)) place
            (subst (λ (x : ℕ). R (slice_index eight k) x) there
            (b.bounds (j - m) k (omega arith) (omega (arith, begins, ends)) h));
        some = λ k h.
            let found = b.some k h in
            let place : 8 * m + (8 * found.0 + k) ≡ 8 * (m + found.0) + k = omega arith in
            let there = same (8 * found.0 + k) (omega (arith, found.2, h)) in (
              m + found.0,
              omega arith,
              omega (arith, found.2),
              subst (λ (i : ℕ). slice_index labels i ≡ slice_index eight k) place (sym there ∙ found.3),
            );
      }

  -- what bounds each lane of eight bounds each label
  pub each_label : ((a b c : ℕ) → R a b → R b c → R a c) → (n : ℕ) (labels eight : List ℕ) (x : ℕ) →
      AreBounds R 0 n labels eight → ((k : ℕ) → k < 8 → R x (slice_index eight k)) → (l : ℕ) → l < 8 * n →
      R x (slice_index labels l)
  each_label trans n labels eight x b each l h =
      let lane : l % 8 < 8 = mod-lt l (omega arith) in
      let whole : 8 * (l / 8) + l % 8 ≡ l = div-add-mod l 8 in
      let part : l / 8 < n = omega (arith, whole, h) in
      subst (λ (i : ℕ). R x (slice_index labels i)) whole
      (trans _ _ _ (each (l % 8) lane) (b.bounds (l / 8) (l % 8) (omega arith) part lane))

  -- and what is one of the eight is a label
  pub some_label : (n : ℕ) (labels eight : List ℕ) (x : ℕ) → AreBounds R 0 n labels eight →
      (k : ℕ) × (k < 8) × (slice_index eight k ≡ x) → (l : ℕ) × (l < 8 * n) × (slice_index labels l ≡ x)
  some_label n labels eight x b at =
      let found = b.some at.0 at.1 in
      (8 * found.0 + at.0, omega (arith, found.2, at.1), found.3 ∙ at.2)

pub le_trans : (a b c : ℕ) → a ≤ b → b ≤ c → a ≤ c
le_trans a b c one other = omega (arith, one, other)

pub ge_trans : (a b c : ℕ) → b ≤ a → c ≤ b → c ≤ a
ge_trans a b c one other = omega (arith, one, other)

-- the lower of two is the least of both
pub least_of_both : (from mid end : ℕ) (labels one other both : List ℕ) → from ≤ mid → mid ≤ end →
    AreLeast from mid labels one → AreLeast mid end labels other →
    ((k : ℕ) → k < 8 → slice_index both k ≡ min (slice_index one k) (slice_index other k)) →
    AreLeast from end labels both
least_of_both from mid end labels one other both early late ones others lower =
    of_both (λ a b. a ≤ b) le_trans from mid end labels one other both early late ones others
    (λ k h. let e = lower k h in omega (arith, e)) (λ k h. let e = lower k h in omega (arith, e))
    (λ k h. let e = lower k h in grind (arith, e))

pub greatest_of_both : (from mid end : ℕ) (labels one other both : List ℕ) → from ≤ mid → mid ≤ end →
    AreGreatest from mid labels one → AreGreatest mid end labels other →
    ((k : ℕ) → k < 8 → slice_index both k ≡ max (slice_index one k) (slice_index other k)) →
    AreGreatest from end labels both
greatest_of_both from mid end labels one other both early late ones others higher =
    of_both (λ a b. b ≤ a) ge_trans from mid end labels one other both early late ones others
    (λ k h. let e = higher k h in omega (arith, e)) (λ k h. let e = higher k h in omega (arith, e))
    (λ k h. let e = higher k h in grind (arith, e))
