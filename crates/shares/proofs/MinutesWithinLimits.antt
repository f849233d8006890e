-- How the minutes within a limit grow with it, and what labels tell of them.
use Rattle.std.proofs.Math.ListN.{get_or-append}
use Rattle.std.proofs.Math.Seq.{get_or-append_seam}
use Rattle.std.proofs.lemmas.Bool.{cases_lt, cases_eq}
use Rattle.rounds.specs.Table.{DurationTable, known_of, IsLeastOrNone}
use Rattle.std.proofs.Common.{List, [], ◌∷◌, ◌++◌, get_or, length, sym, subst, inl, inr, ◌≡◌, ◌≤◌, ◌<◌, ◌+◌, ℕ, zero}
use Rattle.std.proofs.Common.{suc, false, Option, Some, None, nat_le, arith, refl, if◌then◌else◌, ◌==◌, ap, ◌∙◌}
use Rattle.timetable.specs.declared.least.TheConstants.{NEVER}
use Rattle.std.proofs.lemmas.Bool.Decides.{nat_tests}
use Rattle.std.proofs.lemmas.Option.{same_Some}
use Rattle.timetable.specs.declared.trips.StopNo.{StopNo}
use Rattle.std.specs.List.{slice_get}
use Rattle.shares.specs.Opportunities.{counted}
use Rattle.shares.specs.Percentiles.{is_within, minutes_within, Attains, IsCell}

pub differs : (x : ℕ) → (x ≡ NEVER → ⊥) → (x == NEVER) ≡ false
differs x d = grind (arith, d)

-- a label is within a duration just where the duration that it tells is
pub within_label : (x d : ℕ) → d < NEVER → is_within d (known_of x) ≡ nat_le x d
within_label x d l = elim (cases_eq x NEVER) [
  | inl e ↦ rw e (grind (arith, nat_tests, l))
  | inr n ↦ rw (differs x n) refl
]

within_more : (x : Option ℕ) (d e : ℕ) → d ≤ e → (if is_within d x then 1 else 0) ≤ (if is_within e x then 1 else 0)
within_more None d e h = omega arith
within_more (Some x) d e h = grind (arith, nat_tests)

pub count_more : (ds : ℕ → Option ℕ) (n d e : ℕ) → d ≤ e → minutes_within ds d n ≤ minutes_within ds e n
count_more ds zero d e h = omega arith
count_more ds (suc n) d e h =
    let rest = count_more ds n d e h in
    let head = within_more (ds n) d e h in
    omega (arith, rest, head)

pub attains_more : (ds : ℕ → Option ℕ) (n share d e : ℕ) → d ≤ e → Attains ds n share d → Attains ds n share e
attains_more ds n share d e h a = let m = count_more ds n d e h in omega (arith, m, a)

-- beyond all durations a longer limit adds nothing
within_top : (x : Option ℕ) (d e : ℕ) → ((s : ℕ) → x ≡ Some s → s ≤ d) →
    (if is_within e x then 1 else 0) ≤ (if is_within d x then 1 else 0)
within_top None d e h = omega arith
within_top (Some x) d e h = let low = h x refl in grind (arith, nat_tests)

pub count_top : (ds : ℕ → Option ℕ) (n d e : ℕ) → ((m s : ℕ) → m < n → ds m ≡ Some s → s ≤ d) →
    minutes_within ds e n ≤ minutes_within ds d n
count_top ds zero d e h = omega arith
count_top ds (suc n) d e h =
    let rest = count_top ds n d e (λ m s l. h m s (omega (arith, l))) in
    let head = within_top (ds n) d e (λ s. h n s (omega arith)) in
    omega (arith, rest, head)

pub attains_top : (ds : ℕ → Option ℕ) (n share d e : ℕ) → ((m s : ℕ) → m < n → ds m ≡ Some s → s ≤ d) →
    Attains ds n share e → Attains ds n share d
attains_top ds n share d e h a = let m = count_top ds n d e h in omega (arith, m, a)

pub cells_more : (t : DurationTable) (share : ℕ) (cs : List (Option ℕ)) (c : Option ℕ) (n : ℕ) → length cs ≡ n →
    ((p : ℕ) → p < n → IsCell t share p (get_or cs p None)) → IsCell t share n c → (p : ℕ) → p < n + 1 →
    IsCell t share p (get_or (cs ++ c ∷ []) p None)
cells_more t share cs c n same before last p h = elim (cases_lt p n) [
  | inl l ↦ subst (λ (o : Option ℕ). IsCell t share p o)
      (sym (get_or-append cs (c ∷ []) None p (let k : p < length cs = omega (arith, l, same) in k))) (before p l)
  | inr g ↦
      let here : length cs ≡ p = omega (arith, h, g, same) in
      let there : n ≡ p = omega (arith, h, g) in
      let row : c ≡ get_or (cs ++ c ∷ []) p None =
      subst (λ (k : ℕ). c ≡ get_or (cs ++ c ∷ []) k None) here (sym (get_or-append_seam cs c [] None)) in
      subst (λ (o : Option ℕ). IsCell t share p o) row (subst (λ (k : ℕ). IsCell t share k c) there last)
]

-- a cell more, of one more destination
pub cells_at_more : (t : DurationTable) (share : ℕ) (ds : List StopNo) (cs : List (Option ℕ)) (c : Option ℕ) (k : ℕ)
    (stop : StopNo) → length cs ≡ k
    → ((j : ℕ) (other : StopNo) → j < k → slice_get ds j ≡ Some other → IsCell t share other.0 (get_or cs j None))
    → slice_get ds k ≡ Some stop → IsCell t share stop.0 c
    → (j : ℕ) (other : StopNo) → j < k + 1 → slice_get ds j ≡ Some other →
    IsCell t share other.0 (get_or (cs ++ c ∷ []) j None)
cells_at_more t share ds cs c k stop same before here last j other h at = elim (cases_lt j k) [
  | inl l ↦
      subst (λ (o : Option ℕ). IsCell t share other.0 o)
      (sym (get_or-append cs (c ∷ []) None j (let low : j < length cs = omega (arith, l, same) in
      low))) (before j other l at)
  | inr g ↦
      let there : k ≡ j = omega (arith, h, g) in
      let end : length cs ≡ j = omega (arith, h, g, same) in
      let is : stop ≡ other = same_Some stop other (sym here ∙ ap (λ (n : ℕ). slice_get ds n) there ∙ at) in
      let row : c ≡ get_or (cs ++ c ∷ []) j None =
      subst (λ (n : ℕ). c ≡ get_or (cs ++ c ∷ []) n None) end (sym (get_or-append_seam cs c [] None)) in
      subst (λ (o : Option ℕ). IsCell t share other.0 o) row (subst (λ (p : StopNo). IsCell t share p.0 c) is last)
]

-- minutes that are alike count alike
pub count_alike : (some others : ℕ → Option ℕ) (d n : ℕ) → ((m : ℕ) → m < n → some m ≡ others m) →
    minutes_within some d n ≡ minutes_within others d n
count_alike some others d zero h = refl
count_alike some others d (suc n) h =
    rw (h n (omega arith), count_alike some others d n (λ m l. h m (omega (arith, l)))) refl

pub cell_alike : (some others : ℕ → Option ℕ) (n share : ℕ) (c : Option ℕ) → ((m : ℕ) → m < n → some m ≡ others m) →
    IsLeastOrNone (Attains some n share) c → IsLeastOrNone (Attains others n share) c
cell_alike some others n share None h is = λ d a. is d (rw (count_alike some others d n h) a)
cell_alike some others n share (Some c) h is =
    record {
      holds = rw (← count_alike some others c n h) is.holds;
      least = λ d a. is.least d (rw (count_alike some others d n h) a);
    }

-- ---- limits of reach

-- a lower limit lets in as many minutes, where it lets in each duration within the other
within_reach : (x : Option ℕ) (d e : ℕ) → ((s : ℕ) → x ≡ Some s → s ≤ e → s ≤ d) →
    (if is_within e x then 1 else 0) ≤ (if is_within d x then 1 else 0)
within_reach None d e h = omega arith
within_reach (Some x) d e h = elim (cases_lt e x) [
  | inl l ↦ grind (arith, nat_tests, l)
  | inr g ↦ let low = h x refl g in grind (arith, nat_tests, low)
]

count_reach : (ds : ℕ → Option ℕ) (n d e : ℕ) → ((m s : ℕ) → m < n → ds m ≡ Some s → s ≤ e → s ≤ d) →
    minutes_within ds e n ≤ minutes_within ds d n
count_reach ds zero d e h = omega arith
count_reach ds (suc n) d e h =
    let rest = count_reach ds n d e (λ m s l. h m s (omega (arith, l))) in
    let head = within_reach (ds n) d e (λ s. h n s (omega arith)) in
    omega (arith, rest, head)

-- so as many attain it, also of minutes that are alike
module _ (some others : ℕ → Option ℕ) (n share d within : ℕ) (alike : (m : ℕ) → m < n →
    some m ≡ others m) (upto : d ≤ within)
    (all : (m s : ℕ) → m < n → some m ≡ Some s → s ≤ within → s ≤ d) where
  pub reached_further : Attains some n share d → Attains others n share within
  reached_further a =
      let more = count_more some n d within upto in
      let same = count_alike some others within n alike in
      omega (arith, a, more, same)

  pub reached_nearer : Attains others n share within → Attains some n share d
  reached_nearer a =
      let fewer = count_reach some n d within all in
      let same = count_alike some others within n alike in
      omega (arith, a, fewer, same)

-- a stop whose minutes attain a share within a limit counts, by its cell
pub counted_in : (ds : ℕ → Option ℕ) (n share within ops : ℕ) (cell : Option ℕ) →
    IsLeastOrNone (Attains ds n share) cell → Attains ds n share within
    → ops ≡ counted cell ops within
counted_in ds n share within ops None is a = absurd (is within a)
counted_in ds n share within ops (Some d) is a = let low = is.least within a in grind (arith, nat_tests, low)

-- and one whose minutes don't counts for nothing
pub counted_out : (ds : ℕ → Option ℕ) (n share within ops : ℕ) (cell : Option ℕ) →
    IsLeastOrNone (Attains ds n share) cell → (Attains ds n share within → ⊥)
    → 0 ≡ counted cell ops within
counted_out ds n share within ops None is none = refl
counted_out ds n share within ops (Some d) is none = elim (cases_lt within d) [
  | inl l ↦ grind (arith, nat_tests, l)
  | inr g ↦ absurd (none (attains_more ds n share d within g is.holds))
]
