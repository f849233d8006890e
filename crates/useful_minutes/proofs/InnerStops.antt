-- Stops near the origin from where one walks on to none sooner than from the origin, and trips that stay among them.
use Rattle.std.proofs.Common.{◌≡◌, ℕ, ◌+◌, ◌<◌, ◌≤◌, inl, inr, List, length, slice_get, slice_index}
use Rattle.std.proofs.Common.{Some, IsTrue, set, sym, ◌∙◌, ap, subst, arith}
use Rattle.std.proofs.lemmas.Bool.{cases_eq, cases_lt}
use Rattle.std.proofs.lemmas.List.{get_or-set_other, get_or-set_same, length-set}
use Rattle.std.proofs.lemmas.Option.{same_Some, slice_get_within}
use Rattle.timetable.specs.declared.least.TheConstants.{NEVER}
use Rattle.timetable.specs.declared.trips.StopNo.{StopNo}
use Rattle.timetable.specs.declared.views.Call.{Call}
use Rattle.timetable.specs.Networks.{Net}
use Rattle.useful_minutes.specs.Marks.{AreInner, IsInner}

-- none of the first k walks of a list leads to a stop sooner than there is a walk to it from the origin
abbrev pub NoneSooner : List ℕ → List (StopNo × ℕ) → ℕ → ℕ → Type 0
NoneSooner walks row walk k =
    (i : ℕ) (x : StopNo × ℕ) → i < k → slice_get row i ≡ Some x → slice_index walks x.0.0 ≤ walk + x.1

pub none_more : (walks : List ℕ) (row : List (StopNo × ℕ)) (walk k : ℕ) (x : StopNo × ℕ) → slice_get row k ≡ Some x →
    slice_index walks x.0.0 ≤ walk + x.1 → NoneSooner walks row walk k → NoneSooner walks row walk (k + 1)
none_more walks row walk k x here low h i y l at = elim (cases_lt i k) [
  | inl lt ↦ h i y lt at
  | inr ge ↦
      let e : i ≡ k = omega (arith, ge, l) in
      let same : y ≡ x = same_Some y x (sym at ∙ (ap (λ (j : ℕ). slice_get row j) e ∙ here)) in
      subst (λ (z : StopNo × ℕ). slice_index walks z.0.0 ≤ walk + z.1) (sym same) low
]

pub is_inner_stop : (n : Net) (walks : List ℕ) (p : ℕ) (row : List (StopNo × ℕ)) → slice_get n.feet.walks p ≡ Some row →
    (k : ℕ) → length row ≤ k → NoneSooner walks row (slice_index walks p) k → IsInner n walks p
is_inner_stop n walks p row at k all h q seconds foot =
    let same : foot.0 ≡ row = same_Some foot.0 row (sym foot.2 ∙ at) in
    let here : slice_get row foot.1 ≡ Some (record { 0 = q }, seconds) = rw same at foot.3 in
    let within = slice_get_within row foot.1 (record { 0 = q }, seconds) here in
    h foot.1 (record { 0 = q }, seconds) (omega (arith, within, all)) here

-- one stop more is noted
pub inner_noted : (n : Net) (walks inner : List ℕ) (p : ℕ) → p < length inner → IsInner n walks p →
    AreInner n walks inner → AreInner n walks (set inner p (slice_index walks p))
inner_noted n walks inner p within is h =
    let x = slice_index walks p in
    let long = length-set inner p x in
    record {
      long = omega (arith, long, h.long);
      each = λ q l some. elim (cases_eq q p) [
        | inl e ↦
            let same = get_or-set_same inner p x 0 within in
            let at : slice_index (set inner p x) q ≡ slice_index walks q = rw e same in
            (at, rw e is)
        | inr ne ↦
            let same = get_or-set_other inner p q x 0 ne in
            let old = h.each q (omega (arith, l, long)) (λ never. some (same ∙ never)) in
            (same ∙ old.0, old.1)
      ];
    }

pub none_noted : (n : Net) (walks inner : List ℕ) → length inner ≡ length walks →
    ((p : ℕ) → p < length inner → slice_index inner p ≡ NEVER) → AreInner n walks inner
none_noted n walks inner long never = record { long = long; each = λ p l some. absurd (some (never p l)) }

-- who gets off before position k, boarded at position j after a walk of so many seconds, is at an inner stop no farther
abbrev pub AreNear : List Call → List ℕ → ℕ → ℕ → ℕ → Type 0
AreNear calls inner j seconds k =
    (i : ℕ) (off : Call) → j < i → i < k → slice_get calls i ≡ Some off → IsTrue off.alight →
    slice_index inner off.stop.0 ≤ seconds
