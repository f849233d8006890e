-- Closed footpaths are determined, and are too many or not.
use Rattle.std.proofs.Common.{◌≡◌, ◌<◌, ◌≤◌, inl, inr, ℕ, List, [], ◌∷◌, length, arith, refl, sym, ◌∙◌, Some, slice_get}
use Rattle.std.proofs.Common.{get_or, sum_by, subst}
use Rattle.std.proofs.lemmas.List.{same_lists}
use Rattle.std.proofs.lemmas.Option.{slice_get_cases, slice_get-get_or, slice_get_within, get_or_from_slice_get}
use Rattle.timetable.specs.declared.trips.StopNo.{StopNo}
use Rattle.timetable.specs.Footpaths.{FootLists, FeetData, IsFoot}
use Rattle.footpaths.specs.Direct.{DirectLists}
use Rattle.footpaths.specs.Chains.{Foot}
use Rattle.footpaths.specs.Closure.{AllAscend, AreClosed, ClosuresAreUnique, TooManyHaveNoClosure}
use Rattle.footpaths.proofs.AscendingRows.{At, no_longer, one_row, no_more}

-- a foot of a list is in the row at that position
at_row : (f : FootLists) (a : ℕ) (z : StopNo × ℕ) (row : List (StopNo × ℕ)) → slice_get f a ≡ Some row →
    IsFoot f a z.0.0 z.1 → At row z
at_row f a z row e h =
    let r : h.0 ≡ row = sym (get_or_from_slice_get f a h.0 [] h.2) ∙ get_or_from_slice_get f a row [] e in
    subst (λ (w : List (StopNo × ℕ)). At w z) r (h.1, h.3)

-- a walking time is stated in a closure
stated : (direct : DirectLists) (limit : ℕ) (h : FeetData) (a b s : ℕ) → AreClosed direct limit h →
    Foot direct.pairs limit a b s → IsFoot h.walks a b s
stated direct limit h a b s closed foot =
    let found = closed.complete a b s foot.other foot.least.holds foot.within in
    let other = closed.least a b found.0 found.1 in
    let up = foot.least.least found.0 other.least.holds in
    let down = other.least.least s foot.least.holds in
    let same : found.0 ≡ s = omega (arith, up, down) in
    subst (IsFoot h.walks a b) same found.1

into : (direct : DirectLists) (limit : ℕ) (f : FootLists) (h : FeetData) (a : ℕ) (xs ys : List (StopNo × ℕ)) →
    ((a b s : ℕ) → IsFoot f a b s → Foot direct.pairs limit a b s) → AreClosed direct limit h
    → slice_get f a ≡ Some xs → slice_get h.walks a ≡ Some ys → (z : StopNo × ℕ) → At xs z → At ys z
into direct limit f h a xs ys feet closed p q z c =
    at_row h.walks a z ys q (stated direct limit h a z.0.0 z.1 closed (feet a z.0.0 z.1 (xs, c.0, p, c.1)))

same_walks : (direct : DirectLists) (limit : ℕ) (f h : FeetData) → AreClosed direct limit f → AreClosed direct limit h →
    f.walks ≡ h.walks
same_walks direct limit f h p q = same_lists f.walks h.walks (p.lists ∙ sym q.lists) (λ a d lt.
    let below : a < length h.walks = let m = p.lists in let n = q.lists in omega (arith, m, n, lt) in
    let x = slice_get-get_or f.walks a d lt in
    let y = slice_get-get_or h.walks a d below in
    one_row (get_or f.walks a d) (get_or h.walks a d) (p.ascending a _ x) (q.ascending a _ y)
    (into direct limit f.walks h a _ _ p.least q x y) (into direct limit h.walks f a _ _ q.least p y x))

pub closures_are_unique : ClosuresAreUnique
closures_are_unique direct limit f h p q =
    let walks = same_walks direct limit f h p q in
    let changes = p.changes ∙ sym q.changes in
    λ i. record { walks = walks i; changes = changes i }

-- some feet are no more than all
pub some_of_all : (direct : DirectLists) (limit : ℕ) (f : FootLists) (h : FeetData) → AllAscend f →
    ((a b s : ℕ) → IsFoot f a b s → Foot direct.pairs limit a b s) → AreClosed direct limit h →
    sum_by length f ≤ sum_by length h.walks
some_of_all direct limit f h up feet q = no_more f h.walks (λ a row e. elim (slice_get_cases h.walks a).1 [
  | inl w ↦
      let same : get_or h.walks a [] ≡ w.0 = get_or_from_slice_get h.walks a w.0 [] w.2 in
      rw same (no_longer row w.0 (up a row e) (q.ascending a w.0 w.2) (into direct limit f h a row w.0 feet q e w.2))
  | inr w ↦ none a row e w.0
])
  where
    none : (a : ℕ) (row : List (StopNo × ℕ)) → slice_get f a ≡ Some row → length h.walks ≤ a →
        length row ≤ length (get_or h.walks a [])
    none a [] e past = omega arith
    none a (x ∷ xs) e past =
        let there = stated direct limit h a x.0.0 x.1 q (feet a x.0.0 x.1 (x ∷ xs, 0, e, refl)) in
        let w = slice_get_within h.walks a there.0 there.2 in
        absurd (omega (arith, past, w))

pub too_many_have_no_closure : TooManyHaveNoClosure
too_many_have_no_closure direct limit f many few =
    let below = some_of_all direct limit many.some_feet f many.ascending many.are_feet few.closed in
    omega (arith, below, many.many, few.few)
