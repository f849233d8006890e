-- The faults of edits, from the last edit back to the first.
use Rattle.std.proofs.Common.{◌≡◌, ◌∙◌, ◌≤◌, ◌+◌, ℕ, suc, Bool, true, false, if◌then◌else◌, List, [], ◌∷◌, ◌++◌, Option}
use Rattle.std.proofs.Common.{Some, drop, length, get_or, refl, sym, ap, subst, arith}
use Rattle.std.proofs.Math.Seq.{drop-cons}
use Rattle.gtfs_tables.specs.Feed.{FeedData}
use Rattle.scenarios.specs.ShiftedTimes.{TellsRecord, is_last_too_far, range_faults, too_far}
use Rattle.scenarios.specs.declared.edits.Edit.{Edit}

module _ (feed : FeedData) (all edits : List Edit) (i j : ℕ) (one : j + 1 ≡ i) (within : i
    ≤ length edits) (d : Edit) where
  abbrev e : Edit
  e = get_or edits j d

  -- the edits from one on
  pub from_one : drop j edits ≡ e ∷ drop i edits
  from_one =
      let next : suc j ≡ i = omega arith in
      drop-cons edits j d (omega arith) ∙ ap (λ n. e ∷ drop n edits) next

  faults : (b : Bool) → b ≡ is_last_too_far feed all e (drop i edits)
      → range_faults feed all (j + 2) (drop j edits)
      ≡ (if b then too_far (j + 2) ∷ [] else []) ++ range_faults feed all (i + 2) (drop i edits)
  faults b h =
      let at : j + 2 + 1 ≡ i + 2 = omega arith in
      ap (range_faults feed all (j + 2)) from_one
      ∙ (λ k. (if sym h k then too_far (j + 2) ∷ [] else []) ++ range_faults feed all (at k) (drop i edits))

  -- an edit that goes too far is the first to do so
  pub found_here : true ≡ is_last_too_far feed all e (drop i edits) →
      TellsRecord (Some (j + 2)) (range_faults feed all (j + 2) (drop j edits))
  found_here h = rw (faults true h) refl

  -- any other leaves the first that was found
  pub found_later : (first : Option ℕ) → false ≡ is_last_too_far feed all e (drop i edits) →
      TellsRecord first (range_faults feed all (i + 2) (drop i edits))
      → TellsRecord first (range_faults feed all (j + 2) (drop j edits))
  found_later first h so = subst (TellsRecord first) (sym (faults false h)) so

-- once all edits were looked at
pub from_start : (feed : FeedData) (all edits : List Edit) (i : ℕ) (first : Option ℕ) → i ≡ 0 → edits ≡ all
    → TellsRecord first (range_faults feed all (i + 2) (drop i edits)) → TellsRecord first (range_faults feed all 2 all)
from_start feed all edits i first zero same so =
    subst (TellsRecord first) (λ k. range_faults feed all (zero k + 2) (drop (zero k) (same k))) so
