-- What choices between lanes give, in one lane.
use Rattle.std.proofs.Common.{sym, true, false, ◌^◌, ◌≡◌, ℕ, cond, ltb, leb, eqb, ◌≢◌, ◌+◌, ◌-◌, ◌%◌, ◌<◌, ◌≤◌, List}
use Rattle.std.proofs.Common.{length, get_or, slice_index, replicate, refl, ◌∙◌, ap, inl, inr}
use Rattle.std.proofs.lemmas.Bool.{cases_eq, false≢true, lt-ltb, le-leb, lt-leb, eq-eqb, ne_eqb}
use Rattle.std.proofs.lemmas.Simd.{get_or-replicate, length-replicate}
use Rattle.timetable.specs.declared.least.TheConstants.{NEVER}
use Rattle.std.specs.Prelude.{Bool, not, IsTrue, nat_eq}
use Rattle.trip_lanes.proofs.VectorChoices.{tops_of, each_holds, all_hold, chosen, length-chosen, sel_at, less}
use Rattle.trip_lanes.specs.Since.{IsSinceTo}
use lib.Lanes.{mask_l}
use mir.Syntax.{Width}

-- a label below m that is counted from its departure, unless it is never
pub since_of : (never m depart label then new : ℕ) → label < m → (label ≡ never → then ≡ NEVER) →
    (label ≢ never → depart ≤ label) → new ≡ cond (eqb label never) then ((label + (m - depart)) % m) →
    IsSinceTo never depart label new
since_of never m depart label then new fits unreached later e =
    record {
      never_so = λ same. e ∙ rw (eq-eqb label never same) (unreached same);
      since = λ live.
          let counted : new ≡ (label + (m - depart)) % m = e ∙ rw (ne_eqb label never live) refl in
          rw counted (less label depart m (later live) fits);
    }

module _ (w : Width) (n : ℕ) where
  -- a lane that a comparison with a number chooses
  pub chosen_at : (t : ℕ → ℕ → Bool) (xs : List ℕ) (y : ℕ) (us vs : List ℕ) (l : ℕ) → l < n → length xs ≡ n →
      length us ≡ n → length vs ≡ n
      → t (slice_index xs l) y ≡ true → slice_index (chosen w t xs (replicate n y) us vs) l ≡ slice_index us l
  chosen_at t xs y us vs l h xs_len us_len vs_len so =
      sel_at w n t xs (replicate n y) us vs l h xs_len (length-replicate n y) us_len vs_len
      ∙ rw (get_or-replicate {A = ℕ} n l y 0 h, so) refl

  -- and one that it doesn't
  pub left_at : (t : ℕ → ℕ → Bool) (xs : List ℕ) (y : ℕ) (us vs : List ℕ) (l : ℕ) → l < n → length xs ≡ n →
      length us ≡ n → length vs ≡ n
      → t (slice_index xs l) y ≡ false → slice_index (chosen w t xs (replicate n y) us vs) l ≡ slice_index vs l
  left_at t xs y us vs l h xs_len us_len vs_len not_so =
      sel_at w n t xs (replicate n y) us vs l h xs_len (length-replicate n y) us_len vs_len
      ∙ rw (get_or-replicate {A = ℕ} n l y 0 h, not_so) refl

  -- a lane that is ready by the departure has the rank
  pub caught_at : (ready : List ℕ) (depart rank never l : ℕ) → l < n → length ready ≡ n → slice_index ready l ≤ depart
      → slice_index (chosen w leb ready (replicate n depart) (replicate n rank) (replicate n never)) l ≡ rank
  caught_at ready depart rank never l h ready_len soon =
      chosen_at leb ready depart (replicate n rank) (replicate n never) l h ready_len (length-replicate n rank)
      (length-replicate n never) (le-leb (slice_index ready l) depart soon)
      ∙ get_or-replicate {A = ℕ} n l rank 0 h

  -- and one that is ready later has none
  pub missed_at : (ready : List ℕ) (depart rank never l : ℕ) → l < n → length ready ≡ n → depart < slice_index ready l
      → slice_index (chosen w leb ready (replicate n depart) (replicate n rank) (replicate n never)) l ≡ never
  missed_at ready depart rank never l h ready_len late =
      left_at leb ready depart (replicate n rank) (replicate n never) l h ready_len (length-replicate n rank)
      (length-replicate n never) (lt-leb (slice_index ready l) depart late)
      ∙ get_or-replicate {A = ℕ} n l never 0 h

  -- a lane whose rank is this one has the number
  pub marked_at : (ranks : List ℕ) (rank number : ℕ) (others : List ℕ) (l : ℕ) → l < n → length ranks ≡ n →
      length others ≡ n → slice_index ranks l ≡ rank
      → slice_index (chosen w eqb ranks (replicate n rank) (replicate n number) others) l ≡ number
  marked_at ranks rank number others l h ranks_len others_len same =
      chosen_at eqb ranks rank (replicate n number) others l h ranks_len (length-replicate n number) others_len
      (eq-eqb (slice_index ranks l) rank same)
      ∙ get_or-replicate {A = ℕ} n l number 0 h

  -- and one of another rank has what it had
  pub kept_at : (ranks : List ℕ) (rank number : ℕ) (others : List ℕ) (l : ℕ) → l < n → length ranks ≡ n →
      length others ≡ n → slice_index ranks l ≢ rank
      → slice_index (chosen w eqb ranks (replicate n rank) (replicate n number) others) l ≡ slice_index others l
  kept_at ranks rank number others l h ranks_len others_len other =
      left_at eqb ranks rank (replicate n number) others l h ranks_len (length-replicate n number) others_len
      (ne_eqb (slice_index ranks l) rank other)

  -- a lane that fell has its label, where lanes that did not have another number
  pub fallen_at : (before ready labels : List ℕ) (other l : ℕ) → l < n → length before ≡ n → length ready ≡ n →
      length labels ≡ n
      → slice_index ready l < slice_index before l →
      slice_index (chosen w ltb ready before labels (replicate n other)) l ≡ slice_index labels l
  fallen_at before ready labels other l h before_len ready_len labels_len fell =
      sel_at w n ltb ready before labels (replicate n other) l h ready_len before_len labels_len
      (length-replicate n other)
      ∙ rw (lt-ltb (slice_index ready l) (slice_index before l) fell) refl

  -- where all lanes but those that don't depart are below the greatest number, each is
  pub reached_at : n ≤ 64 → (far : ℕ) (times departs : List ℕ) (l : ℕ) → l < n → length times ≡ n → length departs ≡ n →
      0 ≢ far
      → IsTrue (nat_eq (mask_l (tops_of w (λ a b. not (eqb a b))
      (chosen w eqb departs (replicate n far) (replicate n 0) times) (replicate n far)) % 2 ^ 64) (2 ^ n - 1))
      → slice_index departs l ≢ far → slice_index times l ≢ far
  reached_at few far times departs l h times_len departs_len some whole live late =
      let fars = replicate n far in
      let fars_len : length fars ≡ n = length-replicate n far in
      let none_len : length (replicate n 0) ≡ n = length-replicate n 0 in
      let counted = chosen w eqb departs fars (replicate n 0) times in
      let counted_len = length-chosen w n eqb departs fars (replicate n 0) times departs_len fars_len none_len times_len
      in
      let other : not (eqb (get_or counted l 0) (get_or fars l 0)) ≡ true =
      each_holds w n few (λ a b. not (eqb a b)) counted fars l h counted_len fars_len whole in
      let far_there : get_or fars l 0 ≡ far = get_or-replicate {A = ℕ} n l far 0 h in
      let dead : eqb (get_or departs l 0) (get_or fars l 0) ≡ false =
      ne_eqb (get_or departs l 0) (get_or fars l 0) (λ e. live (e ∙ far_there)) in
      let time : get_or counted l 0 ≡ get_or times l 0 =
      sel_at w n eqb departs fars (replicate n 0) times l h departs_len fars_len none_len times_len
      ∙ rw dead refl in
      let same : eqb (get_or counted l 0) (get_or fars l 0) ≡ true =
      eq-eqb (get_or counted l 0) (get_or fars l 0) (time ∙ (late ∙ sym far_there)) in
      false≢true (rw same at other)

  -- and where each lane that departs is, they are
  pub all_reached : n ≤ 64 → (far : ℕ) (times departs : List ℕ) → length times ≡ n → length departs ≡ n → 0 ≢ far
      → ((l : ℕ) → l < n → slice_index departs l ≢ far → slice_index times l ≢ far)
      → IsTrue (nat_eq (mask_l (tops_of w (λ a b. not (eqb a b))
      (chosen w eqb departs (replicate n far) (replicate n 0) times) (replicate n far)) % 2 ^ 64) (2 ^ n - 1))
  all_reached few far times departs times_len departs_len some each =
      let fars = replicate n far in
      let fars_len : length fars ≡ n = length-replicate n far in
      let none_len : length (replicate n 0) ≡ n = length-replicate n 0 in
      let counted = chosen w eqb departs fars (replicate n 0) times in
      let counted_len = length-chosen w n eqb departs fars (replicate n 0) times departs_len fars_len none_len times_len
      in
      all_hold w n few (λ a b. not (eqb a b)) counted fars counted_len fars_len (λ l h.
      let far_there : get_or fars l 0 ≡ far = get_or-replicate {A = ℕ} n l far 0 h in
      elim (cases_eq (get_or departs l 0) far) [
        | inl dead ↦
            let same = eq-eqb (get_or departs l 0) (get_or fars l 0) (dead ∙ sym far_there) in
            let zero : get_or counted l 0 ≡ 0 = sel_at w n eqb departs fars (replicate n 0) times l h departs_len
            fars_len none_len times_len ∙ rw same (get_or-replicate {A = ℕ} n l 0 0 h) in
            ap not (ne_eqb (get_or counted l 0) (get_or fars l 0) (λ e. some (sym zero ∙ (e ∙ far_there))))
        | inr live ↦
            let other = ne_eqb (get_or departs l 0) (get_or fars l 0) (λ e. live (e ∙ far_there)) in
            let time : get_or counted l 0 ≡ get_or times l 0 =
            sel_at w n eqb departs fars (replicate n 0) times l h departs_len fars_len none_len times_len
            ∙ rw other refl in
            ap not (ne_eqb (get_or counted l 0) (get_or fars l 0) (λ e. each l h live (sym time ∙ (e ∙ far_there))))
      ])
