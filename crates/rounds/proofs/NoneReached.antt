-- A stop that no journey reaches from a departure is reached by none that leaves later.
use Rattle.std.proofs.Common.{◌≡◌, ◌≢◌, ℕ, ◌+◌, ◌<◌, ◌≤◌, inl, inr, List, length, slice_index, refl, ◌∙◌, arith}
use Rattle.std.proofs.lemmas.Bool.{cases_eq}
use Rattle.timetable.specs.declared.limits.TheConstants.{END_OF_AXIS, MOST_FOOT_SECONDS}
use Rattle.timetable.specs.declared.least.TheConstants.{NEVER}
use Rattle.timetable.specs.Networks.{Net, IsNet}
use Rattle.timetable.specs.Journeys.{IsReached}
use Rattle.rounds.specs.Cut.{cut_net}
use Rattle.rounds.specs.CappedLabels.{LaneStateTo}
use Rattle.rounds.specs.Last.{AreLastFrom}
use Rattle.rounds.specs.State.{arrival}
use Rattle.rounds.proofs.CutDurations.{cut_never}
use Rattle.rounds.proofs.LaterStarts.{same_legs}

-- who leaves sooner gets there, too
sooner_reached : (n : Net) (origin first k p depart time : ℕ) → first ≤ depart →
    IsReached n (record { stop = origin; time = depart }) k p time →
    (x : ℕ) × IsReached n (record { stop = origin; time = first }) k p x × (x ≤ time)
sooner_reached n origin first k p depart time le r =
    let s = same_legs n (record { stop = origin; time = first }) (record { stop = origin; time = depart }) refl le
    r.legs (record { stop = p; time = time }) r.journey in
    (s.0, record { legs = r.legs; journey = s.1; few = r.few }, s.2)

module _ (n : Net) (ok : IsNet n) (origin first k : ℕ) (ride ready : List ℕ)
    (state : LaneStateTo NEVER (cut_net 0 NEVER n) (record { stop = origin; time = first }) k ride ready)
    (early : first < END_OF_AXIS) (old : List ℕ) (are : AreLastFrom n origin first k old) (few : (p : ℕ) →
    slice_index old p ≤ END_OF_AXIS + MOST_FOOT_SECONDS) where
  -- a label that reaches as far as times go tells that nobody gets there
  none_reached : (p : ℕ) → p < n.stops → arrival ride ready p ≡ NEVER → (depart time : ℕ) → first ≤ depart →
      IsReached n (record { stop = origin; time = depart }) k p time → ⊥
  none_reached p there never depart time le r =
      let s = sooner_reached n origin first k p depart time le r in
      let high = cut_never n ok 0 NEVER origin first first (omega arith) (inr refl) k ride ready state p there never s.0
      s.1 in
      let low = few p in
      elim (are.none_later first p s.0 (omega arith) there s.1) [ inl end ↦ omega arith | inr end ↦ omega arith ]

  -- so its number may be any
  pub left_out : (new : List ℕ) → length new ≡ length old →
      ((p : ℕ) → p < length old → arrival ride ready p ≢ NEVER → slice_index new p ≡ slice_index old p) →
      AreLastFrom n origin first k new
  left_out new same kept =
      record {
        size = same ∙ are.size;
        none_later = λ depart p time le there r. elim (cases_eq (arrival ride ready p) NEVER) [
          | inl never ↦ absurd (none_reached p there never depart time le r)
          | inr some ↦
              let e = kept p (omega (arith, there, are.size)) some in
              elim (are.none_later depart p time le there r) [ inl end ↦ inl (omega (arith, e)) | inr end ↦ inr end ]
        ];
      }
