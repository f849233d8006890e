-- Labels that are kept as times tell the same from an earlier base on.
use Rattle.std.proofs.Common.{◌≡◌, ◌≢◌, ℕ, ◌+◌, ◌-◌, ◌<◌, ◌≤◌, ◌⊎◌, inl, inr, List, length, map, slice_index, sym, ◌∙◌}
use Rattle.std.proofs.Common.{subst, arith}
use Rattle.std.proofs.lemmas.Bool.{cases_lt}
use Rattle.std.proofs.lemmas.List.{length-map, get_or-map, get_or_past}
use Rattle.timetable.specs.Networks.{Net, IsNet}
use Rattle.timetable.specs.Journeys.{Whereabouts}
use Rattle.trip_lanes.specs.Cut.{cut}
use Rattle.rounds.specs.Cut.{cut_net}
use Rattle.rounds.specs.Minutes.{IsRidden, IsReady}
use Rattle.rounds.specs.CappedLabels.{IsTableTo, LaneStateTo}
use Rattle.rounds.proofs.EveryJourney.{not_before, not_early}
use Rattle.rounds.proofs.CutJourneys.{ridden_cut, ridden_whole, ready_cut, ready_whole}

-- a cut time of a list
pub cut_at : (base cap : ℕ) (times : List ℕ) (p : ℕ) → p < length times →
    slice_index (map (cut base cap) times) p ≡ cut base cap (slice_index times p)
cut_at base cap times p l = get_or-map (cut base cap) times p 0 0 l

pub cuts_fit : (base cap : ℕ) (times : List ℕ) (p : ℕ) → slice_index (map (cut base cap) times) p ≤ cap
cuts_fit base cap times p = elim (cases_lt p (length times)) [
  | inl l ↦ let e = cut_at base cap times p l in omega arith
  | inr g ↦ let e = get_or_past (map (cut base cap) times) p 0 (omega (arith, length-map times (cut base cap))) in
      omega arith
]

-- reached at times, at times that count from a base, and at times that count from an earlier one
module _ (Reached Since Sooner : ℕ → ℕ →
    Type 0) (cap base since base' since' depart : ℕ) (counted : since + base ≡ depart) (live : (0 < since)
    ⊎ (base ≡ 0)) (below : base' ≤ base) (early : (p time : ℕ) → Reached p time →
    depart ≤ time) (whole : (p time : ℕ) → Since p time → time < cap →
    Reached p (time + base)) (to_since : (p time : ℕ) → Reached p (time + base) → time < cap →
    Since p time) (to_sooner : (p time : ℕ) → Reached p (time + base') → time < cap →
    Sooner p time) (sooner_whole : (p time : ℕ) → Sooner p time → time < cap → Reached p (time + base')) where
  -- a time before the base is none that somebody is reached at
  not_before_base : (p x : ℕ) → Reached p ((x - base) + base) → base ≤ x
  not_before_base p x r =
      let soon = early p ((x - base) + base) r in
      elim (cases_lt x base) [
        | inl l ↦ elim live [ inl after ↦ omega arith | inr zero_base ↦ omega arith ]
        | inr g ↦ g
      ]

  found_sooner : (p x : ℕ) → (cut base cap x ≢ cap → Since p (cut base cap x)) → cut base' cap x ≢ cap →
      Sooner p (cut base' cap x)
  found_sooner p x found reached =
      let label : cut base cap x ≡ x - base = omega (arith, below, reached) in
      let soon : x - base < cap = omega (arith, below, reached) in
      let r = whole p (x - base) (subst (Since p) label (found (λ e. omega (arith, e)))) soon in
      let after = not_before_base p x r in
      let at : (x - base) + base ≡ (x - base') + base' = omega (arith, after, below) in
      let same : x - base' ≡ cut base' cap x = omega (arith, reached) in
      subst (Sooner p) same (to_sooner p (x - base') (subst (Reached p) at r) (omega (arith, reached)))

  least_sooner : (p x time : ℕ) → ((t : ℕ) → Since p t → cut base cap x ≤ t) → Sooner p time → cut base' cap x ≤ time
  least_sooner p x time least r = elim (cases_lt time cap) [
    | inl l ↦
        let w = sooner_whole p time r l in
        let soon = early p (time + base') w in
        let t = (time + base') - base in
        let at : time + base' ≡ t + base = omega (arith, soon, counted) in
        let low = least t (to_since p t (subst (Reached p) at w) (omega (arith, below, l))) in
        omega (arith, low, at, below, l)
    | inr g ↦ omega arith
  ]

  pub table_rebased : (times : List ℕ) → IsTableTo cap Since (map (cut base cap) times) →
      IsTableTo cap Sooner (map (cut base' cap) times)
  table_rebased times table =
      let long = length-map times (cut base cap) in
      record {
        found = λ p l reached.
            let within : p < length times = omega (arith, length-map times (cut base' cap)) in
            let e = cut_at base cap times p within in
            let e' = cut_at base' cap times p within in
            subst (Sooner p) (sym e') (found_sooner p (slice_index times p)
            (λ ne. subst (Since p) e (table.found p (omega (arith, long)) (λ z. ne (sym e ∙ z))))
            (λ z. reached (e' ∙ z)));
        least = λ p time l r.
            let within : p < length times = omega (arith, length-map times (cut base' cap)) in
            let e = cut_at base cap times p within in
            let e' = cut_at base' cap times p within in
            let low = least_sooner p (slice_index times p) time (λ t s. let le =
            table.least p t (omega (arith, long)) s in omega (arith, e)) r in
            omega (arith, e');
      }

-- so do the labels of a lane
module _ (n : Net) (ok : IsNet n) (cap origin depart base since base' since' : ℕ) (counted : since + base
    ≡ depart) (live : (0 < since) ⊎ (base ≡ 0)) (counted' : since' + base' ≡ depart) (live' : (0 < since')
    ⊎ (base' ≡ 0)) (below : base' ≤ base) where
  pub rebased : (k : ℕ) (ride ready : List ℕ) →
      LaneStateTo cap (cut_net base cap n) (record { stop = origin; time = since }) k (map (cut base cap) ride)
      (map (cut base cap) ready) →
      LaneStateTo cap (cut_net base' cap n) (record { stop = origin; time = since' }) k (map (cut base' cap) ride)
      (map (cut base' cap) ready)
  rebased k ride ready s =
      let o : Whereabouts = record { stop = origin; time = depart } in
      let oc : Whereabouts = record { stop = origin; time = since } in
      let oc' : Whereabouts = record { stop = origin; time = since' } in
      record {
        ride_len = length-map ride (cut base' cap) ∙ (sym (length-map ride (cut base cap)) ∙ s.ride_len);
        ready_len = length-map ready (cut base' cap) ∙ (sym (length-map ready (cut base cap)) ∙ s.ready_len);
        ride_fits = cuts_fit base' cap ride;
        ready_fits = cuts_fit base' cap ready;
        rides =
            table_rebased (IsRidden n o k) (IsRidden (cut_net base cap n) oc k) (IsRidden (cut_net base' cap n) oc' k)
            cap base since base' since' depart counted live below
            (λ p time r. not_before n ok o r.legs (record { stop = p; time = time }) r.journey)
            (ridden_whole n ok base cap origin since depart counted live k)
            (ridden_cut n ok base cap origin since depart counted live k)
            (ridden_cut n ok base' cap origin since' depart counted' live' k)
            (ridden_whole n ok base' cap origin since' depart counted' live' k)
            ride
            s.rides;
        readies =
            table_rebased (IsReady n o k) (IsReady (cut_net base cap n) oc k) (IsReady (cut_net base' cap n) oc' k) cap
            base since base' since' depart counted live below
            (λ p time r. let early = not_before n ok o r.legs (record { stop = p; time = r.end }) r.journey in
            let ready = not_early n o r.legs (record { stop = p; time = r.end }) in omega (arith, r.ready))
            (ready_whole n ok base cap origin since depart counted live k)
            (ready_cut n ok base cap origin since depart counted live k)
            (ready_cut n ok base' cap origin since' depart counted' live' k)
            (ready_whole n ok base' cap origin since' depart counted' live' k)
            ready
            s.readies;
      }
