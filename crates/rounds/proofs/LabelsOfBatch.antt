-- The labels of a batch, as those of its minutes, and what is kept for the batch before it.
use Rattle.std.proofs.Common.{◌≡◌, ℕ, ◌+◌, ◌-◌, ◌<◌, ◌≤◌, ◌⊎◌, inl, inr, List, All, map, replicate}
use Rattle.std.proofs.Common.{sym, ◌∙◌, ap, arith}
use Rattle.std.proofs.lemmas.List.{length-map, length-replicate, get_or-map, get_or-replicate, ext_get_or}
use Rattle.timetable.specs.declared.limits.TheConstants.{END_OF_AXIS, MOST_FOOT_SECONDS}
use Rattle.timetable.specs.declared.least.TheConstants.{NEVER}
use Rattle.timetable.specs.Networks.{Net, IsNet}
use Rattle.timetable.proofs.KnownParts.{all_at}
use Rattle.trip_lanes.specs.Cut.{cut}
use Rattle.rounds.specs.declared.bounded.RoundTimes.{RoundTimes}
use Rattle.rounds.specs.declared.query.Query.{Query}
use Rattle.rounds.specs.Arrivals.{IsTold, NoneLate}
use Rattle.rounds.specs.Batches.{AreTimesFrom, IsBaseFor, as_labels, start_at}
use Rattle.rounds.specs.Cut.{cut_net}
use Rattle.rounds.specs.CappedLabels.{LaneStateTo}
use Rattle.rounds.specs.State.{arrival}
use Rattle.rounds.proofs.CutDurations.{arrival_fits_to, cut_since, cut_dead, cut_duration}
use Rattle.rounds.proofs.CutNetworks.{cut_net_is_net}
use Rattle.rounds.proofs.LabelStates.{never_state}
use Rattle.rounds.proofs.EarlierBase.{rebased}
use Rattle.rounds.proofs.RoundsReach.{in_bounds}

module _ (q : Query) (ok : IsNet q.network.now) (base cap time depart : ℕ) (counted : time + base
    ≡ depart) (live : (0 < time) ⊎ (base ≡ 0)) (ride ready : List ℕ)
    (state : LaneStateTo cap (cut_net base cap q.network.now) (start_at q time) q.rides ride ready)
    (p : ℕ) (there : p < q.network.now.stops) where
  -- counted from the departure, the label is the least duration, if nobody gets there too late for labels
  pub lane_told : cap ≤ NEVER → (arrival ride ready p ≡ cap → NoneLate q cap base depart p) →
      IsTold q cap base depart p (arrival ride ready p)
  lane_told small late =
      let n = q.network.now in
      let fits = arrival_fits_to cap (cut_net base cap n) (start_at q time) q.rides ride ready state p there in
      record {
        fits = fits;
        after = λ reached.
            let since = cut_since n ok base cap q.origin.0 time depart counted live q.rides ride ready state p there
            (omega (arith, fits, reached)) in
            omega (arith, since, counted);
        least = λ duration is.
            cut_duration n ok base cap q.origin.0 time depart counted live q.rides ride ready state p there duration
            small is.never_so
            (λ reached. let e = is.counted reached in omega (arith, e, counted)) late;
      }

-- labels that reach as far as times go tell each arrival
pub none_late_whole : (q : Query) → IsNet q.network.now → q.origin.0 < q.network.now.stops → (never base depart p : ℕ) →
    depart < END_OF_AXIS → END_OF_AXIS + MOST_FOOT_SECONDS ≤ base + never → NoneLate q never base depart p
none_late_whole q ok there never base depart p axis far time r =
    let b = in_bounds q.network.now ok (start_at q depart) there axis r.legs (record { stop = p; time = time })
    r.journey in
    let soon : time < END_OF_AXIS + MOST_FOOT_SECONDS = b.1 in
    omega (arith, soon, far)

-- who departs at never reaches no stop before it
pub lane_dead : (n : Net) (ok : IsNet n) (base cap origin time rides : ℕ) (ride ready : List ℕ) → 0 < cap → time ≡ cap →
    LaneStateTo cap (cut_net base cap n) (record { stop = origin; time = time }) rides ride ready → (p : ℕ) →
    p < n.stops → arrival ride ready p ≡ cap
lane_dead n ok base cap origin time rides ride ready some never state p there =
    cut_dead n ok base cap origin time (time + base) (omega arith) (inl (omega arith)) rides ride ready state p there
    (omega arith)

-- bounds of NEVER are those of a departure at NEVER
cleared_bounds : (stops base cap : ℕ) (kept : List ℕ) → kept ≡ replicate stops NEVER → base + cap ≤ NEVER →
    as_labels base cap kept ≡ replicate stops cap
cleared_bounds stops base cap kept e fits =
    let never : cut base cap NEVER ≡ cap = omega arith in
    let long = length-map (replicate stops NEVER) (cut base cap) ∙ length-replicate stops NEVER in
    ap (map (cut base cap)) e ∙ ext_get_or 0 (map (cut base cap) (replicate stops NEVER)) (replicate stops cap) (long
    ∙ sym (length-replicate stops cap)) (λ p l.
    get_or-map (cut base cap) (replicate stops NEVER) p 0 0 (omega (arith, length-replicate stops NEVER))
    ∙ (ap (cut base cap) (get_or-replicate stops p NEVER 0 (omega (arith, long)))
    ∙ (never ∙ sym (get_or-replicate stops p cap 0 (omega (arith, long))))))

pub never_times : (n : Net) (ok : IsNet n) (base cap origin later rides : ℕ) (kept : List RoundTimes) →
    All (λ x. (x.ride.items ≡ replicate n.stops NEVER) × (x.ready.items ≡ replicate n.stops NEVER)) kept →
    base + cap ≤ NEVER → later ≡ NEVER → AreTimesFrom cap base n
    (record { stop = origin; time = cut base cap later }) rides kept
never_times n ok base cap origin later rides kept none fits late k x few here =
    let e = all_at (λ (x : RoundTimes). (x.ride.items ≡ replicate n.stops NEVER)
    × (x.ready.items ≡ replicate n.stops NEVER)) kept k x none here in
    never_state cap (cut_net base cap n) (cut_net_is_net base cap n ok)
    (record { stop = origin; time = cut base cap later }) (omega arith) k (as_labels base cap x.ride.items)
    (as_labels base cap x.ready.items)
    (cleared_bounds n.stops base cap x.ride.items e.0 fits)
    (cleared_bounds n.stops base cap x.ready.items e.1 fits)

-- what is kept of a departure serves each base before it
pub times_rebased : (n : Net) (ok : IsNet n) (base cap origin time later rides : ℕ) (kept : List RoundTimes) →
    later < END_OF_AXIS → base ≤ later → (base ≡ 0) ⊎ (base < later) → (cap + END_OF_AXIS < NEVER → later ≤ base + 1) →
    time ≡ later - base → AreTimesFrom cap base n (record { stop = origin; time = time }) rides kept → (sooner : ℕ) →
    IsBaseFor cap later sooner → AreTimesFrom cap sooner n (record { stop = origin; time = cut sooner cap later }) rides kept
times_rebased n ok base cap origin time later rides kept early within before short is states sooner at k x few here =
    let below : sooner ≤ base = elim at.before [
      | inl none ↦ omega arith
      | inr some ↦ let high = short some.1 in
          omega (arith, some.0, high)
    ] in
    let near : later < sooner + cap = elim at.in_range [ inl never ↦ omega arith | inr l ↦ l ] in
    let live : (0 < time) ⊎ (base ≡ 0) = elim before [ inl none ↦ inr none | inr l ↦ inl (omega arith) ] in
    let live' : (0 < cut sooner cap later) ⊎ (sooner ≡ 0) =
    elim at.before [ inl none ↦ inr none | inr l ↦ inl (omega (arith, l.0)) ] in
    rebased n ok cap origin later base time sooner (cut sooner cap later) (omega arith) live
    (omega (arith, near, below)) live' below k x.ride.items x.ready.items (states k x few here)
