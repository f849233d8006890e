-- Batches that nothing bounds: who departs at never has no label below it, and labels stay as they are.
use Rattle.std.proofs.Common.{◌≡◌, ℕ, ◌+◌, ◌<◌, ◌≤◌, inl, inr, List, length, slice_index, refl, arith}
use Rattle.timetable.specs.declared.least.TheConstants.{NEVER}
use Rattle.timetable.specs.Networks.{Net, IsNet}
use Rattle.timetable.specs.RoundSteps.{Lowers}
use Rattle.trip_lanes.specs.Cut.{cut}
use Rattle.rounds.specs.CappedLabels.{LaneStateTo}
use Rattle.rounds.specs.Cut.{cut_net}
use Rattle.rounds.specs.State.{Bounds, IsUnbounded}
use Rattle.rounds.proofs.LabelsOfBatch.{lane_dead}

-- labels that go up to never stay as they are where no bound is below it
pub unbounded_stay : (never : ℕ) (bound labels : List ℕ) → length bound ≡ length labels →
    ((p : ℕ) → slice_index labels p ≤ never) → IsUnbounded never bound → Lowers (Bounds bound) labels labels
unbounded_stay never bound labels same fits none =
    record {
      same_length = refl;
      label = λ p l. record {
        holds = inl refl;
        least = λ m o. elim o [
          | inl s ↦ omega (arith, s)
          | inr b ↦ let f = fits p in let e = none p (omega (arith, l, same)) in omega (arith, b)
        ];
      };
    }

-- who departs at never has no label below it
pub none_bound : (n : Net) → IsNet n → (base never origin later k : ℕ) (ride ready : List ℕ) → 0 < never →
    base + never ≤ NEVER → later ≡ NEVER →
    LaneStateTo never (cut_net base never n) (record { stop = origin; time = cut base never later }) k ride ready →
    IsUnbounded never ride × IsUnbounded never ready
none_bound n ok base never origin later k ride ready some fits late s =
    let dead = lane_dead n ok base never origin (cut base never later) k ride ready some (omega arith) s in (
      λ p l.
          let f = s.ride_fits p in
          let e = dead p (omega (arith, l, s.ride_len)) in
          omega (arith, e, f),
      λ p l.
          let f = s.ready_fits p in
          let e = dead p (omega (arith, l, s.ready_len)) in
          omega (arith, e, f),
    )
