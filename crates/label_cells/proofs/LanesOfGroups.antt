-- The labels of one stop of a group.
use Rattle.std.proofs.Common.{◌≡◌, ◌≤◌, ◌<◌, ◌+◌, ◌*◌, ℕ, List, Bool, length, slice_index, replicate}
use Rattle.std.proofs.Common.{sym, ◌∙◌, arith}
use Rattle.std.proofs.lemmas.Nat.{row_fits}
use Rattle.std.proofs.lemmas.Simd.{length-chunk, get_or-chunk, get_or-replicate, length-replicate}
use Rattle.rounds.specs.Labels.{ArePositions, AreSince}
use Rattle.label_cells.specs.Durations.{AreLabels}
use Rattle.label_cells.specs.Runs.{AreEnds}
use Rattle.label_cells.specs.GroupLanes.{lane_of}

module _ (found : List ℕ) (from width k l : ℕ) (room : from + 16 * width ≤ length found) (fits : k ≤ width) (h : l <
    16) where
  in_room : from + l * width + k ≤ length found
  in_room = let row = row_fits l width 16 width h (omega arith) in omega (arith, row, room, fits)

  pub length-lane : length (lane_of found from width k l) ≡ k
  length-lane = length-chunk {X = ℕ} (from + l * width) k found in_room

  pub lane_at : (j : ℕ) → j < k → slice_index (lane_of found from width k l) j ≡ slice_index found (from + l * width
      + j)
  lane_at j less = get_or-chunk {X = ℕ} (from + l * width) k found j 0 less

pub are_labels : (labels bases searched : List ℕ) (first minutes : ℕ) → ArePositions bases searched first minutes →
    length labels ≡ length searched → AreSince labels bases searched first →
    AreLabels labels bases searched first minutes
are_labels labels bases searched first minutes are long since = record {
  plan = are.plan;
  few = are.few;
  axis = are.axis;
  long = long;
  too = are.too;
  since = since.since;
  before = are.before;
  near = are.near;
}

-- what holds whatever the labels are, holds as if none were reached
abbrev pub nevers : ℕ → List ℕ
nevers k = replicate k 65535

pub never_labels : (bases searched : List ℕ) (first minutes : ℕ) → ArePositions bases searched first minutes →
    AreLabels (nevers (length searched)) bases searched first minutes
never_labels bases searched first minutes are =
    are_labels (nevers (length searched)) bases searched first minutes are (length-replicate {A = ℕ} (length
    searched) 65535) (record {
      since = λ j l some. absurd (some (get_or-replicate {A = ℕ} (length searched) j 65535 0 l));
    })

pub never_ends : (labels bases : List ℕ) (ends : List Bool) (k : ℕ) → length labels ≡ k → AreEnds labels bases ends →
    AreEnds (nevers k) bases ends
never_ends labels bases ends k long mark =
    let size : length (nevers k) ≡ k = length-replicate {A = ℕ} k 65535 in
    record {
      long = (let m = mark.long in omega (arith, m, long, size));
      others = λ j l is.
          let on = mark.others j (omega (arith, l, long, size)) is in
          let more = on.within in
          record {
            within = omega (arith, more, long, size);
            label = get_or-replicate {A = ℕ} k j 65535 0 (omega (arith, l, size))
                ∙ sym (get_or-replicate {A = ℕ} k (j + 1) 65535 0 (omega (arith, more, long)));
            base = on.base;
          };
    }
