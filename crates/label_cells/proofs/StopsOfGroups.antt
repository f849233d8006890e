-- Stops by their numbers: in which lane of which group, and their cells with walks.
use Rattle.std.proofs.Common.{◌≡◌, ◌≤◌, ◌<◌, ◌+◌, ◌*◌, ◌/◌, ◌%◌, ℕ, Bool, List, Option, length}
use Rattle.std.proofs.Common.{slice_index, ap, sym, subst, arith}
use Rattle.std.proofs.lemmas.Nat.{row_fits}
use lib.Lanes.{chunk}
use Rattle.rounds.specs.Table.{known_of}
use Rattle.rounds.specs.declared.labels.WindowLabels.{WindowLabels}
use Rattle.rounds.specs.Labels.{AreLabelDurations, AreSince, labels_of, least_walk, lesser}
use Rattle.label_cells.specs.Durations.{IsCellOf}
use Rattle.label_cells.specs.Groups.{AreGroupCells, AreLaneDurations, cell_at, group_lane, groups_of}
use Rattle.label_cells.specs.Groups.{is_used}
use Rattle.label_cells.proofs.CellsWithWalks.{cell_walked}

lane_start : (q width : ℕ) → 16 * (q / 16) * width + q % 16 * width ≡ q * width
lane_start q width =
    let both : (16 * (q / 16) + q % 16) * width ≡ 16 * (q / 16) * width + q % 16 * width = grind arith in
    let all = ap (λ (x : ℕ). x * width) (let e : 16 * (q / 16) + q % 16 ≡ q = omega arith in e) in
    omega (arith, both, all)

-- a stop's labels are those of a lane of its group
lane_is : (w : WindowLabels) (q : ℕ) → group_lane w (16 * (q / 16) * w.found.width) (q % 16) ≡ labels_of w q
lane_is w q = ap (λ (at : ℕ). chunk at (length w.searched.now) w.found.labels.now) (lane_start q w.found.width)

-- the rows of a stop's group lie among those of all
pub rows_within : (n q ranks : ℕ) → q < n → q / 16 * ranks + ranks ≤ groups_of n * ranks
rows_within n q ranks less = row_fits (q / 16) ranks (groups_of n) ranks (omega (arith, less)) (omega arith)

module _ (w : WindowLabels) (used : List Bool) (ranks : List ℕ) (old new : List (List ℕ))
    (are : AreGroupCells w used ranks old) (groups : length used ≡ groups_of (length w.numbers.now))
    (few : (k : ℕ) → k < length ranks → slice_index ranks k ≤ w.minutes)
    (walked : (q k : ℕ) → k < length ranks → known_of (cell_at (length ranks) new q k)
    ≡ lesser (known_of (cell_at (length ranks) old q k)) (least_walk w.walks.now q (length w.walks.now))) where
  pub cell_with_walks : (q k : ℕ) (of_minute : ℕ → Option ℕ) → q < length w.numbers.now → is_used used q →
      k < length ranks → AreSince (labels_of w q) w.found.bases.now w.searched.now w.first →
      AreLabelDurations (labels_of w q) w.found.bases.now w.searched.now w.first w.minutes of_minute →
      IsCellOf (λ m. lesser (of_minute m) (least_walk w.walks.now q (length w.walks.now))) w.minutes
      (slice_index ranks k) (known_of (cell_at (length ranks) new q k))
  cell_with_walks q k ds less is in_ranks since durations =
      let walk = least_walk w.walks.now q (length w.walks.now) in
      let rank = slice_index ranks k in
      let here : AreLaneDurations w (16 * (q / 16) * w.found.width) (q % 16) ds = record {
        since = subst (λ (xs : List ℕ). AreSince xs w.found.bases.now w.searched.now w.first) (sym (lane_is w q)) since;
        durations = subst (λ (xs : List ℕ). AreLabelDurations xs w.found.bases.now w.searched.now w.first w.minutes ds)
            (sym (lane_is w q)) durations;
      } in
      let cell = are.each (q / 16) k (q % 16) ds (omega (arith, less, groups)) is in_ranks (omega arith) here in
      subst (λ (o : Option ℕ). IsCellOf (λ m. lesser (ds m) walk) w.minutes rank o) (sym (walked q k in_ranks))
      (cell_walked ds w.minutes rank (known_of (cell_at (length ranks) old q k)) walk (few k in_ranks) cell)
