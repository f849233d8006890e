use Rattle.std.proofs.Common.{◌≡◌, ◌≤◌, ◌<◌, ℕ, Option, length}
use Rattle.rounds.specs.Labels.{AreLabelDurations, AreSince}
use Rattle.label_cells.specs.Sums.{sum_to}
use Rattle.label_cells.proofs.RunsOfPositions.{IsLeft, AreBegun}
use Rattle.label_cells.specs.GroupLanes.{lane_of, shortest_at, span_in}
use Rattle.label_cells.proofs.runs.fill_runs.Given as goal

abbrev pub invariant-loop-j : goal.invariant-loop-j
invariant-loop-j v = record {
  all : sum_to (span_in v.runs.items) (length v.runs.items) ≡ v.was;
  few : length v.runs.items ≤ v.was;
  fits : (l i : ℕ) → l < 16 → i < length v.runs.items → shortest_at v.runs.items l i ≤ 65535;
  left : IsLeft v.window.searched.now v.ends v.j v.was;
  begun : (l : ℕ) (ds : ℕ → Option ℕ) → l < 16 →
      AreSince (lane_of v.window.found.labels.now v.from v.window.found.width (length v.window.searched.now) l)
      v.window.found.bases.now v.window.searched.now v.window.first →
      AreLabelDurations (lane_of v.window.found.labels.now v.from v.window.found.width (length v.window.searched.now) l)
      v.window.found.bases.now v.window.searched.now v.window.first v.window.minutes ds →
      AreBegun (lane_of v.window.found.labels.now v.from v.window.found.width (length v.window.searched.now) l)
      v.window.found.bases.now v.window.searched.now v.window.first ds v.j v.was
      (shortest_at v.runs.items l) (span_in v.runs.items) (length v.runs.items);
}
