use Rattle.std.proofs.Common.{◌≡◌, ◌≤◌, ◌<◌, ◌+◌, ◌++◌, ◌∷◌, [], ℕ, List, length, slice_index, ap, sym, subst, arith}
use Rattle.std.proofs.lemmas.List.{length-append}
use Rattle.label_cells.specs.Runs.{IsSplitRun}
use Rattle.label_cells.specs.Sums.{sum_to}
use Rattle.label_cells.specs.declared.split_runs.SplitRun.{SplitRun}
use Rattle.label_cells.specs.GroupLanes.{shortest_at, span_in}
use Rattle.label_cells.specs.SplitRuns.{whole_at, rest_at, reached_at}
use Rattle.label_cells.proofs.ListsOfSplitRuns.{part_few, parts_more, wholes_more, spans_more}
use Rattle.label_cells.proofs.group.fill_split_runs.Goals as goal

pub loop-run-preserved : goal.loop-run-preserved
loop-run-preserved c =
    let runs = c.args.runs.now in
    let low = c.args.low in
    let n = c.loop-run.run-index in
    let rows = c.loop-run.rows.items in
    let row = c.split.result in
    let size = c.loop-run.invariant.size in
    let pushed : c.push.new.self.items ≡ rows ++ row ∷ [] = c.in_ok-push.ensures.items in
    record {
      size = (let long = ap (λ (xs : List SplitRun). length xs) pushed in
          let app = length-append rows (row ∷ []) in
          omega (arith, long, app, size));
      parts = subst (λ (xs : List SplitRun). (l i : ℕ) → l < 16 → i < n + 1 → IsSplitRun (slice_index low l)
          (shortest_at runs l i)
          (span_in runs i) (whole_at xs l i) (rest_at xs l i) (reached_at xs l i)) (sym pushed)
          (parts_more low (shortest_at runs) (span_in runs) n rows row size c.loop-run.invariant.parts
          c.split.ensures.part);
      wholes = subst (λ (xs : List SplitRun). (l i : ℕ) → l < 16 → i < n + 1 → whole_at xs l i ≤ 1092) (sym pushed)
          (wholes_more low (shortest_at runs) (span_in runs) n rows row size c.loop-run.invariant.wholes
          c.split.ensures.small);
      spans = subst (λ (xs : List SplitRun). (l : ℕ) → l < 16 → sum_to (reached_at xs l) (n + 1) ≤ sum_to (span_in
          runs) (n + 1))
          (sym pushed) (λ l h. spans_more low (shortest_at runs) (span_in runs) n rows row size l
          (c.loop-run.invariant.spans l h) (part_few (slice_index low l) (shortest_at runs l n) (span_in runs n)
          (slice_index row.whole l) (slice_index row.rest l) (slice_index row.span l) (c.split.ensures.part l h)));
    }
