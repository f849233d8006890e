use Rattle.std.proofs.Common.{List, subst}
use Rattle.std.proofs.lemmas.Result.{on_ok_weaker}
use Rattle.label_cells.specs.declared.split_runs.SplitRun.{SplitRun}
use Rattle.label_cells.specs.Groups.{AddsGroup, AddsRanks}
use Rattle.label_cells.proofs.group.push_group.Goals as goal

pub returns : goal.returns
returns c =
    let w = c.args.window in
    let ranks = c.args.ranks.now in
    let old = c.args.cells.now.items in
    let new = c.push_ranks.new.cells.items in
    let summary = c.in_ok-summary.summary in
    let rows = c.split_group.new.buffers.rows.items in
    let runs = c.in_ok-summary.ensures.runs in
    on_ok_weaker {P = AddsRanks c.as_slice-rows.result.now summary.low ranks old new}
    {Q = AddsGroup w c.args.from ranks old new} c.push_ranks.result (λ those.
    let are = subst (λ (xs : List SplitRun). AddsRanks xs summary.low ranks old new) c.as_slice-rows.ensures.value
    those in
    record {
      size = are.size;
      kept = are.kept;
      added = λ k l ds less h is. are.added k l w.minutes ds less h (runs.runs l ds h is);
    }) c.push_ranks.ensures.added
