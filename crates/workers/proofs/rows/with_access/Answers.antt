use Rattle.std.proofs.Common.{◌≡◌, ◌+◌, ◌<◌, ◌∷◌, [], ℕ, suc, List, Option, Some, Vec, Global, length, get_or, inl, inr}
use Rattle.std.proofs.Common.{ap, sym, subst, ◌∙◌, arith}
use Rattle.std.specs.List.{slice_get}
use Rattle.std.specs.Vec.Iter.{into_iter_items}
use Rattle.std.proofs.lemmas.List.{length-append}
use Rattle.std.proofs.lemmas.Option.{get_or_from_slice_get, slice_get-get_or}
use Rattle.shares.specs.Percentiles.{AreCellsAt}
use Rattle.collector.specs.Row.{CellsData}
use Rattle.workers.specs.Rows.{IsOfShare}
use Rattle.workers.proofs.Shares.{pushed_at, zip_from}
use Rattle.workers.proofs.rows.with_access.Goals as goal

pub given_of-requires-clause-cells : goal.given_of-requires-clause-cells
given_of-requires-clause-cells c =
    let was = c.loop-cells.invariant in
    let shares = c.args.study.now.shares.now in
    let k = length c.loop-cells.shares.items in
    let all = into_iter_items c.loop-cells.cells-iterator in
    let rest = into_iter_items c.next.new.self in
    let cells : Vec (Option ℕ) Global = c.in-Some.cells in
    let split : all ≡ cells ∷ rest = c.in-Some.ensures.steps.0 in
    let shorter = ap (λ (l : List (Vec (Option ℕ) Global)). length l) split in
    let low : k < length shares = omega (arith, was.count, shorter, c.requires.lists.count) in
    let place : k + 0 ≡ k = omega arith in
    let here : slice_get c.args.lists.items k ≡ Some cells =
    ap (λ (n : ℕ). slice_get c.args.lists.items n) (sym place)
    ∙ was.rest 0 cells (ap (λ (l : List (Vec (Option ℕ) Global)). slice_get l 0) split) in
    let same : k ≡ c.len-in-loop-cells.result = omega (arith, c.len-in-loop-cells.ensures, c.loop-cells.shares.ok.0) in
    subst (λ (n : ℕ). AreCellsAt c.args.durations.now c.args.study.now.destinations.now (get_or shares n 0)
    cells.items) same
    (c.requires.lists.each k (get_or shares k 0) cells (slice_get-get_or shares k 0 low) here)

pub loop-cells-preserved : goal.loop-cells-preserved
loop-cells-preserved c =
    let was = c.loop-cells.invariant in
    let all = into_iter_items c.loop-cells.cells-iterator in
    let rest = into_iter_items c.next.new.self in
    let split : all ≡ c.in-Some.cells ∷ rest = c.in-Some.ensures.steps.0 in
    let given = c.loop-cells.shares.items in
    let x : CellsData = c.in_ok-given_of.field-0 in
    let pushed = c.in_ok-push.ensures.items in
    let longer = ap (λ (l : List CellsData). length l) pushed ∙ length-append given (x ∷ []) in
    let shorter = ap (λ (l : List (Vec (Option ℕ) Global)). length l) split in
    let same : length given ≡ c.len-in-loop-cells.result =
    omega (arith, c.len-in-loop-cells.ensures, c.loop-cells.shares.ok.0) in
    record {
      count = omega (arith, was.count, longer, shorter);
      rest = λ j cells at.
          let place : length given + suc j ≡ length c.push.new.self.items + j = omega (arith, longer) in
          ap (λ (n : ℕ). slice_get c.args.lists.items n) (sym place)
          ∙ was.rest (suc j) cells (ap (λ (l : List (Vec (Option ℕ) Global)). slice_get l (suc j)) split ∙ at);
      done = λ j share other of_share at.
          elim (pushed_at given x other j (ap (λ (l : List CellsData). slice_get l j) (sym pushed) ∙ at)) [
            | inl before ↦ was.done j share other of_share before
            | inr last ↦
                let shares = c.args.study.now.shares.now in
                let is_share : get_or shares c.len-in-loop-cells.result 0 ≡ share =
                get_or_from_slice_get shares c.len-in-loop-cells.result share 0
                (ap (λ (n : ℕ). slice_get shares n) (sym (last.0 ∙ same)) ∙ of_share) in
                subst (λ (g : CellsData). IsOfShare c.args.durations.now c.args.study.now.opportunities.now
                c.args.study.now.withins.now c.args.study.now.destinations.now share g) last.1
                (subst (λ (n : ℕ). IsOfShare c.args.durations.now c.args.study.now.opportunities.now
                c.args.study.now.withins.now c.args.study.now.destinations.now n x) is_share
                c.in_ok-given_of.ensures)
          ];
    }

pub returns : goal.returns
returns c =
    let s = c.args.study.now in
    let was = c.loop-cells.invariant in
    zip_from (IsOfShare c.args.durations.now s.opportunities.now s.withins.now s.destinations.now)
    s.shares.now c.loop-cells.shares.items
    (omega (arith, was.count, c.requires.lists.count, c.in-None.ensures.steps)) was.done
