use Rattle.std.proofs.Common.{◌≡◌, ℕ, min, inl, inr, sym, subst, ◌∙◌}
use Rattle.std.proofs.lemmas.Bool.{cases_eq}
use Rattle.label_cells.specs.Groups.{cell_at}
use Rattle.rounds.specs.Labels.{walk_seconds, walk_stop}
use Rattle.label_cells.proofs.LeastWalks.{walk_here, walk_elsewhere}
use Rattle.label_cells.proofs.walks.lower_walks.Goals as goal

pub loop-i-preserved : goal.loop-i-preserved
loop-i-preserved c =
    let walks = c.args.walks.now in
    let ranks = c.args.ranks in
    let i = c.loop-i.i in
    let start = c.args.cells.now in
    let old = c.loop-i.cells in
    let new = c.lower_stop.new.cells in
    let was = c.loop-i.invariant in
    record {
      same = c.lower_stop.ensures.same ∙ was.same;
      walked = λ q k l. elim (cases_eq (walk_stop walks i) q) [
        | inl e ↦ walk_here walks q i (cell_at ranks old q k) (cell_at ranks new q k) (cell_at ranks start q k) e
            (c.requires.seconds i c.loop-i-test.true) (was.walked q k l)
            (subst (λ (s : ℕ). cell_at ranks new s k ≡ min (cell_at ranks old s k) (walk_seconds walks i)) e
            (c.lower_stop.ensures.lowered k l))
        | inr ne ↦ walk_elsewhere walks q i (cell_at ranks old q k) (cell_at ranks new q k) (cell_at ranks start q k) ne
            (was.walked q k l) (c.lower_stop.ensures.kept q k l (λ e. ne (sym e)))
      ];
    }
