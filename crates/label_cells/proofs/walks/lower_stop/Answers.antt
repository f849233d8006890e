use Rattle.std.proofs.Common.{◌≡◌, ◌+◌, ◌*◌, ◌/◌, ◌%◌, ℕ, inl, inr, min, ◌∙◌, ap, subst, arith}
use Rattle.std.proofs.lemmas.Bool.{cases_lt}
use Rattle.label_cells.specs.Groups.{cell_at}
use Rattle.label_cells.proofs.CellsApart.{cells_apart}
use Rattle.label_cells.proofs.walks.lower_stop.Goals as goal

pub loop-k-preserved : goal.loop-k-preserved
loop-k-preserved c =
    let old = c.loop-k.invariant in
    let lane = c.lower_lane.ensures in
    let ranks = c.args.ranks in
    let number = c.args.number in
    let k = c.loop-k.k in
    let here = c.loop-k-test.true in
    record {
      same = lane.same ∙ old.same;
      lowered = λ j l. elim (cases_lt j k) [
        | inl lt ↦ lane.kept (number / 16 * ranks + j) (number % 16)
            (cells_apart ranks number number j k (omega (arith, lt, here)) here (inr (λ e. omega (arith, e, lt))))
            ∙ old.lowered j lt
        | inr ge ↦
            let e : k ≡ j = omega (arith, ge, l) in
            subst (λ (x : ℕ). cell_at ranks c.lower_lane.new.cells number x
            ≡ min (cell_at ranks c.args.cells.now number x) c.args.seconds) e
            (lane.lowered ∙ ap (λ (x : ℕ). min x c.args.seconds) (old.rest k (omega arith) here))
      ];
      rest = λ j ge l. lane.kept (number / 16 * ranks + j) (number % 16)
          (cells_apart ranks number number j k l here (inr (λ e. omega (arith, e, ge))))
          ∙ old.rest j (omega (arith, ge)) l;
      kept = λ q j l ne. lane.kept (q / 16 * ranks + j) (q % 16)
          (cells_apart ranks q number j k l here (inl ne)) ∙ old.kept q j l ne;
    }
