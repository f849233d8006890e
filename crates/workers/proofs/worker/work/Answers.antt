use Rattle.std.proofs.Common.{◌≡◌, ◌+◌, ◌*◌, ◌≤◌, ◌<◌, false, refl, ap, sym, subst, ◌∙◌, arith}
use Rattle.work_book.specs.Board.{seen_by}
use Rattle.work_book.specs.Views.{told_nothing}
use Rattle.work_book.specs.declared.rule.View.{View}
use Rattle.workers.specs.Study.{study_of}
use Rattle.workers.specs.declared.worker.Ending.TheVariants as ending
use Rattle.workers.specs.Held.{AreTold, HasEnded, HoldsRows, KnowsAsMuch, WorkedFor}
use Rattle.workers.proofs.KnowledgeGrows.{all_done_more, ended_at, knows_both, knows_same}
use Rattle.workers.proofs.KnowledgeGrows.{one_more_done, told_end}
use Rattle.workers.proofs.JobCounts.{past_last, past_last_push, past_last_le}
use Rattle.workers.proofs.HeldRowsGrow.{job_below}
use Rattle.workers.proofs.worker.work.Goals as goal

pub take-requires-clause-lease : goal.take-requires-clause-lease
take-requires-clause-lease g c = (c.in-Lease.ensures.drawn.2, c.in-Lease.ensures.given)

pub take-requires-clause-job : goal.take-requires-clause-job
take-requires-clause-job g c = job_below c.args.board.now c.in-Lease.lease c.in-Lease.ensures.drawn.2

pub loop-lease-smaller : goal.loop-lease-smaller
loop-lease-smaller g c =
    let d = c.in-Lease.ensures.drawn in
    let n = c.in-Lease.lease.number in
    let was = (seen_by c.loop-lease.hands.seat).drawn in
    let a : past_last (seen_by c.take.new.hands.seat).drawn ≡ n + 1 =
    ap past_last (c.take.ensures.drawn.0 ∙ ap (λ (z : View). z.drawn) d.0) ∙ past_last_push was n in
    let b : past_last was ≤ n = past_last_le was n d.1 in
    let e : n < c.args.board.now.jobs * c.args.board.now.tries = d.2.1 in omega arith

pub loop-lease-preserved : goal.loop-lease-preserved
loop-lease-preserved g c =
    let d = c.in-Lease.ensures.drawn in
    let was = seen_by c.loop-lease.hands.seat in
    let drawn = seen_by c.draw.new.seat in
    let now = seen_by c.take.new.hands.seat in
    let more : KnowsAsMuch was now = knows_both was drawn now (knows_same was drawn (ap (λ (z : View). z.known) d.0))
    c.take.ensures.known in
    record {
      board = c.take.ensures.board;
      share = c.take.ensures.share ∙ ap (λ (z : View). z.share) d.0 ∙ c.loop-lease.invariant.share;
      holds = c.take.ensures.rows;
      told = c.take.ensures.told (subst (AreTold (g.G.Gate.decides c.args.gate.now) (g.G.Gate.was_told c.args.gate.now))
          (sym (ap (λ (z : View). z.kept) d.0)) c.loop-lease.invariant.told);
      done =
          one_more_done (g.G.Gate.decides c.args.gate.now) c.args.board.now.jobs was.drawn now.drawn was now
          c.in-Lease.lease more c.loop-lease.invariant.done
          (c.take.ensures.drawn.0 ∙ ap (λ (z : View). z.drawn) d.0) d.2.0 c.in-Draw.ensures.next;
    }

pub returns-in-End : goal.returns-in-End
returns-in-End g c =
    let d = c.in-Lease.ensures.drawn in
    let decides = g.G.Gate.decides c.args.gate.now in
    let was = seen_by c.loop-lease.hands.seat in
    let drawn = seen_by c.draw.new.seat in
    let now = seen_by c.take.new.hands.seat in
    let untold : now.told ≡ false = c.take.ensures.drawn.1 ∙ ap (λ (z : View). z.told) d.0 ∙ d.3 in
    subst (λ w. WorkedFor c.args.board.now (study_of c.args.study.now) decides (g.G.Gate.was_told c.args.gate.now) w)
    (sym c.given_back.ensures)
    record {
      of_board = c.take.ensures.board;
      share = c.take.ensures.share ∙ ap (λ (z : View). z.share) d.0 ∙ c.loop-lease.invariant.share;
      holds = c.take.ensures.rows;
      told = c.take.ensures.told (subst (AreTold (g.G.Gate.decides c.args.gate.now) (g.G.Gate.was_told c.args.gate.now))
          (sym (ap (λ (z : View). z.kept) d.0)) c.loop-lease.invariant.told);
      ended =
          ended_at decides c.args.board.now was now c.in-Lease.lease c.in-End.ending
          (knows_both was drawn now (knows_same was drawn (ap (λ (z : View). z.known) d.0)) c.take.ensures.known)
          c.loop-lease.invariant.done (c.take.ensures.drawn.0 ∙ ap (λ (z : View). z.drawn) d.0) d.2.0 untold
          c.in-End.ensures.next;
    }

pub returns : goal.returns
returns g c =
    let decides = g.G.Gate.decides c.args.gate.now in
    let was_told = g.G.Gate.was_told c.args.gate.now in
    let board = c.args.board.now in
    let was = seen_by c.loop-lease.hands.seat in
    let now = seen_by c.draw.new.seat in
    let is : now ≡ told_nothing was = told_end board was now c.draw.result c.draw.ensures.drawn c.in_default.not-Lease
    in
    let invariant = c.loop-lease.invariant in
    subst (λ w. WorkedFor board (study_of c.args.study.now) decides was_told w) (sym c.given_back-2.ensures)
    record {
      of_board = c.draw.ensures.board;
      share = ap (λ (z : View). z.share) is ∙ invariant.share;
      holds = subst (λ (v : View). HoldsRows (study_of c.args.study.now) c.loop-lease.hands.rows.items v.kept) (sym is)
          invariant.holds;
      told = subst (λ (v : View). AreTold decides was_told v.kept) (sym is) invariant.told;
      ended = subst (λ (v : View). HasEnded decides board v ending.Nothing) (sym is) (
        refl,
        all_done_more decides board.jobs was.drawn was (told_nothing was)
            (knows_same was (told_nothing was) refl) invariant.done,
      );
    }
