use Rattle.std.proofs.Common.{◌+◌, ap, ◌==◌, ◌&&◌, ◌∙◌, Bool, false, get_or, sym, arith, ℕ}
use Rattle.table_files.specs.declared.calendar_dates.ExceptionRow.{ExceptionRow}
use Rattle.gtfs_tables.specs.Feed.{day_number}
use Rattle.service_days.proofs.ServiceMarks.{marked, still_marked}
use Rattle.service_days.proofs.services.mark_added.Goals as goal
use Rattle.service_days.proofs.services.mark_added.Goals.{then-adds, else-adds}

pub loop-row-preserved : goal.loop-row-preserved
loop-row-preserved c s lt =
    let x = c.row-item.result in
    let i = c.loop-row.row-index in
    let of : ExceptionRow → ℕ = λ r. r.service in
    let says : ExceptionRow → Bool = λ r. (day_number r.date == c.args.day.number) && r.adds in
    let service = c.args.first + s in
    let start = get_or c.args.running.now s false in
    let old = get_or c.loop-row.running s false in
    elim c.if-adds.branch [
      | then-adds w ↦ ap (λ l. get_or l s false) w.running-is
          ∙ marked of says c.args.exceptions.now i x c.loop-row-test.true c.row-item.is service start old _
          (sym c.adds.ensures ∙ w.if-adds.true) (w.set_mark.ensures s (omega arith)) (c.loop-row.invariant s lt)
      | else-adds w ↦ ap (λ l. get_or l s false) w.running-is
          ∙ still_marked of says c.args.exceptions.now i x c.loop-row-test.true c.row-item.is service start old
          (sym c.adds.ensures ∙ w.if-adds.false) (c.loop-row.invariant s lt)
    ]
