use Rattle.std.proofs.Common.{◌+◌, ap, ◌==◌, ◌&&◌, ◌∙◌, Bool, false, not, get_or, sym, arith, ℕ}
use Rattle.table_files.specs.declared.calendar_dates.ExceptionRow.{ExceptionRow}
use Rattle.gtfs_tables.specs.Feed.{day_number}
use Rattle.service_days.proofs.ServiceMarks.{unmarked, still_unmarked}
use Rattle.service_days.proofs.services.unmark_removed.Goals as goal
use Rattle.service_days.proofs.services.unmark_removed.Goals.{then-removes, else-removes}

pub loop-row-preserved : goal.loop-row-preserved
loop-row-preserved c s lt =
    let x = c.row-item.result in
    let i = c.loop-row.row-index in
    let of : ExceptionRow → ℕ = λ r. r.service in
    let says : ExceptionRow → Bool = λ r. (day_number r.date == c.args.day.number) && not r.adds in
    let service = c.args.first + s in
    let start = get_or c.args.running.now s false in
    let old = get_or c.loop-row.running s false in
    elim c.if-removes.branch [
      | then-removes w ↦ ap (λ l. get_or l s false) w.running-is
          ∙ unmarked of says c.args.exceptions.now i x c.loop-row-test.true c.row-item.is service start old _
          (sym c.removes.ensures ∙ w.if-removes.true) (w.set_mark.ensures s (omega arith))
          (c.loop-row.invariant s lt)
      | else-removes w ↦ ap (λ l. get_or l s false) w.running-is
          ∙ still_unmarked of says c.args.exceptions.now i x c.loop-row-test.true c.row-item.is service start old
          (sym c.removes.ensures ∙ w.if-removes.false) (c.loop-row.invariant s lt)
    ]
