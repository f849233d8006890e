use Rattle.std.proofs.Common.{◌+◌, ap, ◌∙◌, Bool, false, get_or, sym, arith, ℕ}
use Rattle.table_files.specs.declared.calendar.CalendarRow.{CalendarRow}
use Rattle.service_days.specs.Services.{covers}
use Rattle.gtfs_tables.specs.Feed.{calendar_data}
use Rattle.service_days.proofs.ServiceMarks.{marked, still_marked}
use Rattle.service_days.proofs.services.mark_scheduled.Goals as goal
use Rattle.service_days.proofs.services.mark_scheduled.Goals.{then-covers, else-covers}

pub loop-row-preserved : goal.loop-row-preserved
loop-row-preserved c s lt =
    let x = c.row-item.result in
    let i = c.loop-row.row-index in
    let of : CalendarRow → ℕ = λ r. r.service in
    let says : CalendarRow → Bool = λ r. covers c.args.day.number (calendar_data r) in
    let service = c.args.first + s in
    let start = get_or c.args.running.now s false in
    let old = get_or c.loop-row.running s false in
    elim c.if-covers.branch [
      | then-covers w ↦ ap (λ l. get_or l s false) w.running-is
          ∙ marked of says c.args.calendar.now i x c.loop-row-test.true c.row-item.is service start old _
          (sym c.covers.ensures ∙ w.if-covers.true) (w.set_mark.ensures s (omega arith))
          (c.loop-row.invariant s lt)
      | else-covers w ↦ ap (λ l. get_or l s false) w.running-is
          ∙ still_marked of says c.args.calendar.now i x c.loop-row-test.true c.row-item.is service start old
          (sym c.covers.ensures ∙ w.if-covers.false) (c.loop-row.invariant s lt)
    ]
