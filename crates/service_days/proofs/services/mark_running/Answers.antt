use Rattle.std.proofs.Common.{◌+◌, false, get_or, refl, arith}
use Rattle.std.specs.List.{list_any}
use Rattle.gtfs_tables.specs.Feed.{calendar_data, exception_data}
use Rattle.service_days.specs.Services.{adds, removes, schedules}
use Rattle.service_days.proofs.ServiceMarks.{added_by_rows, marked_in_turn, removed_by_rows, scheduled_by_rows}
use Rattle.service_days.proofs.services.mark_running.Goals as goal

pub returns : goal.returns
returns c k lt =
    let f = c.args.feed.now in
    let d = c.args.day.number in
    let s = c.args.first + k in
    let a = added_by_rows f s d d refl c.exceptions-exceptions.result.now c.exceptions-exceptions.ensures
    (list_any (λ r. adds s d (exception_data r)) c.exceptions-exceptions.result.now) refl in
    let b = scheduled_by_rows f s d d refl c.calendar.result.now c.calendar.ensures
    (list_any (λ r. schedules s d (calendar_data r)) c.calendar.result.now) refl in
    let r = removed_by_rows f s d d refl c.exceptions-exceptions.result.now c.exceptions-exceptions.ensures
    (list_any (λ r. removes s d (exception_data r)) c.exceptions-exceptions.result.now) refl in
    marked_in_turn (list_any (adds s d) f.exceptions) (list_any (schedules s d) f.calendar)
    (list_any (removes s d) f.exceptions)
    (get_or c.args.running.now k false) (get_or c.mark_scheduled.new.running k false)
    (get_or c.unmark_removed.new.running k false) (get_or c.mark_added.new.running k false)
    _ _ _ (c.requires k lt) (c.mark_scheduled.ensures k lt) (c.unmark_removed.ensures k (omega arith))
    (c.mark_added.ensures k (omega arith))
    b r a
