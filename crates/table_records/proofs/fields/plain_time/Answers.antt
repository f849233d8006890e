use Rattle.std.proofs.Common.{sym}
use Rattle.table_records.proofs.PlainTimes.{plain}
use Rattle.table_records.proofs.fields.plain_time.Goals as goal

pub returns : goal.returns
returns c =
    plain c.args.text.now c.in_ok-hours.hours c.in_ok-minutes.minutes c.in_ok-seconds.seconds c.if-text-ne8.false
    c.if-text-ne58.false c.if-text-ne58-2.false
    (sym c.in_ok-hours.ensures.value) (sym c.in_ok-minutes.ensures.value) (sym c.in_ok-seconds.ensures.value)
