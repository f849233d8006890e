use Rattle.std.proofs.Common.{◌∙◌, ℕ, ap, inl, sym}
use Rattle.std.proofs.lemmas.Result.{err_from_is_err_and}
use Rattle.table_records.specs.declared.fault.FeedFault.{FeedFault}
use Rattle.table_records.specs.declared.fault.FileName.TheVariants.{StopTimes}
use Rattle.table_records.specs.declared.fault.What.TheVariants.{NoTime, TimesGoBack}
use Rattle.trip_events.proofs.EventFacts.{none_first, sound_trip, tells_back, tells_untimed}
use Rattle.trip_events.proofs.whole_trips.events_of_trip.Goals as goal

pub returns-clause-good : goal.returns-clause-good
returns-clause-good c =
    let (none, events) = sound_trip c.args.trip_times.now (sym c.requires.aside
    ∙ c.if-is_aside.false) (none_first _ c.in_default.ensures)
    (none_first _ c.in_default-first_record_back.ensures) in
    (none, c.new-2.ensures ∙ c.in_ok-filled.ensures ∙ sym events)

pub returns-in-Some-clause-fault : goal.returns-in-Some-clause-fault
returns-in-Some-clause-fault c =
    let is = c.at.ensures ∙ ap (λ (n : ℕ). let f : FeedFault = record { file = StopTimes; at = n; what = NoTime } in
    f) c.from.ensures in
    tells_untimed c.args.trip_times.now (sym c.requires.aside
    ∙ c.if-is_aside.false) c.in-Some.at c.at.result c.in-Some.ensures is

pub returns-in-Some-first_record_back-clause-fault : goal.returns-in-Some-first_record_back-clause-fault
returns-in-Some-first_record_back-clause-fault c =
    let is = c.at-in-Some-first_record_back.ensures
    ∙ ap (λ (n : ℕ). let f : FeedFault = record { file = StopTimes; at = n; what = TimesGoBack } in
    f) c.from-in-Some-first_record_back.ensures in
    tells_back c.args.trip_times.now (sym c.requires.aside
    ∙ c.if-is_aside.false) c.in-Some-first_record_back.at c.at-in-Some-first_record_back.result
    (none_first _ c.in_default.ensures) c.in-Some-first_record_back.ensures is

pub returns-in_err-filled-clause-fault : goal.returns-in_err-filled-clause-fault
returns-in_err-filled-clause-fault c =
    let (e, is, memory) = err_from_is_err_and c.from_residual.result c.from_residual.ensures.1 in
    rw is (inl memory)
