use Rattle.std.proofs.Common.{◌≡◌, ◌⊎◌, ◌++◌, Bool, true, false, List, Some, slice_get, inl, inr, refl, arith}
use Rattle.std.proofs.lemmas.Grind.{common_steps}
use Rattle.csv.specs.Records.{fields_of}
use Rattle.table_records.specs.Faults.{when}
use Rattle.table_records.specs.Fields.{number_of, time_of}
use Rattle.table_records.specs.declared.fault.What.{What}
use Rattle.table_records.specs.declared.fault.What.TheVariants as what
use Rattle.trip_events.specs.StopTimes.{TimeRow, is_wrong, row_at, visit_checks}
use Rattle.trip_events.proofs.stop_times.TimeReader.visit.Goals as goal

-- where one of two times is wrong, that comes first
wrong_time : (arrive depart : Bool) (pickup drop_off : List What) → (arrive ≡ true) ⊎ (depart ≡ true) →
    slice_get (when arrive what.BadTime ++ when depart what.BadTime ++ pickup ++ drop_off) 0 ≡ Some what.BadTime
wrong_time true depart pickup drop_off one = refl
wrong_time false true pickup drop_off one = refl
wrong_time false false pickup drop_off (inl e) = cc e
wrong_time false false pickup drop_off (inr e) = cc e

pub returns-in_err-times-clause-fault : goal.returns-in_err-times-clause-fault
returns-in_err-times-clause-fault c =
    let r : TimeRow = row_at c.args.self.now.columns (fields_of c.args.row.now) in
    let (one, is) = c.in_err-times.ensures.fault in
    let wrong = rw (c.field-arrive_text.ensures, c.field-depart_text.ensures) at one in
    let first : slice_get (visit_checks r) 0 ≡ Some what.BadTime =
    wrong_time (is_wrong time_of r.arrive) (is_wrong time_of r.depart)
    (when (is_wrong number_of r.pickup) what.BadNumber) (when (is_wrong number_of r.drop_off) what.BadNumber) wrong in
    grind (arith, common_steps, first, is)
