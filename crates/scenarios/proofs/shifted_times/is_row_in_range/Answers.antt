use Rattle.std.proofs.Common.{◌≡◌, ◌∙◌, ◌+◌, ◌-◌, ◌%◌, ◌&&◌, ap, of_z, sym, to_z, w64, ℤ}
use Rattle.std.specs.List.{list_all}
use Rattle.std.proofs.lemmas.Int.{to_z-of_z}
use Rattle.service_days.specs.Instances.{departures_of}
use Rattle.scenarios.specs.ShiftedTimes.{ends_in_range, is_departure_in_range}
use Rattle.scenarios.proofs.RowRanges.{none_in_row, row_by_ends}
use Rattle.scenarios.proofs.shifted_times.is_row_in_range.Goals as goal

pub returns-then-row : goal.returns-then-row
returns-then-row c = none_in_row c.args.seconds c.args.length c.args.row.now c.requires.row c.if-row.true

pub returns-then-begins_in_range : goal.returns-then-begins_in_range
returns-then-begins_in_range c =
    let z = to_z w64 (of_z w64 c.args.seconds) in
    let same : z ≡ c.args.seconds = to_z-of_z w64 c.args.seconds c.ranges.seconds in
    let row = c.args.row.now in
    let last = row.end - 1 - (row.end - row.start - 1) % row.headway in
    c.ends_in_range.ensures ∙ ap (λ b. b && ends_in_range z (last + c.args.length)) (sym c.if-begins_in_range.true
    ∙ c.begins_in_range.ensures)
    ∙ row_by_ends z c.args.length row c.requires.row c.if-row.false
    ∙ ap (λ (y : ℤ). list_all (is_departure_in_range y c.args.length) (departures_of row)) same
