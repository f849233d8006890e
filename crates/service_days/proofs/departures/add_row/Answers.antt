use Rattle.std.proofs.Common.{◌≤◌, ◌+◌, ◌*◌, ◌∙◌, ℕ, arith, ap, length, map, length-append, FitsSigned, w64, to_z, of_z}
use Rattle.std.proofs.Common.{rules, ℤ}
use Rattle.std.proofs.lemmas.Int.{to_z-of_z}
use Rattle.service_days.specs.declared.run.Run.{Run}
use Rattle.std.proofs.lemmas.Result.{err_from_is_err_and}
use Rattle.std.proofs.lemmas.List.{length-map}
use Rattle.std.proofs.lemmas.List.FromFn.{length-map-range_with_len}
use Rattle.std.specs.List.{range_with_len}
use Rattle.service_days.specs.Instances.{departing, runs_of_row}
use Rattle.service_days.proofs.DepartureCounts.{length_of_row, row_more}
use Rattle.service_days.proofs.RunLists.{fault_of_more}
use Rattle.service_days.proofs.departures.add_row.Goals as goal

pub returns-then-count-room-clause-fault : goal.returns-then-count-room-clause-fault
returns-then-count-room-clause-fault c =
    let all = length_of_row c.args.base c.args.trip c.args.first c.args.row.now c.departure_count-count.result
    c.departure_count-count.ensures.departures in
    omega (arith, c.room.ensures)

pub returns-in_err-push-clause-fault : goal.returns-in_err-push-clause-fault
returns-in_err-push-clause-fault c =
    let p = err_from_is_err_and c.from_residual.result c.from_residual.ensures.1 in
    let f = departing c.args.base c.args.trip c.args.first in
    let g : ℕ → ℕ = λ x. c.args.row.now.start + x * c.args.row.now.headway in
    let all = length_of_row c.args.base c.args.trip c.args.first c.args.row.now c.departure_count-count.result
    c.departure_count-count.ensures.departures in
    let so_far = length-map (map g (range_with_len 0 c.loop-x.x)) f ∙ length-map-range_with_len g 0 c.loop-x.x in
    let made = ap length c.loop-x.invariant ∙ length-append c.args.runs.now
    (map f (map g (range_with_len 0 c.loop-x.x))) in
    let fewer : length c.loop-x.runs + 1 ≤ length c.args.runs.now + length
    (runs_of_row c.args.base c.args.trip c.args.first c.args.row.now) = omega arith in
    rw (p.1, p.2) (fault_of_more c.in_err-push.field-0.0 _ _ fewer c.in_err-push.ensures.fault)

pub loop-x-preserved : goal.loop-x-preserved
loop-x-preserved c =
    let f = departing c.args.base c.args.trip c.args.first in
    let g : ℕ → ℕ = λ x. c.args.row.now.start + x * c.args.row.now.headway in
    let fits : FitsSigned w64 c.difference.result = search rules in
    let run : Run = record { trip = c.args.trip; shift = to_z w64 (of_z w64 c.difference.result) } in
    row_more f g c.loop-x.x run c.args.runs.now c.loop-x.runs c.push.new.self c.loop-x.invariant
    c.in_ok-push.ensures.good
    (ap (λ (z : ℤ). record { trip = c.args.trip; shift = z }) (to_z-of_z w64 c.difference.result fits
    ∙ c.difference.ensures))
