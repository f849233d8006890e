use Rattle.std.proofs.Common.{◌≡◌, ◌∙◌, ◌+◌, ◌*◌, ◌++◌, ℕ, List, arith, ap, length}
use Rattle.std.proofs.lemmas.Result.{err_from_is_err_and}
use Rattle.std.proofs.lemmas.List.FromFn.{length-range_with_len}
use Rattle.std.specs.List.{range_with_len}
use Rattle.service_days.specs.Instances.{IsListFault, runs_of_day}
use Rattle.service_days.specs.declared.run.Run.{Run}
use Rattle.service_days.proofs.RunLists.{fault_of_part, list_more, list_whole, number_at}
use Rattle.service_days.proofs.instances.add_days.Goals as goal

pub returns-in_err-add_day-clause-fault : goal.returns-in_err-add_day-clause-fault
returns-in_err-add_day-clause-fault c =
    let p = err_from_is_err_and c.from_residual-in_err-add_day.result c.from_residual-in_err-add_day.ensures.1 in
    let f : ℕ → List Run = λ x. runs_of_day c.args.feed.now (c.args.first + x) (86400 * x) in
    let x = c.loop-x.x in
    let count = length-range_with_len 0 c.args.days in
    let told : IsListFault c.in_err-add_day.field-0.0 (length c.loop-x.runs + length (f x)) =
    rw c.in_ok-day.ensures.number at c.in_err-add_day.ensures.fault in
    rw (p.1, p.2) (fault_of_part f (range_with_len 0 c.args.days) x x x (omega arith)
    (number_at c.args.days x c.loop-x-test.true) c.args.runs.now c.loop-x.runs c.loop-x.invariant
    c.in_err-add_day.field-0.0 told)

pub loop-x-preserved : goal.loop-x-preserved
loop-x-preserved c =
    let f : ℕ → List Run = λ x. runs_of_day c.args.feed.now (c.args.first + x) (86400 * x) in
    let x = c.loop-x.x in
    let count = length-range_with_len 0 c.args.days in
    let added : c.add_day.new.runs ≡ c.loop-x.runs ++ f x =
    c.in_ok-add_day.ensures.good ∙ ap (λ n. c.loop-x.runs ++ runs_of_day c.args.feed.now n (86400 * x))
    c.in_ok-day.ensures.number in
    list_more f (range_with_len 0 c.args.days) x x x (omega arith) (number_at c.args.days x c.loop-x-test.true)
    c.args.runs.now c.loop-x.runs c.add_day.new.runs c.loop-x.invariant added

pub returns-clause-good : goal.returns-clause-good
returns-clause-good c =
    let f : ℕ → List Run = λ x. runs_of_day c.args.feed.now (c.args.first + x) (86400 * x) in
    let count = length-range_with_len 0 c.args.days in
    list_whole f (range_with_len 0 c.args.days) c.loop-x.x (omega arith) c.args.runs.now c.loop-x.runs
    c.loop-x.invariant
