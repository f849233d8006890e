use Rattle.std.proofs.Common.{ℕ, arith, List}
use Rattle.std.proofs.lemmas.Result.{err_from_is_err_and}
use Rattle.std.proofs.lemmas.List.FromFn.{length-enumerate_from}
use Rattle.std.specs.List.{enumerate_from}
use Rattle.gtfs_tables.specs.declared.trip.FeedTrip.{FeedTrip}
use Rattle.service_days.specs.Instances.{runs_if}
use Rattle.service_days.specs.declared.run.Run.{Run}
use Rattle.service_days.proofs.RunLists.{fault_of_part, list_more, list_whole, numbered}
use Rattle.service_days.proofs.instances.add_day.Goals as goal

pub returns-in_err-add_if_running-clause-fault : goal.returns-in_err-add_if_running-clause-fault
returns-in_err-add_if_running-clause-fault c =
    let p = err_from_is_err_and c.from_residual.result c.from_residual.ensures.1 in
    let f : ℕ × FeedTrip → List Run = λ at. runs_if c.args.feed.now c.args.day.now.number c.args.base at.0 at.1 in
    let trips = c.args.feed.now.trips in
    let n = c.loop-number.number in
    let t = c.trip.result.now in
    let count = length-enumerate_from 0 trips in
    rw (p.1, p.2) (fault_of_part f (enumerate_from 0 trips) n (n, t) (
      n,
      t,
    ) (omega arith) (numbered trips n t c.trip.ensures) c.args.runs.now c.loop-number.runs
    c.loop-number.invariant
    c.in_err-add_if_running.field-0.0 c.in_err-add_if_running.ensures.fault)

pub loop-number-preserved : goal.loop-number-preserved
loop-number-preserved c =
    let f : ℕ × FeedTrip → List Run = λ at. runs_if c.args.feed.now c.args.day.now.number c.args.base at.0 at.1 in
    let trips = c.args.feed.now.trips in
    let n = c.loop-number.number in
    let t = c.trip.result.now in
    let count = length-enumerate_from 0 trips in
    list_more f (enumerate_from 0 trips) n (n, t) (n, t) (omega arith) (numbered trips n t c.trip.ensures)
    c.args.runs.now c.loop-number.runs
    c.add_if_running.new.runs c.loop-number.invariant
    c.in_ok-add_if_running.ensures.good

pub returns-clause-good : goal.returns-clause-good
returns-clause-good c =
    let f : ℕ × FeedTrip → List Run = λ at. runs_if c.args.feed.now c.args.day.now.number c.args.base at.0 at.1 in
    let count = length-enumerate_from 0 c.args.feed.now.trips in
    list_whole f (enumerate_from 0 c.args.feed.now.trips) c.loop-number.number (omega arith) c.args.runs.now
    c.loop-number.runs c.loop-number.invariant
