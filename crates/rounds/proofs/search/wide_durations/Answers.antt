use Rattle.std.proofs.Common.{rules, ◌≡◌, ℕ, ◌*◌, ◌∙◌, length, replicate, ap}
use Rattle.std.proofs.lemmas.List.{length-replicate}
use Rattle.timetable.specs.declared.least.TheConstants.{NEVER}
use Rattle.rounds.specs.Table.{batches_of}
use Rattle.rounds.proofs.FilledTable.{all_unused}
use Rattle.rounds.proofs.search.wide_durations.Goals as goal

pub run_window-requires-clause-room : goal.run_window-requires-clause-room
run_window-requires-clause-room c =
    let q = c.args.query in
    let n = q.network.now in
    let chunks = batches_of c.args.minutes in
    let none : c.in_ok-durations.durations.items ≡ replicate (c.stops-stops.result * chunks) (replicate 16 NEVER) =
    c.in_ok-durations.ensures.items_if_clones_equal (λ y h. search rules) in
    let all : c.deref_mut.result.now ≡ replicate (n.stops * chunks) (replicate 16 NEVER) =
    c.deref_mut.ensures.value
    ∙ (none ∙ ap (λ (x : ℕ). replicate (x * chunks) (replicate 16 NEVER)) c.stops-stops.ensures) in
    record {
      size = ap length all ∙ length-replicate (n.stops * chunks) (replicate 16 NEVER);
      unused = all_unused n.stops (length q.times.now) c.args.minutes c.deref_mut.result.now all;
    }
