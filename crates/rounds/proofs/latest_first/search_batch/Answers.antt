use Rattle.std.proofs.Common.{◌≡◌, ℕ, ◌+◌, ◌*◌, ◌<◌, ◌∙◌, List, [], length, slice_index, slice_index_or, ap, subst}
use Rattle.std.proofs.Common.{sym, arith}
use Rattle.timetable.specs.declared.least.TheConstants.{NEVER}
use Rattle.trip_lanes.specs.Since.{IsSinceTo}
use Rattle.rounds.specs.LatestFirst.{IsLaneDuration, search_of}
use Rattle.rounds.specs.Searches.{arrival_in}
use Rattle.rounds.proofs.BoundedStops.{written}
use Rattle.rounds.proofs.WideLabels.{all_least}
use Rattle.rounds.proofs.latest_first.search_batch.Goals as goal

pub run_batch-batch-requires-clause-bounds : goal.run_batch-batch-requires-clause-bounds
run_batch-batch-requires-clause-bounds c =
    let b = c.requires.progress.bounds in
    record { count = b.count (omega arith); each = b.each (omega arith) }

pub returns : goal.returns
returns c =
    let q = c.args.query in
    let n = q.network.now in
    let from = c.args.from in
    let batch = c.run_batch-batch.result in
    let w = c.run_batch-batch.new.workspace in
    let are = c.run_batch-batch.ensures in
    let old = c.requires.progress in
    let write = c.write_batch.ensures in
    let new = c.write_batch.new.labels in
    let had = c.as_mut_slice-durations.ensures.value in
    let long : length new ≡ n.stops = write.same ∙ (ap length had ∙ old.rows) in
    let is_new = written c.args.progress.now.durations new old.rows had c.as_mut_slice-durations.ensures.len long in
    let since : (p l : ℕ) → p < n.stops → l < 16 → IsSinceTo NEVER (slice_index batch.departures l)
    (arrival_in (λ (row : List ℕ). row) w l p) (slice_index (slice_index_or new p []) l) =
    λ p l there h. (let place : p * 1 + 0 ≡ p = omega arith in
    subst (λ (x : ℕ). IsSinceTo NEVER (slice_index batch.departures l) (arrival_in (λ (row : List ℕ). row) w l p)
    (slice_index (slice_index_or new x []) l)) place (write.written l p h (omega (arith, there, are.workspace.ready)))) in
    record {
      whole = omega (arith, old.whole);
      few = omega (arith, c.requires.from);
      workspace = are.workspace;
      bounds = record {
        last = are.departure.last;
        followed = are.departure.followed;
        count = λ more. (are.bounds more).count;
        each = λ more. (are.bounds more).each;
      };
      rows = ap length is_new ∙ long;
      found = λ p l there h.
          subst (λ (rows : List (List ℕ)). IsLaneDuration (search_of q from) p l
          (slice_index (slice_index_or rows p []) l)) (sym is_new) (record {
            used = λ within.
                all_least q c.known.ensures c.requires.query from batch w are.arrivals l p h there within
                (slice_index (slice_index_or new p []) l) (since p l there h);
            unused = λ past. (since p l there h).never_so (are.arrivals.unused l p h past there);
          });
    }
