use Rattle.std.proofs.Common.{◌≡◌, ℕ, ◌*◌, ◌∙◌, ◌≤◌, List, [], get_or, length, replicate, slice_index, ap, subst}
use Rattle.std.proofs.Common.{arith}
use Rattle.std.proofs.lemmas.List.{get_or-replicate, length-replicate}
use Rattle.timetable.specs.declared.least.TheConstants.{NEVER}
use Rattle.rounds.specs.Query.{IsWorkspaceFor}
use Rattle.rounds.specs.Table.{batches_of}
use Rattle.rounds.proofs.latest_first.begin.Goals as goal

pub returns : goal.returns
returns c =
    let q = c.args.query in
    let stops = q.network.now.stops in
    let past : length q.times.now ≤ 16 * batches_of (length q.times.now) = omega arith in
    let bounds = c.in_ok-bounds.ensures in
    let none : c.in_ok-durations.durations.items ≡ replicate stops (replicate 16 NEVER) =
    c.in_ok-durations.ensures ∙ ap (λ (x : ℕ). replicate x (replicate 16 NEVER)) c.stops-stops.ensures in
    record {
      whole = omega arith;
      few = omega arith;
      workspace = subst (λ (x : ℕ). IsWorkspaceFor x q.lines.now c.fit.new.self) c.stops-stops.ensures
          c.in_ok-fit.ensures;
      bounds = record {
        last = λ _. bounds.departure;
        followed = λ more. absurd (omega (arith, more, past));
        count = λ _. (bounds.bounds NEVER).count;
        each = λ _ base at. (bounds.bounds NEVER).each base at;
      };
      rows = ap length none ∙ length-replicate stops (replicate 16 NEVER);
      found = λ p l there h. record {
        used = λ more. absurd (omega (arith, more, past));
        unused = λ _.
            ap (λ (rows : List (List ℕ)). slice_index (get_or rows p []) l) none
            ∙ (ap (λ (row : List ℕ). slice_index row l) (get_or-replicate stops p (replicate 16 NEVER) [] there)
            ∙ get_or-replicate 16 l NEVER 0 h);
      };
    }
