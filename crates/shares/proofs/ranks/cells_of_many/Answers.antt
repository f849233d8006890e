use Rattle.std.proofs.Common.{◌≡◌, ◌∙◌, ◌+◌, sym, ap, List, ℕ, Option, Vec, Global, length, get_or, subst, arith}
use Rattle.std.proofs.lemmas.Option.{slice_get_within, slice_get-get_or}
use Rattle.timetable.specs.declared.trips.StopNo.{StopNo}
use Rattle.shares.specs.Ranks.{AreLonger}
use Rattle.shares.specs.Percentiles.{HoldMinutes}
use Rattle.shares.proofs.RankAmongMinutes.{AreBegun, begun_next, written_back}
use Rattle.shares.proofs.ranks.cells_of_many.Goals as goal

pub push_cells-requires-clause-lanes : goal.push_cells-requires-clause-lanes
push_cells-requires-clause-lanes c =
    subst (λ (n : ℕ). HoldMinutes c.lanes_of-lanes.result.now n) (sym c.minutes-minutes.ensures) (record {
      few = c.known.ensures.few_minutes;
      batches = c.lanes_of-lanes.ensures.batches;
      dead = c.lanes_of-lanes.ensures.dead;
    })

pub loop-n-preserved : goal.loop-n-preserved
loop-n-preserved c =
    let t = c.args.durations.now in
    let ds = c.args.destinations.now in
    let stop : StopNo = get_or ds c.loop-n.n (record { 0 = 0 }) in
    let here = slice_get-get_or ds c.loop-n.n (record { 0 = 0 }) c.loop-n-test.true in
    let shares = c.args.shares.now in
    let lanes = c.lanes_of-lanes.result.now in
    let lists = c.loop-n.lists in
    let planes = c.loop-n.planes in
    let filled = c.push_cells.new.planes in
    let longer = c.push_cells.new.lists in
    let planes_back = written_back filled planes.items planes.len (c.push_cells.ensures.same
    ∙ sym c.loop-n.invariant.rows) planes.ok.0 in
    let lent : c.deref_mut.result.now ≡ lists.items = c.deref_mut.ensures.value in
    let grown : AreLonger lanes t.minutes shares lists.items longer =
    subst (λ (xs : List (Vec (Option ℕ) Global)). AreLonger lanes t.minutes shares xs longer) lent
    (subst (λ (n : ℕ). AreLonger lanes n shares c.deref_mut.result.now longer) c.minutes-minutes.ensures
    c.in_ok-push_cells.ensures.longer) in
    let lists_back = written_back longer lists.items lists.len grown.count lists.ok.0 in
    record {
      rows = ap length planes_back ∙ c.push_cells.ensures.same;
      begun = subst (λ (xs : List (Vec (Option ℕ) Global)). AreBegun t ds shares (c.loop-n.n + 1) xs) (sym lists_back)
          (begun_next t ds shares lanes c.loop-n.n stop lists.items longer here c.lanes_of-lanes.ensures.minutes
          c.loop-n.invariant.begun grown);
    }

pub returns : goal.returns
returns c =
    let ds = c.args.destinations.now in
    let begun = c.loop-n.invariant.begun in
    record {
      count = begun.count;
      each = λ k share cells of_share of_list. record {
        count = (let long = begun.stops k cells of_list in
            omega (arith, long, c.loop-n-test.false, c.loop-n.auto.n-end));
        each = λ j stop at. begun.each k share cells of_share of_list j stop (let low = slice_get_within ds j stop at in
            omega (arith, low, c.loop-n-test.false)) at;
      };
    }
