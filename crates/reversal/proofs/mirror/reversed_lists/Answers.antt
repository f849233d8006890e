use Rattle.std.proofs.Common.{◌<◌, ◌≤◌, ◌∙◌, get_or, length, arith}
use Rattle.std.proofs.lemmas.List.{length-map}
use Rattle.std.proofs.lemmas.Option.{slice_get-get_or}
use Rattle.timetable.specs.Footpaths.{rows_of}
use Rattle.reversal.proofs.FootpathsInTurn.{all_rows, rows_more}
use Rattle.reversal.proofs.mirror.reversed_lists.Goals as goal

pub reverse_row-requires : goal.reverse_row-requires
reverse_row-requires c k d l =
    let row = c.leaving.result.now in
    let known = c.known.ensures.in_range.walks.rows c.loop-a.a row c.leaving.ensures in
    let target = known.targets k (get_or row k d) (slice_get-get_or row k d l) in
    omega (arith, target.0, c.loop-a.invariant.count)

pub loop-a-preserved : goal.loop-a-preserved
loop-a-preserved c =
    record {
      rows = λ b l.
          let low : b < length c.loop-a.lists.items = omega (arith, l, c.in_ok-reverse_row.ensures.count) in
          rows_more (rows_of c.loop-a.lists.items) (rows_of c.reverse_row.new.lists.items) c.args.feet.now.walks
          c.loop-a.a b c.leaving.result.now c.leaving.ensures (c.in_ok-reverse_row.ensures.rows b low)
          ∙ c.loop-a.invariant.rows b low;
      count = c.in_ok-reverse_row.ensures.count ∙ c.loop-a.invariant.count;
    }

pub returns : goal.returns
returns c =
    let lists = rows_of c.loop-a.lists.items in
    let past : length c.args.feet.now.walks ≤ c.loop-a.a = omega arith in
    let long = length-map c.loop-a.lists.items (λ v. v.items) in
    all_rows c.args.feet.now lists c.loop-a.a past (long ∙ c.loop-a.invariant.count) (λ b l.
    c.loop-a.invariant.rows b (omega (arith, l, long)))
