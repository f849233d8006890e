use Rattle.std.proofs.Common.{◌≡◌, ℕ, ◌<◌, ◌++◌, ◌∷◌, [], Vec, length, get_or, slice_index, sym, ◌∙◌, ap, arith}
use Rattle.std.specs.declared.alloc.Global.{Global}
use Rattle.std.proofs.lemmas.List.{map_push}
use Rattle.std.proofs.lemmas.Option.{slice_get-get_or}
use Rattle.timetable.specs.declared.trips.StopNo.{StopNo}
use Rattle.timetable.specs.Footpaths.{rows_of}
use Rattle.timetable.specs.Numbering.{number_in}
use Rattle.timetable.proofs.RenumberedFeet.{row_more}
use Rattle.timetable.proofs.ElementsInRange.{row_at, row_read}
use Rattle.timetable.proofs.footpaths.renumbered_rows.Goals as goal

pub renumbered_row-requires : goal.renumbered_row-requires
renumbered_row-requires c =
    let lists = c.args.lists.now in
    let order = c.args.numbering.now.order.items in
    let i = c.loop-stop.stop-index in
    let a = get_or c.as_slice-stop-items.result.now i 0 in
    let read : a ≡ slice_index order i = ap (λ xs. get_or xs i 0) c.as_slice-stop-items.ensures.value in
    let within : i < length lists = omega (
      arith,
      c.loop-stop-test.true,
      ap length c.as_slice-stop-items.ensures.value,
      c.requires.numbers.count,
    ) in
    let low : a < length lists = omega (arith, read, (c.requires.numbers.stop i within).0) in
    let row = c.requires.range.rows a c.index-lists-stop.result.items (row_at lists a c.index-lists-stop.result low
    c.index-lists-stop.is) in
    rw (c.as_slice-row.ensures.value, c.as_slice.ensures.value) (λ k d l.
    let target = row.targets k (get_or c.index-lists-stop.result.items k d)
    (slice_get-get_or c.index-lists-stop.result.items k d l) in
    omega (arith, target.0, c.requires.numbers.size))

pub loop-stop-preserved : goal.loop-stop-preserved
loop-stop-preserved c =
    let lists = c.args.lists.now in
    let order = c.args.numbering.now.order.items in
    let i = c.loop-stop.stop-index in
    let a = get_or c.as_slice-stop-items.result.now i 0 in
    let read : a ≡ slice_index order i = ap (λ xs. get_or xs i 0) c.as_slice-stop-items.ensures.value in
    let within : i < length lists = omega (
      arith,
      c.loop-stop-test.true,
      ap length c.as_slice-stop-items.ensures.value,
      c.requires.numbers.count,
    ) in
    let low : a < length lists = omega (arith, read, (c.requires.numbers.stop i within).0) in
    let more :
    rows_of c.push.new.self.items ≡ rows_of c.loop-stop.rows.items ++ c.in_ok-renumbered_row.field-0.items ∷ [] =
    ap rows_of c.in_ok-push.ensures.items
    ∙ map_push (λ (v : Vec (StopNo × ℕ) Global). v.items) c.loop-stop.rows.items c.in_ok-renumbered_row.field-0 in
    let is = rw (c.as_slice-row.ensures.value, c.as_slice.ensures.value) at c.in_ok-renumbered_row.ensures in
    row_more (number_in c.args.numbering.now.numbers.items) order (rows_of lists) (rows_of c.loop-stop.rows.items)
    (rows_of c.push.new.self.items) i a c.index-lists-stop.result.items c.in_ok-renumbered_row.field-0.items
    c.loop-stop.invariant read (sym (row_read lists a c.index-lists-stop.result low c.index-lists-stop.is)) is more
