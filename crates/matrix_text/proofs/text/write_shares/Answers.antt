use Rattle.std.proofs.Common.{◌≡◌, ◌<◌, ◌≤◌, ℕ, List, arith, get_or, length, rules, subst, sym, take}
use Rattle.std.specs.Io.KnownBytes.{Appends}
use Rattle.std.specs.List.{flat_map, zip}
use Rattle.std.proofs.lemmas.Iterator.{YieldsList-from_slice, YieldsList-from_zip}
use Rattle.std.proofs.lemmas.Iterator.Consumers.{YieldsList-end, YieldsList-turn}
use Rattle.std.proofs.lemmas.List.{length_push}
use Rattle.collector.specs.Row.{CellsData}
use Rattle.matrix_text.specs.Prefixes.{PutsPrefix}
use Rattle.matrix_text.specs.Text.{share_line}
use Rattle.matrix_text.proofs.RowLines.{line_cut, line_out, lines_out}
use Rattle.matrix_text.proofs.text.write_shares.Goals as goal

pub loop-share-preserved : goal.loop-share-preserved
loop-share-preserved g c =
    let contents = g.W.Write.contents in
    let pairs : List (ℕ × CellsData) = zip c.args.shares.now c.args.rows.now in
    let line = share_line c.args.name.now c.args.stop.now in
    let yielded = c.loop-share.yielded in
    let next : ℕ × CellsData = (c.in-Some.share.now, c.in-Some.given.now) in
    let items = YieldsList-from_zip (YieldsList-from_slice c.args.shares.now cc)
    (YieldsList-from_slice c.args.rows.now cc) in
    let turn : (length yielded < length pairs) × (next ≡ get_or pairs (length yielded) next) =
    YieldsList-turn items yielded c.loop-share.share-iterator c.loop-share.yielded_by c.next.result c.next.new.self
    (c.in-Some.share, c.in-Some.given) c.in-Some.is c.next.ensures.steps in
    let out = subst (λ (p : ℕ × CellsData). Appends (contents c.loop-share.w) (contents c.write_share.new.w) (line p))
    turn.1 c.in_ok-write_share.ensures.ok in
    subst (λ (k : ℕ). Appends (contents c.args.w.now) (contents c.write_share.new.w) (flat_map line (take k pairs)))
    (sym (length_push yielded (c.in-Some.share, c.in-Some.given)))
    (line_out line pairs _ _ _ (length yielded) next turn.0 c.loop-share.invariant out)

pub returns-in_err-write_share-clause-err : goal.returns-in_err-write_share-clause-err
returns-in_err-write_share-clause-err g c =
    let contents = g.W.Write.contents in
    let pairs : List (ℕ × CellsData) = zip c.args.shares.now c.args.rows.now in
    let line = share_line c.args.name.now c.args.stop.now in
    let yielded = c.loop-share.yielded in
    let next : ℕ × CellsData = (c.in-Some.share.now, c.in-Some.given.now) in
    let items = YieldsList-from_zip (YieldsList-from_slice c.args.shares.now cc)
    (YieldsList-from_slice c.args.rows.now cc) in
    let turn : (length yielded < length pairs) × (next ≡ get_or pairs (length yielded) next) =
    YieldsList-turn items yielded c.loop-share.share-iterator c.loop-share.yielded_by c.next.result c.next.new.self
    (c.in-Some.share, c.in-Some.given) c.in-Some.is c.next.ensures.steps in
    let cut = subst (λ (p : ℕ × CellsData). PutsPrefix (contents c.loop-share.w) (contents c.write_share.new.w)
    (line p)) turn.1 c.in_err-write_share.ensures.err in
    let all = line_cut line pairs _ _ _ (length yielded) next turn.0 c.loop-share.invariant cut in
    search rules

pub returns-clause-ok : goal.returns-clause-ok
returns-clause-ok g c =
    let pairs : List (ℕ × CellsData) = zip c.args.shares.now c.args.rows.now in
    let line = share_line c.args.name.now c.args.stop.now in
    let yielded = c.loop-share.yielded in
    let items = YieldsList-from_zip (YieldsList-from_slice c.args.shares.now cc)
    (YieldsList-from_slice c.args.rows.now cc) in
    let end = YieldsList-end items yielded c.loop-share.share-iterator c.loop-share.yielded_by c.next.result
    c.next.new.self c.in-None.is c.next.ensures.steps in
    let few : length pairs ≤ length yielded = omega (arith, end.1) in
    lines_out line pairs _ _ (length yielded) few c.loop-share.invariant
