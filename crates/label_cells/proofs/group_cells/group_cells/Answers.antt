use Rattle.std.proofs.Common.{◌≡◌, ◌≤◌, ◌<◌, ◌+◌, ◌*◌, ◌/◌, ℕ, Vec, Global, List, length, subst, sym, arith}
use Rattle.std.proofs.Math.Nat.{mul-le-mul_right}
use Rattle.label_cells.proofs.GroupCells.{AreCellsBefore, cells_more, cells_skipped}
use Rattle.label_cells.proofs.group_cells.group_cells.Goals as goal
use Rattle.label_cells.proofs.group_cells.group_cells.Goals.{then-used-group+in_ok-push_group}
use Rattle.label_cells.proofs.group_cells.group_cells.Goals.{else-used-group+in_ok-push_unused}

-- the labels of a group lie among those of all
group_space : (n g width size : ℕ) → g < (n + 15) / 16 → (n + 15) * width + 8 ≤ size →
    16 * g * width + 16 * width + 8 ≤ size
group_space n g width size less space =
    let rows : (16 * g + 16) * width ≤ (n + 15) * width = mul-le-mul_right width (omega (arith, less)) in
    let split : (16 * g + 16) * width ≡ 16 * g * width + 16 * width = grind arith in
    omega (arith, rows, split, space)

pub push_group-requires-clause-space : goal.push_group-requires-clause-space
push_group-requires-clause-space c =
    let w = c.args.window in
    group_space (length w.numbers.now) c.loop-group.group w.found.width (length w.found.labels.now)
    (omega (arith, c.loop-group-test.true, c.requires.used)) c.requires.window.space

pub loop-group-preserved : goal.loop-group-preserved
loop-group-preserved c =
    let w = c.args.window in
    let used = c.args.used.now in
    let ranks = c.args.ranks.now in
    let n = c.loop-group.group in
    let old = c.loop-group.cells.items in
    elim c.if-used-group.branch [
      | then-used-group+in_ok-push_group v ↦
          let adds = v.in_ok-push_group.ensures in
          subst (λ (xs : Vec (List ℕ) Global). AreCellsBefore w used ranks (n + 1) xs.items) (sym v.cells-is)
          (cells_more w used ranks n old v.push_group.new.cells.items c.loop-group.invariant adds.size adds.kept adds)
      | else-used-group+in_ok-push_unused v ↦
          let adds = v.in_ok-push_unused.ensures in
          subst (λ (xs : Vec (List ℕ) Global). AreCellsBefore w used ranks (n + 1) xs.items) (sym v.cells-is)
          (cells_skipped w used ranks n old v.push_unused.new.cells.items c.loop-group.invariant adds.size adds.kept
          v.if-used-group.false)
    ]
