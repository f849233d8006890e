use Rattle.std.proofs.Common.{arith}
use Rattle.studies.specs.MinuteLine.{duration_field}
use Rattle.studies.proofs.JoinedFields.{first_joined, next_joined}
use Rattle.studies.proofs.plain.line_of.Goals as goal
use Rattle.studies.proofs.plain.line_of.Goals.{then-i-gt0+in_ok-push, else-i-gt0}

pub loop-i-preserved : goal.loop-i-preserved
loop-i-preserved c =
    let ds = c.args.durations.now in
    let i = c.loop-i.i in
    let is = c.in_ok-push_field.ensures in
    elim c.if-i-gt0.branch [
      | then-i-gt0+in_ok-push w ↦
          next_joined 44 duration_field ds i c.loop-i.line.items (omega arith) c.loop-i.invariant
          c.if-i-gt0.line.items c.push_field.new.line.items (omega (arith, w.if-i-gt0.true)) (let pushed =
          w.in_ok-push.ensures.items in cc) is
      | else-i-gt0 w ↦
          first_joined 44 duration_field ds i c.loop-i.line.items (omega arith) c.loop-i.invariant
          c.push_field.new.line.items (omega (arith, w.if-i-gt0.false)) cc
    ]
