use Rattle.std.proofs.Common.{◌≡◌, ◌&&◌, ◌==◌, None, false, subst}
use Rattle.program.proofs.BlockFacts.{gathered_closed, gathered_last, gathered_more, is_end, is_no_line, is_other}
use Rattle.program.specs.Blocks.{IsByte}
use Rattle.program.proofs.blocks.next_block.Goals as goal
use Rattle.program.proofs.blocks.next_block.Goals.{else-begins-via-then-begins+else-byte-eq-LF}
use Rattle.program.proofs.blocks.next_block.Goals.{else-begins-via-else-begins}

pub returns-in_default-clause-block : goal.returns-in_default-clause-block
returns-in_default-clause-block g c =
    let mid = g.I.Read.remaining c.loop.input in
    let left = g.I.Read.remaining c.next_byte.new.input in
    let end : IsByte mid left None = subst (λ b. IsByte mid left b) c.in_default.is c.in_ok-byte.ensures.byte in
    gathered_last (g.I.Read.remaining c.args.input.now) mid left c.loop.gathered c.loop.begins c.last_block.result
    c.loop.invariant end.0 end.1 c.last_block.ensures

pub returns-then-byte-eq-LF-clause-block : goal.returns-then-byte-eq-LF-clause-block
returns-then-byte-eq-LF-clause-block g c =
    let mid = g.I.Read.remaining c.loop.input in
    let left = g.I.Read.remaining c.next_byte.new.input in
    gathered_closed (g.I.Read.remaining c.args.input.now) mid left c.loop.gathered c.loop.begins c.in-Some.byte
    c.closed_block.result c.loop.invariant
    (subst (λ b. IsByte mid left b) c.in-Some.is c.in_ok-byte.ensures.byte)
    (is_end c.loop.begins c.in-Some.byte c.if-begins.true c.if-byte-eq-LF.true) c.closed_block.ensures.closed
    c.closed_block.ensures.words

pub loop-preserved : goal.loop-preserved
loop-preserved g c =
    let mid = g.I.Read.remaining c.loop.input in
    let left = g.I.Read.remaining c.next_byte.new.input in
    let goes : (c.loop.begins && (c.in-Some.byte == 10)) ≡ false = elim c.else-begins.branch [
      | else-begins-via-then-begins+else-byte-eq-LF w ↦
          is_other c.loop.begins c.in-Some.byte w.if-begins.true w.if-byte-eq-LF.false
      | else-begins-via-else-begins w ↦ is_no_line c.loop.begins c.in-Some.byte w.if-begins.false
    ] in
    gathered_more (g.I.Read.remaining c.args.input.now) mid left c.loop.gathered c.with_byte-gathered.result
    c.loop.begins c.in-Some.byte c.loop.invariant
    (subst (λ b. IsByte mid left b) c.in-Some.is c.in_ok-byte.ensures.byte) goes c.with_byte-gathered.ensures
