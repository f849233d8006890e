use Rattle.program.proofs.BlockFacts.{AreGathered}
use Rattle.program.proofs.blocks.next_block.Given as goal

abbrev pub invariant-loop : goal.invariant-loop
invariant-loop g l = AreGathered (g.I.Read.remaining l.fn.input) (g.I.Read.remaining l.input) l.gathered l.begins
