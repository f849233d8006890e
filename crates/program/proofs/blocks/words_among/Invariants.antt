use Rattle.std.proofs.Common.{◌≡◌, map, string_bytes, take}
use Rattle.program.specs.Blocks.{words_in}
use Rattle.program.proofs.blocks.words_among.Given as goal

abbrev pub invariant-loop-line : goal.invariant-loop-line
invariant-loop-line l = words_in (take l.line-index (map (λ line. line.now) l.lines)) ≡ map string_bytes l.words.items
