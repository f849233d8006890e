use Rattle.std.proofs.Common.{◌≡◌, string_bytes, map, take}
use Rattle.console.specs.Lines as spec
use Rattle.console.proofs.lines.shown.Given as goal

abbrev pub invariant-loop-byte : goal.invariant-loop-byte
invariant-loop-byte l = string_bytes l.text ≡ map spec.shown_byte (take l.byte-index l.byte-items)
