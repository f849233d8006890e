use Rattle.std.proofs.Common.{length, take}
use Rattle.std.specs.Io.KnownBytes.{Appends}
use Rattle.std.specs.List.{flat_map, zip}
use Rattle.matrix_text.specs.Text.{share_line}
use Rattle.matrix_text.proofs.text.write_shares.Given as goal

abbrev pub invariant-loop-share : goal.invariant-loop-share
invariant-loop-share g l =
    Appends (g.W.Write.contents l.fn.w) (g.W.Write.contents l.w)
    (flat_map (share_line l.name l.stop) (take (length l.yielded) (zip l.shares l.rows)))
