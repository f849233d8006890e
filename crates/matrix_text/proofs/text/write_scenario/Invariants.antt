use Rattle.std.specs.Io.KnownBytes.{Appends}
use Rattle.matrix_text.specs.Text.{labels_of, lines_at, texts_below}
use Rattle.matrix_text.proofs.text.write_scenario.Given as goal

abbrev pub invariant-loop-origin : goal.invariant-loop-origin
invariant-loop-origin g l =
    Appends (g.W.Write.contents l.fn.w) (g.W.Write.contents l.w)
    (texts_below (lines_at (labels_of l.labels) l.matrix l.scenario) l.origin)
