use Rattle.std.specs.Io.KnownBytes.{Appends}
use Rattle.matrix_text.specs.Text.{labels_of, scenario_text, texts_below}
use Rattle.matrix_text.proofs.text.write_rows.Given as goal

abbrev pub invariant-loop-scenario : goal.invariant-loop-scenario
invariant-loop-scenario g l =
    Appends (g.W.Write.contents l.fn.w) (g.W.Write.contents l.w)
    (texts_below (scenario_text (labels_of l.labels) l.matrix) l.scenario)
