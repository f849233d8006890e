use Rattle.std.proofs.Common.{Bool, cond, slice_index, ap, ◌∙◌, arith}
use Rattle.std.proofs.lemmas.Bool.{eq-eqb, ne_eqb}
use Rattle.label_cells.proofs.splitting.split.Goals as goal

pub returns-clause-part : goal.returns-clause-part
returns-clause-part c l h =
    let minutes = c.minutes_of-minutes.ensures l h in
    let rest = c.seconds_of-rest.ensures l h in
    let whole = c.past-whole.ensures l h in
    let reached = c.reached_of-span.ensures l h in
    let low = c.requires.low l h in
    record {
      less = omega (arith, minutes, rest);
      never = λ e. reached ∙ ap (λ (b : Bool). cond b 0 c.args.span) (eq-eqb (slice_index c.args.shortest l) 65535 e);
      spans = λ ne. reached ∙ ap (λ (b : Bool). cond b 0 c.args.span) (ne_eqb (slice_index c.args.shortest l) 65535 ne);
      counted = λ ne. omega (arith, minutes, rest, whole, low);
    }
