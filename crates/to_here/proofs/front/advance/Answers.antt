use Rattle.std.proofs.Common.{◌≡◌, ◌<◌, ◌+◌, ◌∙◌, ◌++◌, ◌∷◌, [], get_or, length, take}
use Rattle.std.proofs.Common.{sym, ap, append_assoc, arith, subst}
use Rattle.std.proofs.lemmas.List.{take_all, take_more}
use Rattle.to_here.specs.Front.{IsFront}
use Rattle.to_here.proofs.FrontsGrow.{front_more}
use Rattle.to_here.proofs.front.advance.Goals as goal

pub loop-j-preserved : goal.loop-j-preserved
loop-j-preserved c =
    let w = c.args.window in
    let times = c.args.deadlines.now in
    let labels = c.args.labels.now in
    let j = c.loop-j.j in
    let front = c.serve-front.result in
    let new = c.serve-front.new.durations in
    let short : j < length labels = omega (arith, c.loop-j-test.true, c.requires.labels) in
    let more = take_more times j 0 c.loop-j-test.true in
    let more_labels = take_more labels j 0 short in
    record {
      within = c.serve-front.ensures.within.1;
      minutes = c.serve-front.ensures.durations.minutes ∙ c.loop-j.invariant.minutes;
      front = λ before labels_before f.
          let all : before ++ take (j + 1) times ≡ before ++ take j times ++ get_or times j 0 ∷ [] =
          ap (λ xs. before ++ xs) more ∙ sym (append_assoc before (take j times) (get_or times j 0 ∷ [])) in
          let all_labels : labels_before ++ take (j + 1) labels
          ≡ labels_before ++ take j labels ++ get_or labels j 0 ∷ [] =
          ap (λ xs. labels_before ++ xs) more_labels
          ∙ sym (append_assoc labels_before (take j labels) (get_or labels j 0 ∷ [])) in
          subst (λ ts. IsFront w ts (labels_before ++ take (j + 1) labels) front new) (sym all)
          (subst (λ ls. IsFront w (before ++ take j times ++ get_or times j 0 ∷ []) ls front new) (sym all_labels)
          (front_more w (before ++ take j times) (labels_before ++ take j labels) c.loop-j.front front
          (get_or times j 0) (get_or labels j 0) c.loop-j.durations new
          (c.loop-j.invariant.front before labels_before f)
          c.serve-front.ensures.within.0 c.serve-front.ensures.within.1 c.serve-front.ensures.served
          c.serve-front.ensures.unserved c.serve-front.ensures.durations));
    }

pub returns-clause-front : goal.returns-clause-front
returns-clause-front c before labels_before f =
    let w = c.args.window in
    let all : take c.loop-j.j c.args.deadlines.now ≡ c.args.deadlines.now =
    take_all c.loop-j.j c.args.deadlines.now (omega (arith, c.loop-j-test.false)) in
    let all_labels : take c.loop-j.j c.args.labels.now ≡ c.args.labels.now =
    take_all c.loop-j.j c.args.labels.now (omega (arith, c.loop-j-test.false, c.requires.labels)) in
    subst (λ ts. IsFront w (before ++ ts) (labels_before ++ c.args.labels.now) c.loop-j.front c.loop-j.durations) all
    (subst (λ ls. IsFront w (before ++ take c.loop-j.j c.args.deadlines.now) (labels_before ++ ls) c.loop-j.front
    c.loop-j.durations) all_labels (c.loop-j.invariant.front before labels_before f))
