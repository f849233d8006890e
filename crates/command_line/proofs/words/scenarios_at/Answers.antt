use Rattle.std.proofs.Common.{◌∙◌, [], ap, sym, map, option_map, unwrap_or, codes}
use Rattle.std.proofs.lemmas.Result.{IfOk-weaker}
use Rattle.clap.proofs.WalkLemmas.{raw_values-rows}
use Rattle.clap.specs.Words.{found_of}
use Rattle.command_line.proofs.words.scenarios_at.Goals as goal

pub returns-in-Some : goal.returns-in-Some
returns-in-Some c =
    let stated = sym (raw_values-rows (found_of c.args.matches.now) (codes "scenario")) ∙ sym c.get_strs.ensures
    ∙ ap (option_map (λ s. map (λ v. v.now) s.now)) c.in-Some.is in
    IfOk-weaker c.copies.result _ _ (λ paths same. ap (λ o. unwrap_or o []) stated ∙ sym same) c.copies.ensures

pub returns-in-None : goal.returns-in-None
returns-in-None c =
    let stated = sym (raw_values-rows (found_of c.args.matches.now) (codes "scenario")) ∙ sym c.get_strs.ensures
    ∙ ap (option_map (λ s. map (λ v. v.now) s.now)) c.in-None.is in
    ap (λ o. unwrap_or o []) stated ∙ sym (ap (map _) c.new.ensures.items)
