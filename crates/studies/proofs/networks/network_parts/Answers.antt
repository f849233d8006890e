use Rattle.std.proofs.Common.{◌∙◌, All, ap, subst, sym}
use Rattle.gtfs_tables.specs.Feed.{FeedData, day_number}
use Rattle.service_days.specs.Instances.{IsRun, runs_of}
use Rattle.studies.specs.declared.fault.StudyFault.{StudyFault}
use Rattle.studies.specs.declared.fault.StudyFault.TheVariants as fault
use Rattle.studies.specs.declared.parts.NetworkParts.{NetworkParts}
use Rattle.studies.specs.Inputs.{inputs_of}
use Rattle.studies.specs.Parts.{scenarios_of}
use Rattle.studies.specs.Settings.{SettingsData, SettingsFit}
use Rattle.studies.specs.Stages.{AreNetworkParts, IsOfNoRun}
use Rattle.studies.specs.Study.{Tells}
use Rattle.studies.proofs.StudyFacts.{are_dated, are_edited, are_walked, days_told, edits_told, err_by, feet_told, seen}
use Rattle.studies.proofs.networks.network_parts.Goals as goal

pub read_scenarios-requires : goal.read_scenarios-requires
read_scenarios-requires c = c.requires.files.scenarios

pub returns-in_err-scenarios-clause-fault : goal.returns-in_err-scenarios-clause-fault
returns-in_err-scenarios-clause-fault c =
    let i = inputs_of c.args.inputs.now in
    let s = c.args.settings.now in
    let e = c.in_err-scenarios.field-0.0 in
    err_by (λ (e : StudyFault). Tells e i s) c.from_residual.result e c.from_residual.ensures.1
    (edits_told i s e c.args.feed.now c.requires.read c.requires.feed c.in_err-scenarios.ensures.fault)

pub returns-in_err-scenarios-clause-no_run : goal.returns-in_err-scenarios-clause-no_run
returns-in_err-scenarios-clause-no_run c =
    err_by (λ (e : StudyFault). IsOfNoRun e) c.from_residual.result c.in_err-scenarios.field-0.0
    c.from_residual.ensures.1 c.in_err-scenarios.ensures.no_run

pub returns-in_err-runs-clause-fault : goal.returns-in_err-runs-clause-fault
returns-in_err-runs-clause-fault c =
    let i = inputs_of c.args.inputs.now in
    let s = seen c.settings.inside in
    let feed = c.args.feed.now in
    let edited = are_edited i s feed c.requires.read c.requires.feed c.in_ok-scenarios.ensures.good in
    let e = c.in_err-runs.field-0.0 in
    err_by (λ (e : StudyFault). Tells e i c.args.settings.now) c.from_residual-in_err-runs.result (fault.Days e)
    c.from_residual-in_err-runs.ensures.1
    (subst (λ (x : SettingsData). Tells (fault.Days e) i x) c.settings.view_is
    (days_told i s e feed edited c.requires.feed c.in_err-runs.ensures.fault))

pub returns-in_err-runs-clause-no_run : goal.returns-in_err-runs-clause-no_run
returns-in_err-runs-clause-no_run c =
    err_by (λ (e : StudyFault). IsOfNoRun e) c.from_residual-in_err-runs.result (fault.Days c.in_err-runs.field-0.0)
    c.from_residual-in_err-runs.ensures.1 tt

pub close-requires : goal.close-requires
close-requires c =
    let fits : SettingsFit (seen c.settings.inside) =
    subst (λ (s : SettingsData). SettingsFit s) (sym c.settings.view_is) c.requires.settings in
    fits.walk

pub returns-in_err-feet-clause-fault : goal.returns-in_err-feet-clause-fault
returns-in_err-feet-clause-fault c =
    let i = inputs_of c.args.inputs.now in
    let s = seen c.settings.inside in
    let feed = c.args.feed.now in
    let edited = are_edited i s feed c.requires.read c.requires.feed c.in_ok-scenarios.ensures.good in
    let dated = are_dated i s feed edited c.requires.feed c.in_ok-runs.ensures.good.0 in
    let e = c.in_err-feet.field-0.0 in
    err_by (λ (e : StudyFault). Tells e i c.args.settings.now) c.from_residual-in_err-feet.result (fault.Feet e)
    c.from_residual-in_err-feet.ensures.1
    (subst (λ (x : SettingsData). Tells (fault.Feet e) i x) c.settings.view_is
    (feet_told i s e c.args.direct.now dated c.requires.direct c.in_err-feet.ensures.fault))

pub returns-in_err-feet-clause-no_run : goal.returns-in_err-feet-clause-no_run
returns-in_err-feet-clause-no_run c =
    err_by (λ (e : StudyFault). IsOfNoRun e) c.from_residual-in_err-feet.result (fault.Feet c.in_err-feet.field-0.0)
    c.from_residual-in_err-feet.ensures.1 tt

pub returns-clause-parts : goal.returns-clause-parts
returns-clause-parts c =
    let i = inputs_of c.args.inputs.now in
    let s = seen c.settings.inside in
    let feed = c.args.feed.now in
    let edited = are_edited i s feed c.requires.read c.requires.feed c.in_ok-scenarios.ensures.good in
    let dated = are_dated i s feed edited c.requires.feed c.in_ok-runs.ensures.good.0 in
    let made : NetworkParts = record {
      scenarios = c.in_ok-scenarios.scenarios;
      runs = c.in_ok-runs.runs;
      feet = c.in_ok-feet.feet;
    } in
    let are : AreNetworkParts i s made = record {
      scenarios_are = c.in_ok-scenarios.ensures.scenarios
          ∙ ap (λ (d : FeedData). scenarios_of d i.scenarios) c.requires.feed;
      runs_are = c.in_ok-runs.ensures.good.1 ∙ ap (λ (d : FeedData). runs_of d (day_number s.date) s.back s.ahead)
          c.requires.feed;
      of_feed = subst (λ (d : FeedData). All (IsRun d) c.in_ok-runs.runs.items) c.requires.feed
          c.in_ok-runs.ensures.runs;
      walked = are_walked i s c.args.direct.now c.in_ok-feet.feet dated c.requires.direct c.in_ok-feet.ensures.ok;
    } in
    subst (λ (p : NetworkParts). AreNetworkParts i c.args.settings.now p) (sym c.in_ok-boxed.ensures)
    (subst (λ (x : SettingsData). AreNetworkParts i x made) c.settings.view_is are)
