use Rattle.std.proofs.Common.{subst, sym}
use Rattle.studies.specs.Inputs.{AreWithinLimit, InputFiles, inputs_of}
use Rattle.studies.specs.Kept.{lasting_files, lasting_settings}
use Rattle.studies.specs.Settings.{SettingsData}
use Rattle.studies.specs.Stages.{IsFeedOf}
use Rattle.studies.specs.Study.{AreNetworks}
use Rattle.studies.proofs.Lasting.{lasting}
use Rattle.studies.proofs.kept.keep.Goals as goal

pub returns-clause-kept : goal.returns-clause-kept
returns-clause-kept g c =
    let i = inputs_of c.args.inputs.now in
    let s = c.args.settings.now in
    let kept = c.in_ok-prepared.prepared.kept in
    let files = c.in_ok-prepared.ensures.files in
    let made = lasting i s kept.networks.items c.in_ok-prepared.ensures.networks in
    record {
      limit = subst (λ (j : InputFiles). AreWithinLimit j) (sym files) c.requires.files;
      feed = subst (λ (j : InputFiles). IsFeedOf j kept.feed.value) (sym files) c.in_ok-prepared.ensures.feed;
      networks = subst (λ (j : InputFiles). AreNetworks (lasting_files j) (lasting_settings kept.settings.now)
          kept.networks.items) (sym files)
          (subst (λ (t : SettingsData). AreNetworks (lasting_files i) (lasting_settings t) kept.networks.items)
          (sym c.in_ok-prepared.ensures.settings) made);
    }
