-- A watch saw all stages of a study whose text is made, and why the workers gave none.
use Rattle.std.proofs.Common.{◌≡◌, ◌⊎◌, inl, inr, List, Result, Ok, Err}
use Rattle.std.specs.Prelude.{IfErr, IfOk}
use Rattle.workers.specs.Study.{StudyData}
use Rattle.workers.specs.declared.faults.RunFault.{RunFault}
use Rattle.workers.specs.declared.faults.RunFault.TheVariants.{Memory}
use Rattle.studies.specs.declared.fault.StudyFault.{StudyFault}
use Rattle.studies.specs.declared.fault.StudyFault.TheVariants as fault
use Rattle.studies.specs.Inputs.{InputFiles}
use Rattle.studies.specs.Settings.{SettingsData}
use Rattle.studies.specs.Stages.{IsOfNoRun, TellsText}
use Rattle.studies.specs.Study.{Means}
use Rattle.studies.specs.Watched.{SawFault, Stage, ended}

pub told_ok : {V E P : Type 0} (r : Result V E) → P → IfOk r (λ _. P)
told_ok (Ok v) h = h
told_ok (Err e) h = tt

module _ (saw : List Stage → Type 0) (i : InputFiles) (s : SettingsData) where
  pub run_seen : (study : StudyData) (e : RunFault) → Means i s study → (e ≡ Memory) ⊎ saw (ended study (Err e)) →
      SawFault saw (fault.Run e) i s
  run_seen study e means (inl h) = inl h
  run_seen study e means (inr h) = inr (study, means, h)

  -- nothing is to be told of a fault of no run
  pub no_run_seen : (e : StudyFault) → IsOfNoRun e → SawFault saw e i s
  no_run_seen (fault.Run e) h = absurd h
  no_run_seen _ h = tt

  text_of_no_run : (e : StudyFault) → TellsText e → IsOfNoRun e
  text_of_no_run (fault.Run e) h = absurd h
  text_of_no_run _ h = tt

  pub text_seen : {V : Type 0} (r : Result V StudyFault) → IfErr r TellsText → IfErr r (λ e. SawFault saw e i s)
  text_seen (Ok v) h = h
  text_seen (Err e) h = no_run_seen e (text_of_no_run e h)
