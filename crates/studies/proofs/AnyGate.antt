-- What a gate's run of workers tells is told whatever the gate is, and what no run tells is told by every gate.
use Rattle.std.proofs.Common.{inl, inr, List, Result, Ok, Err}
use Rattle.std.specs.Prelude.{IfErr}
use Rattle.workers.specs.Held.{Decides, WasTold}
use Rattle.workers.proofs.AnyGate.{any_decides, any_told, any_new}
use Rattle.workers.specs.declared.faults.RunFault.{RunFault}
use Rattle.gtfs_tables.specs.Feed.{FeedData}
use Rattle.studies.specs.declared.fault.StudyFault.{StudyFault}
use Rattle.studies.specs.declared.fault.StudyFault.TheVariants as fault
use Rattle.studies.specs.Inputs.{InputFiles}
use Rattle.studies.specs.NamedFile.{NamedBytes}
use Rattle.studies.specs.Settings.{SettingsData}
use Rattle.studies.specs.Stages.{IsOfNoRun, TellsNames, TellsTables}
use Rattle.studies.specs.Study.{IsFaultOfRun, Tells, TellsBy}

module _ (decides : Decides) (was_told : WasTold) where
  module _ (i : InputFiles) (s : SettingsData) where
    any_run : (e : RunFault) → IsFaultOfRun decides was_told e i s → IsFaultOfRun any_decides any_told e i s
    any_run e h = record {
      study = h.study;
      means = h.means;
      why = any_new decides was_told h.study s.workers s.tries e h.why;
    }

    pub any_gate : (e : StudyFault) → TellsBy decides was_told e i s → Tells e i s
    any_gate (fault.Run e) (inl h) = inl (any_run e h)
    any_gate (fault.Run e) (inr h) = absurd h
    any_gate _ h = h

    pub by_gate : (e : StudyFault) → IsOfNoRun e → Tells e i s → TellsBy decides was_told e i s
    by_gate (fault.Run e) other h = absurd other
    by_gate _ other h = h

    pub any_gates : {V : Type 0} (r : Result V StudyFault) → IfErr r (λ e. TellsBy decides was_told e i s) →
        IfErr r (λ e. Tells e i s)
    any_gates (Ok v) h = h
    any_gates (Err e) h = any_gate e h

pub names_no_run : (e : StudyFault) (files : List NamedBytes) → TellsNames e files → IsOfNoRun e
names_no_run fault.Scenarios files h = tt
names_no_run (fault.Name k) files h = tt
names_no_run _ files h = absurd h

pub tables_no_run : (e : StudyFault) (i : InputFiles) (feed : FeedData) → TellsTables e i feed → IsOfNoRun e
tables_no_run (fault.Feed e) i feed h = tt
tables_no_run fault.Memory i feed h = tt
tables_no_run _ i feed h = absurd h
