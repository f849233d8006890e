-- A fault that is told after files were freed: its line names scenarios alone, and these stay.
use Rattle.std.proofs.Common.{◌≡◌, ℕ, List, Option, map, subst}
use Rattle.command_line.specs.Lines.{line_of}
use Rattle.outputs.specs.Outputs.{After}
use Rattle.program.specs.Answers.{IsRefused, IsWhy, TellsFault}
use Rattle.program.specs.Files.{TellsLine}
use Rattle.program.specs.Gates.{told_anything, works_at_each}
use Rattle.studies.specs.Inputs.{InputFiles}
use Rattle.studies.specs.NamedFile.{NamedBytes}
use Rattle.studies.specs.Settings.{SettingsData}
use Rattle.studies.specs.declared.fault.StudyFault.{StudyFault}

pub is_refused : (given left : InputFiles) (s : SettingsData) (e : StudyFault) (out : Option (List ℕ)) (printed : After)
    (err : Option (List ℕ)) (told : After) (status : ℕ) → left.scenarios ≡ given.scenarios →
    IsWhy works_at_each told_anything e given s out printed → TellsFault e left err told status →
    IsRefused given s out printed err told status
is_refused given left s e out printed err told status same why line = record {
  fault = e;
  why = why;
  is_told = record {
    line_is = subst (λ (files : List NamedBytes). TellsLine err told
        (line_of e (map (λ (f : NamedBytes). f.name) files))) same line.line_is;
    status_is = line.status_is;
  };
}
