-- The names of scenarios: `base` for the one without edits, and one for each scenario file.
use Rattle.std.specs.Prelude.{◌==◌, ◌||◌, ◌++◌, ℕ, Bool, List, [], ◌∷◌, codes, length, map, if◌then◌else◌}
use Rattle.std.specs.List.{list_any}
use Rattle.std.specs.Str.{bytes_eq}
use Rattle.studies.specs.NamedFile.{NamedBytes}

-- the name of the scenario without edits
abbrev pub base_name : List ℕ
base_name = codes "base"

-- a name is that of one of the files
abbrev pub is_used : List NamedBytes → List ℕ → Bool
is_used files name = list_any (λ f. bytes_eq f.name name) files

-- a name is refused where it is empty, `base`, or that of a file before
abbrev pub is_refused : List NamedBytes → List ℕ → Bool
is_refused before name = length name == 0 || bytes_eq name base_name || is_used before name

-- the positions of the files whose names are refused, among those that follow others
abbrev pub name_faults_after : List NamedBytes → List NamedBytes → List ℕ
name_faults_after before [] = []
name_faults_after before (f ∷ files) =
    (if is_refused before f.name then length before ∷ [] else []) ++ name_faults_after (before ++ f ∷ []) files

-- the positions of all files whose names are refused
abbrev pub name_faults : List NamedBytes → List ℕ
name_faults files = name_faults_after [] files

-- the names of all scenarios
abbrev pub names_of : List NamedBytes → List (List ℕ)
names_of files = base_name ∷ map (λ f. f.name) files
