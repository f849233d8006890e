-- Scenario files, read one after another.
use Rattle.std.proofs.Common.{◌≡◌, List, [], ◌∷◌, ◌++◌, ℕ, Some, Ok}
use Rattle.command_line.specs.Paths.{scenario_of}
use Rattle.studies.specs.NamedFile.{NamedBytes}
use Rattle.program.specs.Files.{AreScenarios, Finds}

-- one more file, found at one more path
pub one_more : (finds : Finds) (paths : List (List ℕ)) (files : List NamedBytes) (path : List ℕ) (file : NamedBytes) →
    AreScenarios finds paths files
    → file.name ≡ scenario_of path → finds path (Ok (Some file.bytes)) →
    AreScenarios finds (paths ++ path ∷ []) (files ++ file ∷ [])
one_more finds [] [] path file h name found = (name, found, tt)
one_more finds [] (f ∷ fs) path file h name found = absurd h
one_more finds (p ∷ ps) [] path file h name found = absurd h
one_more finds (p ∷ ps) (f ∷ fs) path file h name found = (h.0, h.1, one_more finds ps fs path file h.2 name found)
