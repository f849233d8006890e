-- One scenario file after another.
use Rattle.std.proofs.Common.{◌≡◌, ◌<◌, ◌+◌, ◌∙◌, ℕ, List, [], ◌∷◌, ◌++◌, Some, map, length, drop, get_or, slice_get}
use Rattle.std.proofs.Common.{ap}
use Rattle.std.proofs.lemmas.List.{at_drop_more, take_more}
use Rattle.gtfs_tables.specs.Feed.{FeedData}
use Rattle.scenarios.specs.declared.faults.ScenarioFault.{ScenarioFault}
use Rattle.scenarios.specs.Files.{scenario_faults}
use Rattle.studies.specs.NamedFile.{NamedBytes}
use Rattle.studies.specs.Parts.{edit_faults}

-- the first of the files that are left, and then the others
edits_more : (feed : FeedData) (files : List NamedBytes) (k : ℕ) (f : NamedBytes) → k < length files
    → edit_faults feed k (drop k files)
    ≡ map (λ e. (k, e)) (scenario_faults (get_or files k f).bytes feed) ++ edit_faults feed (k + 1) (drop (k + 1) files)
edits_more feed files k f lt = at_drop_more (λ left. edit_faults feed k left) files k f lt

-- a file without fault
pub file_passed : (feed : FeedData) (files : List NamedBytes) (k : ℕ) (f : NamedBytes) → k < length files
    → scenario_faults (get_or files k f).bytes feed ≡ []
    → edit_faults feed k (drop k files) ≡ edit_faults feed (k + 1) (drop (k + 1) files)
file_passed feed files k f lt none =
    edits_more feed files k f lt
    ∙ ap (λ (faults : List ScenarioFault). map (λ e. (k, e)) faults ++ edit_faults feed (k + 1) (drop (k + 1) files))
    none

first_mapped : (k : ℕ) (e : ScenarioFault) (faults : List ScenarioFault) (more : List (ℕ × ScenarioFault)) →
    slice_get faults 0 ≡ Some e
    → slice_get (map (λ x. (k, x)) faults ++ more) 0 ≡ Some (k, e)
first_mapped k e [] more h = cc
first_mapped k e (x ∷ faults) more h = let same : x ≡ e = cc (h) in ap (λ (y : ScenarioFault). Some (k, y)) same

-- a file with a first fault
pub file_told : (feed : FeedData) (files : List NamedBytes) (k : ℕ) (f : NamedBytes) (e : ScenarioFault) →
    k < length files
    → slice_get (scenario_faults (get_or files k f).bytes feed) 0 ≡ Some e →
    slice_get (edit_faults feed k (drop k files)) 0 ≡ Some (k, e)
file_told feed files k f e lt h =
    ap (λ (faults : List (ℕ × ScenarioFault)). slice_get faults 0) (edits_more feed files k f lt)
    ∙ first_mapped k e (scenario_faults (get_or files k f).bytes feed) (edit_faults feed (k + 1) (drop (k + 1) files)) h

pub ruleset files = (file_passed, file_told, take_more)
