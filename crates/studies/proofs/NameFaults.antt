-- The name of one scenario file after another.
use Rattle.std.proofs.Common.{◌≡◌, ◌<◌, ◌+◌, ◌∙◌, ℕ, Bool, true, false, List, [], ◌∷◌, ◌++◌, Some, length, drop, take}
use Rattle.std.proofs.Common.{get_or, slice_get, ap, sym, arith, if◌then◌else◌}
use Rattle.std.proofs.lemmas.List.{at_drop_more, take_more, length-take-le}
use Rattle.studies.specs.NamedFile.{NamedBytes}
use Rattle.studies.specs.Names.{is_refused, name_faults_after}

-- the first of the names that are left, and then the others
names_more : (files : List NamedBytes) (k : ℕ) (f : NamedBytes) → k < length files
    → name_faults_after (take k files) (drop k files)
    ≡ (if is_refused (take k files) (get_or files k f).name then k ∷ [] else []) ++ name_faults_after
    (take (k + 1) files) (drop (k + 1) files)
names_more files k f lt =
    let size : length (take k files) ≡ k = length-take-le k files (omega (arith, lt)) in
    at_drop_more (λ left. name_faults_after (take k files) left) files k f lt
    ∙ ap (λ (at : ℕ). (if is_refused (take k files) (get_or files k f).name then at ∷ [] else []) ++ name_faults_after
    (take k files ++ get_or files k f ∷ []) (drop (k + 1) files)) size
    ∙ ap (λ (before : List NamedBytes). (if is_refused (take k files) (get_or files k f).name then k ∷ [] else
    []) ++ name_faults_after before (drop (k + 1) files)) (sym (take_more files k f lt))

-- a name that is accepted
pub name_passed : (files : List NamedBytes) (k : ℕ) (f : NamedBytes) → k < length files →
    is_refused (take k files) (get_or files k f).name ≡ false
    → name_faults_after (take k files) (drop k files) ≡ name_faults_after (take (k + 1) files) (drop (k + 1) files)
name_passed files k f lt new =
    names_more files k f lt
    ∙ ap (λ (b : Bool). (if b then k ∷ [] else []) ++ name_faults_after (take (k + 1) files) (drop (k + 1) files)) new

-- a name that is refused
pub name_told : (files : List NamedBytes) (k : ℕ) (f : NamedBytes) → k < length files →
    is_refused (take k files) (get_or files k f).name ≡ true
    → slice_get (name_faults_after (take k files) (drop k files)) 0 ≡ Some k
name_told files k f lt refused =
    ap (λ (faults : List ℕ). slice_get faults 0) (names_more files k f lt
    ∙ ap (λ (b : Bool). (if b then k ∷ [] else []) ++ name_faults_after (take (k + 1) files) (drop (k + 1) files))
    refused)

pub ruleset names = (name_passed, name_told)
