-- All faults of a file, in the order in which its records and their checks stand.
-- "What is told is the first fault: the least by record, then by check; out of memory may be told in its place."
-- (This project's rule; the checks are those of the GTFS reference for the file.)
use Rattle.std.specs.Prelude.{◌≡◌, ◌⊎◌, ◌+◌, Bool, List, [], ◌∷◌, ◌++◌, length, map, Some, slice_get, if◌then◌else◌}
use Rattle.table_records.specs.declared.fault.FeedFault.{FeedFault}
use Rattle.table_records.specs.declared.fault.FileName.{FileName}
use Rattle.table_records.specs.declared.fault.What.{What}
use Rattle.table_records.specs.declared.fault.What.TheVariants as what

-- what a check finds: this fault where the record is bad, else nothing
abbrev pub when : Bool → What → List What
when bad w = if bad then w ∷ [] else []

-- the faults of one record: its number counts the header as 1 and the records `before` it
abbrev pub faults_at : {R : Type 0} → FileName → (List R → R → List What) → List R → R → List FeedFault
faults_at file checks before r = map (λ w. record { file = file; at = length before + 2; what = w }) (checks before r)

-- the faults of the records that follow `before`, record by record
abbrev pub faults_after : {R : Type 0} → FileName → (List R → R → List What) → List R → List R → List FeedFault
faults_after file checks before [] = []
faults_after file checks before (r ∷ rs) =
    faults_at file checks before r ++ faults_after file checks (before ++ r ∷ []) rs

-- a fault is the first of all
abbrev pub IsFirst : {F : Type 0} → F → List F → Type 0
IsFirst e faults = slice_get faults 0 ≡ Some e

-- what may be returned: the first fault, or that there was no memory
abbrev pub Tells : FeedFault → List FeedFault → Type 0
Tells e faults = (e.what ≡ what.Memory) ⊎ IsFirst e faults
