-- The fault of a record, by the first of its checks that finds one.
use Rattle.std.proofs.Common.{◌≡◌, ◌+◌, ℕ, Bool, true, false, List, [], ◌∷◌, length, map, Some, refl, ap, inr}
use Rattle.std.specs.Prelude.{not, slice_get}
use Rattle.table_records.specs.Faults.{IsFirst, Tells, faults_at}
use Rattle.table_records.specs.declared.fault.FeedFault.{FeedFault}
use Rattle.table_records.specs.declared.fault.FileName.{FileName}
use Rattle.table_records.specs.declared.fault.What.{What}

pub first_map : {X Y : Type 0} (f : X → Y) (xs : List X) (x : X) → slice_get xs 0 ≡ Some x →
    slice_get (map f xs) 0 ≡ Some (f x)
first_map f [] x h = cc h
first_map f (y ∷ xs) x h = let same : y ≡ x = cc h in ap (λ z. Some (f z)) same

-- the first of some faults of a record
pub first_told : (file : FileName) (at : ℕ) (faults : List What) (w : What) (e : FeedFault) →
    e ≡ record { file = file; at = at; what = w } → slice_get faults 0 ≡ Some w
    → IsFirst e (map (λ (x : What). record { file = file; at = at; what = x }) faults)
first_told file at faults w e is first =
    rw is (first_map (λ (x : What). let t : FeedFault = record { file = file; at = at; what = x } in t) faults w first)

-- the first fault of a record is one that may be returned
pub tells_row : {R : Type 0} (file : FileName) (checks : List R → R →
    List What) (before : List R) (r : R) (w : What) (e : FeedFault) (at : ℕ)
    → e ≡ record { file = file; at = at; what = w } → at ≡ length before + 2 → slice_get (checks before r) 0 ≡ Some w →
    Tells e (faults_at file checks before r)
tells_row file checks before r w e at is number first =
    rw (is, number) (inr (first_map (λ (x : What). let t : FeedFault =
    record { file = file; at = length before + 2; what = x } in t) (checks before r) w first))

-- what was not put, since it was there
pub is_old : (b : Bool) → b ≡ false → (c : Bool) → b ≡ not c → c ≡ true
is_old b e true h = refl
is_old b e false h = cc (e, h)
