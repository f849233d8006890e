-- Empty lists of footpaths, and change times of nought, are footpaths of so many stops, within the limits.
use Rattle.std.proofs.Common.{◌≡◌, ◌<◌, ◌≤◌, ◌∙◌, ℕ, List, [], Some, sym, subst, length, replicate, slice_get, arith}
use Rattle.std.proofs.lemmas.List.{get_or-replicate, length-replicate}
use Rattle.std.proofs.lemmas.List.Folds.{sum_by-replicate}
use Rattle.std.proofs.lemmas.Option.{slice_get_within, get_or_from_slice_get}
use Rattle.timetable.specs.declared.trips.StopNo.{StopNo}
use Rattle.timetable.specs.Footpaths.{FeetData, FeetInRange, FeetWithin}

-- no footpaths from any of so many stops, and no time for a change at any
abbrev pub none_among : ℕ → FeetData
none_among n = record { walks = replicate n []; changes = replicate n 0 }

module _ (n : ℕ) where
  row_empty : (a : ℕ) (row : List (StopNo × ℕ)) → slice_get (replicate n []) a ≡ Some row → row ≡ []
  row_empty a row at =
      let lt : a < n = subst (λ (k : ℕ). a < k) (length-replicate n []) (slice_get_within (replicate n []) a row at) in
      sym (get_or_from_slice_get (replicate n []) a row [] at) ∙ get_or-replicate n a [] [] lt

  pub no_feet_in_range : FeetInRange n (none_among n)
  no_feet_in_range = record {
    walks = record {
      lists = length-replicate n [];
      rows = λ a row at. let e = row_empty a row at in record {
        targets = λ k x here. absurd (cc);
        ascending = λ k x y here next. absurd (cc);
      };
    };
    changes = length-replicate n 0;
  }

  pub no_feet_within : n ≤ 65535 → FeetWithin (none_among n)
  no_feet_within few = record {
    walks = record {
      stops = let size = length-replicate {A = List (StopNo × ℕ)} n [] in omega arith;
      rows = λ a row at k x here. let e = row_empty a row at in absurd (cc);
      pairs = let none = sum_by-replicate {X = List (StopNo × ℕ)} length n [] in omega arith;
    };
    changes = λ k d lt.
        let below : k < n = let size = length-replicate {A = ℕ} n 0 in omega (arith, size, lt) in
        let none = get_or-replicate {A = ℕ} n k 0 d below in
        omega arith;
  }
