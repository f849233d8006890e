-- The first fault of a record of the file of footpaths.
use Rattle.std.proofs.Common.{◌≡◌, ℕ, List, [], ◌∷◌, ◌++◌, map, Some, inr, sym}
use Rattle.table_records.specs.Faults.{IsFirst, Tells}
use Rattle.table_records.specs.declared.fault.FileName.{FileName}
use Rattle.table_records.specs.declared.fault.What.{What}

-- the first of a record's faults, with its file and number
pub first_told : (name : FileName) (at n : ℕ) (w : What) (ws more : List What) → at ≡ n → IsFirst w ws
    → Tells (record { file = name; at = at; what = w })
    (map (λ (x : What). record { file = name; at = n; what = x }) (ws ++ more))
first_told name at n w [] more is first = cc first
first_told name at n w (x ∷ ws) more is first = let same : x ≡ w = cc first in
    inr (λ k. Some (record { file = name; at = sym is k; what = same k }))
