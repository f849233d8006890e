-- Reading a file: its header, and one record more.
use Rattle.std.proofs.Common.{Bor, ◌≡◌, ◌≤◌, ◌+◌, ◌∙◌, ℕ, zero, suc, Bool, true, false, List, [], ◌∷◌, length, map}
use Rattle.std.proofs.Common.{Option, Some, None, inl, inr, refl, sym, ap, arith, if◌then◌else◌}
use Rattle.std.specs.Prelude.{◌⊎◌, is_none}
use Rattle.csv.specs.Machine.{Read, next_record}
use Rattle.csv.specs.Reading.{default_config, is_bom, records_from, records_next, strip_bom}
use Rattle.csv.specs.declared.parser.Config.{Config}
use Rattle.csv.specs.declared.parser.State.{State}
use Rattle.csv.specs.declared.parser.State.TheVariants as st
use Rattle.std.specs.List.{list_any}
use Rattle.table_records.proofs.MappedTests.{list_any-map}
use Rattle.table_records.specs.Columns.{column}
use Rattle.table_records.specs.Faults.{Tells, faults_after}
use Rattle.table_records.specs.Table.{Gives, records_of}
use Rattle.table_records.specs.declared.fault.FeedFault.{FeedFault}
use Rattle.table_records.specs.declared.fault.FileName.{FileName}
use Rattle.table_records.specs.declared.fault.What.{What}
use Rattle.table_records.specs.declared.fault.What.TheVariants as what
use Rattle.table_records.specs.declared.limits.TheConstants.{MOST_BYTES}
use Rattle.table_records.specs.Reading.{lacks_column, missing_column, table_faults, table_rows}

-- a record that was given was among those left
pub one_left : (rows rest : List (List (List ℕ))) (found : Bool) (fields : List (List ℕ)) → found ≡ true →
    Gives rows found fields rest
    → length rows ≡ length rest + 1
one_left [] rest found fields t g = cc (t, g.0)
one_left (r ∷ rs) rest found fields t g = let e = ap length g.2 in omega (arith, e)

-- a file has no more records than bytes
records_few : (cfg : Config) (n : ℕ) (s : State) (xs : List ℕ) → length (records_from cfg n s xs) ≤ n
unfolding records_from
records_few cfg zero s xs = omega arith
records_few cfg (suc n) s xs = by (next_record cfg s [] [] xs) (λ t ys. records_few cfg n t ys)
  where
    by : (o : Option Read) → ((t : State) (ys : List ℕ) → length (records_from cfg n t ys) ≤ n) →
        length (records_next (records_from cfg n) o) ≤ suc n
    by None h = omega arith
    by (Some p) h = omega (arith, h p.1 p.2)

stripped : (xs : List ℕ) → length (strip_bom xs) ≤ length xs
unfolding strip_bom
stripped [] = omega arith
stripped (a ∷ []) = omega arith
stripped (a ∷ b ∷ []) = omega arith
stripped (a ∷ b ∷ c ∷ rest) = by (is_bom a b c)
  where
    by : (t : Bool) → length (if t then rest else a ∷ b ∷ c ∷ rest) ≤ length (a ∷ b ∷ c ∷ rest)
    by true = omega arith
    by false = omega arith

-- so has what is left after the header
pub few_records : (bytes : List ℕ) (header : List (List ℕ)) (rest : List (List (List ℕ))) →
    records_of bytes ≡ header ∷ rest → length bytes ≤ MOST_BYTES → length rest ≤ MOST_BYTES
few_records bytes header rest e h =
    let all = records_few default_config (length (strip_bom bytes) + 1) st.StartRecord (strip_bom bytes) in
    let same = ap length e in
    omega (arith, all, same, stripped bytes)

-- the header and the records after it, as the reader gave them
pub opened : (rows rest : List (List (List ℕ))) (found : Bool) (fields : List (List ℕ)) → found ≡ true →
    Gives rows found fields rest → rows ≡ fields ∷ rest
opened [] rest found fields t g = cc (t, g.0)
opened (r ∷ rs) rest found fields t g = λ k. sym g.1 k ∷ sym g.2 k

-- whether a header lacks a column, by the names as they were handed over
pub lacks_here : (required : List (Bor (List ℕ))) (rows rest : List (List (List ℕ))) (header : List (List ℕ))
    (b : Bool) → rows ≡ header ∷ rest
    → b ≡ list_any (λ (name : Bor (List ℕ)). is_none (column header name.now)) required →
    lacks_column (map (λ (name : Bor (List ℕ)). name.now) required) rows ≡ b
lacks_here required rows rest header b e h =
    rw e (list_any-map (λ (name : Bor (List ℕ)). name.now) (λ (text : List ℕ). is_none (column header text)) required
    ∙ sym h)

-- the faults and the rows of a file whose header has all columns that are required
pub missing : {R : Type 0} (file : FileName) (required : List (List ℕ)) (row : List (List ℕ) → List (List ℕ) →
    R) (checks : List R → R → List What) (rows : List (List (List ℕ)))
    (e : FeedFault) → (e.what ≡ what.Memory) ⊎ ((lacks_column required rows ≡ true) × (e ≡ missing_column file)) →
    Tells e (table_faults file required row checks rows)
missing file required row checks rows e (inl m) = inl m
missing file required row checks rows e (inr (lacks, here)) = inr (rw (lacks, here) refl)

pub headed : {R : Type 0} (file : FileName) (required : List (List ℕ)) (row : List (List ℕ) → List (List ℕ) →
    R) (checks : List R → R → List What) (rows : List (List (List ℕ)))
    (header : List (List ℕ)) (rest : List (List (List ℕ))) → lacks_column required rows ≡ false → rows ≡ header ∷ rest
    → (table_faults file required row checks rows ≡ faults_after file checks [] (map (row header) rest))
    × (table_rows row rows ≡ map (row header) rest)
headed file required row checks rows header rest has e = (rw (has, e) refl, rw e refl)
