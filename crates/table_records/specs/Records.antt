-- What a reader of a table has left to give.
use Rattle.std.specs.Prelude.{◌≡◌, ◌⊎◌, ◌+◌, ℕ, true, false, List, [], length, Option, Some, None, if◌then◌else◌}
use Rattle.std.proofs.Common.{Bor}
use Rattle.csv.specs.Reading.{Ready, default_config, has_failed, is_flexible, reader_config, reader_state, reader_trim}
use Rattle.csv.specs.Reading.{records_from, source_of}
use Rattle.csv.specs.declared.parser.State.{State}
use Rattle.csv.specs.declared.parser.State.TheVariants as st
use Rattle.csv.specs.declared.reader.Reader.{Reader}
use Rattle.csv.specs.declared.reader.Trim.TheVariants as trim
use Rattle.table_records.specs.declared.records.Records.TheInside.{Inside}

-- the records that a parser in this state finds in the bytes to come, where they are known
abbrev pub records_after : State → Option (List ℕ) → List (List (List ℕ))
records_after s None = []
records_after s (Some xs) = records_from default_config (length xs + 1) s xs

-- the bytes of the file that a reader has not yet parsed
abbrev pub bytes_left : Reader (Bor (List ℕ)) → Option (List ℕ)
bytes_left r = source_of (λ s. Some s.now) r

-- the parser is at the start of a record, or in the line end before it
abbrev pub IsBetween : State → Type 0
IsBetween s = (s ≡ st.StartRecord) ⊎ (s ≡ st.AfterCr)

-- a reader with the default quoting that takes each record as it is, whatever its length, the header too
pub record IsPlain (r : Reader (Bor (List ℕ))) : Type 0 where
  pub goes : has_failed r ≡ false
  pub trims : reader_trim r ≡ trim.None
  pub flexible : is_flexible r ≡ true
  pub config : reader_config r ≡ default_config
  pub ready : Ready r
  pub between : IsBetween (reader_state r)

-- the records to come: none after the last one, or once memory was refused
abbrev pub records_left : Inside → List (List (List ℕ))
records_left a = if a.done then [] else records_after (reader_state a.reader) (bytes_left a.reader)

-- what holds between two records
abbrev pub IsReading : Inside → Type 0
IsReading a = a.done ≡ false → IsPlain a.reader
