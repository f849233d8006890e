-- What a fault of reading says of what there was to read, and the words that tell it.
use Rattle.std.specs.Prelude.{◌<◌, ℕ, List, Option, codes, length, IfSome, ⊤}
use Rattle.table_records.specs.declared.limits.TheConstants.{MOST_BYTES}
use Rattle.command_line.specs.declared.files.ReadFault.{ReadFault}
use Rattle.command_line.specs.declared.files.ReadFault.TheVariants as fault

-- what is too long has more bytes than the limit; nothing is said of a read that failed or of memory that ran out
abbrev pub Tells : ReadFault → Option (List ℕ) → Type 0
Tells fault.TooLong known = IfSome known (λ all. MOST_BYTES < length all)
Tells fault.Read known = ⊤
Tells fault.Memory known = ⊤

abbrev pub words_of : ReadFault → List ℕ
words_of fault.Read = codes "read fault"
words_of fault.TooLong = codes "too long"
words_of fault.Memory = codes "out of memory"
