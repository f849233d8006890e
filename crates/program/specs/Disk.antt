-- What a read of a path finds, by what opening the path gave.
-- "Only where there is nothing at a path no file is found. Out of memory is told as such. All else that hinders an
-- opening is a read fault: a permission, a folder, a loop of links, too many open files, a broken device. Of a file
-- that is open all bytes are found, or it is told why it isn't read." (The program's own rule.)
use Rattle.std.specs.Prelude.{◌≡◌, ℕ, List, Option, Some, None, Result, Ok, Err, IfSome}
use Rattle.std.specs.IoError.{error_kind}
use Rattle.std.specs.declared.io.Error.{Error}
use Rattle.std.specs.declared.io.ErrorKind.{ErrorKind}
use Rattle.std.specs.declared.io.ErrorKind.TheVariants.{NotFound, OutOfMemory}
use Rattle.command_line.specs.Files.{Tells}
use Rattle.command_line.specs.declared.files.ReadFault.{ReadFault}
use Rattle.command_line.specs.declared.files.ReadFault.TheVariants as fault

-- what a read of a path finds: the bytes of a file, that there is none, or why it isn't read
abbrev pub Found : Type 0
Found = Result (Option (List ℕ)) ReadFault

-- where a path can't be opened, by the kind of the error
abbrev pub found_unopened : ErrorKind → Found
found_unopened NotFound = Ok None
found_unopened OutOfMemory = Err fault.Memory
found_unopened _ = Err fault.Read

-- where it is open, and has these bytes, as far as they are known: all of them, or why it isn't read
abbrev pub IsReadOf : Option (List ℕ) → Found → Type 0
IsReadOf known (Ok (Some bytes)) = IfSome known (λ all. bytes ≡ all)
IsReadOf known (Ok None) = ⊥
IsReadOf known (Err e) = Tells e known

-- what is found of a path is what its opening gave
abbrev pub IsFoundOf : {F : Type 0} → (F → Option (List ℕ)) → Result F Error → Found → Type 0
IsFoundOf remaining (Ok file) found = IsReadOf (remaining file) found
IsFoundOf remaining (Err e) found = found ≡ found_unopened (error_kind e)
