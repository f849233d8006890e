-- A table whose records were read is returned, and else the fault of its records.
use Rattle.std.proofs.Common.{◌≡◌}
use Rattle.std.specs.Prelude.{Result, Ok, Err, IfOk, IfErr}
use Rattle.std.specs.Result.{result_and}

pub table_given : {S T E : Type 0} (read : Result S E) (table : T) (given : Result T E) (P : S → Type 0) (Q : T →
    Type 0) → given ≡ result_and read (Ok table)
    → IfOk read P → ((s : S) → P s → Q table) → IfOk given Q
table_given (Ok s) table given P Q is h f = rw is (f s h)
table_given (Err e) table given P Q is h f = rw is tt

pub fault_told : {S T E : Type 0} (read : Result S E) (table : T) (given : Result T E) (P Q : E → Type 0) →
    given ≡ result_and read (Ok table)
    → IfErr read P → ((e : E) → P e → Q e) → IfErr given Q
fault_told (Ok s) table given P Q is h f = rw is tt
fault_told (Err e) table given P Q is h f = rw is (f e h)

-- what is said of what was read in two clauses
pub both : {S E : Type 0} (read : Result S E) (P Q : S → Type 0) → IfOk read P → IfOk read Q →
    IfOk read (λ s. P s × Q s)
both (Ok s) P Q p q = (p, q)
both (Err e) P Q p q = tt
