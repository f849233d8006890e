use Rattle.std.proofs.Common.{position, refl}
use Rattle.std.specs.Prelude.{is_none}
use Rattle.std.specs.Str.{bytes_eq}
use Rattle.table_records.proofs.CheckFacts.{also, both, by_check, by_others, only, where_true}
use Rattle.table_files.specs.Transfers.{is_used, row_of}
use Rattle.table_files.proofs.RuleFacts.{no_kind}
use Rattle.table_files.proofs.transfers.transfer_checks.Goals as goal

pub returns-clause-explains : goal.returns-clause-explains
returns-clause-explains c names before header fields =
    let r = row_of header fields in
    both
    (only (λ bad. by_check 0 refl refl (no_kind r.kind bad)))
    (where_true (is_used r) (also (also
    (only (by_others (is_none (position (bytes_eq r.from) names)) 1 refl refl refl))
    (by_others (is_none (position (bytes_eq r.to) names)) 2 refl refl refl))
    (by_check 3 refl refl)))
