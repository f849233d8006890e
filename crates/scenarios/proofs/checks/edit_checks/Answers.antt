use Rattle.std.proofs.Common.{◌+◌, refl}
use Rattle.std.specs.Prelude.{nat_lt}
use Rattle.scenarios.specs.EditRows.{action_of, row_of}
use Rattle.scenarios.proofs.CheckFacts.{both, by_action, by_check, by_limit, only}
use Rattle.scenarios.proofs.checks.edit_checks.Goals as goal

pub returns-clause-explains : goal.returns-clause-explains
returns-clause-explains c feed at header fields =
    let r = row_of header fields in
    both
    (only (by_limit (nat_lt (100000 + 1) at)))
    (by_action r (action_of r.action) (by_check 0 refl refl)
    (only (by_check 1 refl refl))
    (only (by_check 2 refl refl))
    (both (only (by_check 2 refl refl)) (only (by_check 3 refl refl))))
