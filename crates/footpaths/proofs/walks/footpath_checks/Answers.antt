use Rattle.std.proofs.Common.{◌++◌, [], ◌∷◌, position, refl}
use Rattle.std.specs.Prelude.{is_none}
use Rattle.std.specs.Str.{bytes_eq}
use Rattle.table_records.proofs.CheckFacts.{also, by_check, by_limit, by_others, only}
use Rattle.footpaths.specs.Walks.{are_too_many, pairs_with, row_of}
use Rattle.footpaths.proofs.walks.footpath_checks.Goals as goal

pub returns-clause-explains : goal.returns-clause-explains
returns-clause-explains c feed before header fields =
    let r = row_of header fields in
    also (also (also (also (also
    (only (by_check 0 refl refl))
    (by_check 1 refl refl))
    (by_others (is_none (position (bytes_eq r.from) feed.names)) 2 refl refl refl))
    (by_others (is_none (position (bytes_eq r.to) feed.names)) 3 refl refl refl))
    (by_check 4 refl refl))
    (by_limit (are_too_many (pairs_with feed (before ++ r ∷ []))))
