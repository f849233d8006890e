use Rattle.std.proofs.Common.{arith, sym}
use Rattle.std.specs.Str.{bytes_eq}
use Rattle.table_files.proofs.ServiceFacts.{found, lost, named_again, number_new}
use Rattle.table_files.proofs.services.number_service.Goals as goal

pub overflow_cast-result : goal.overflow_cast-result
overflow_cast-result c = let here = found (bytes_eq c.args.id.now) c.args.services.now c.in-Some.number
    c.in-Some.ensures in omega (arith, here.0, c.requires)

pub returns-in-Some-clause-named : goal.returns-in-Some-clause-named
returns-in-Some-clause-named c =
    sym (named_again c.args.services.now c.args.id.now
    (found (bytes_eq c.args.id.now) c.args.services.now c.in-Some.number c.in-Some.ensures).1)

pub returns-clause-number : goal.returns-clause-number
returns-clause-number c =
    let new = lost (bytes_eq c.args.id.now) c.args.services.now c.in_default.ensures in
    let put = rw (c.in_ok-push.ensures.added, new) at c.in_ok-push.ensures.ids in
    rw (put, number_new c.args.services.now c.args.id.now new) c.len-number.ensures.len
