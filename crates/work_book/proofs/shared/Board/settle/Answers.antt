use Rattle.std.proofs.Common.{◌≡◌, ◌<◌, ap, rules, arith}
use Rattle.work_book.specs.Book.{job_among}
use Rattle.work_book.specs.declared.lease.Lease.{Lease}
use Rattle.work_book.proofs.SettlesKeepTheRule.{settles, job_within}
use Rattle.work_book.proofs.shared.Board.settle.Goals as goal

pub compare_exchange-found-requires : goal.compare_exchange-found-requires
compare_exchange-found-requires c =
    let b = c.args.self.now in
    let l = c.args.lease in
    let of_job : l.job ≡ job_among b.jobs l.number = ap (λ (x : Lease). x.job) c.requires.lease.0 in
    let within : l.job < b.jobs = job_within l.number b.jobs b.tries l.job c.requires.lease.1 of_job in (
      search rules,
      omega (arith, b.sized.0),
      settles _ _ _ _ l.job (search rules) (omega (arith, b.key.0)) l.number c.requires.drawn (search rules),
    )
