use Rattle.std.proofs.Common.{refl}
use Rattle.timetable.specs.declared.least.TheConstants.{NEVER}
use Rattle.rounds.proofs.LabelsOfBatch.{never_times}
use Rattle.rounds.proofs.batches.no_bounds.Goals as goal

pub returns-clause-bounds : goal.returns-clause-bounds
returns-clause-bounds c never =
    record {
      count = c.in_ok-rounds.ensures.count;
      each = λ base at.
          never_times c.args.query.network.now c.known.ensures base never c.args.query.origin.0 NEVER
          c.args.query.rides _ (rw c.stops.ensures at c.in_ok-rounds.ensures.never) at.fits refl;
    }
