use Rattle.std.proofs.Common.{◌<◌, ℕ, subst, sym}
use Rattle.std.specs.List.{All}
use Rattle.timetable.specs.declared.trips.StopNo.{StopNo}
use Rattle.shares.proofs.CellsExist.{cells_there}
use Rattle.workers.proofs.Shares.{at_all}
use Rattle.workers.proofs.rows.given_of.Goals as goal

pub returns : goal.returns
returns c =
    let t = c.args.durations.now in
    let s = c.args.study.now in
    let all = cells_there t c.args.share in
    let there = subst (λ (n : ℕ). All (λ (d : StopNo). d.0 < n) s.destinations.now) (sym c.requires.stops)
    c.requires.fits.destinations in
    record {
      all = all.0;
      all_are = all.1;
      cells_are = at_all t s.destinations.now c.args.share c.args.cells.items all.0 there c.requires.cells all.1;
      access_is = c.in_ok-access.ensures all.0 all.1;
    }
