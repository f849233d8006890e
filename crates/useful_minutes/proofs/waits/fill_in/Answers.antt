use Rattle.std.proofs.Common.{◌+◌, ◌/◌, length, ap, arith}
use Rattle.useful_minutes.proofs.waits.fill_in.Goals as goal

pub fill_stops-requires-clause-near : goal.fill_stops-requires-clause-near
fill_stops-requires-clause-near c =
    let e = ap length c.as_mut_slice-near.ensures.value in
    let chunks = c.requires.chunks in
    record {
      chunks = c.args.searched / 16 + 1;
      size = omega (arith, e, c.in_ok-room.ensures.len, c.in_ok-room.room.ok.0);
      few = omega (arith, c.requires.few, chunks.1);
      within = λ k d l. let low = c.requires.within k d l in omega (arith, low);
    }
