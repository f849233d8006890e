use Rattle.useful_minutes.proofs.CountedMinutes.{all_counted}
use Rattle.useful_minutes.specs.declared.counted.Counting.{Counting}
use Rattle.useful_minutes.proofs.counted.count_durations.Goals as goal

pub returns : goal.returns
returns c =
    let counting : Counting = record {
      found = c.args.found;
      positions = c.args.positions;
      first = c.args.first;
      minutes = c.args.minutes;
    } in
    all_counted counting c.args.stops c.in_ok-durations.durations.items c.requires.minutes c.in_ok-durations.ensures
