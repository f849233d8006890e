use Rattle.std.proofs.Common.{◌∷◌, [], arith}
use Rattle.std.proofs.lemmas.List.{length-append}
use Rattle.table_files.proofs.FrequencyFacts.{more_empty}
use Rattle.table_files.proofs.frequencies.no_departures.Goals as goal

pub loop-preserved : goal.loop-preserved
loop-preserved c =
    let same = c.loop.invariant.0 in
    rw c.in_ok-push.ensures.items (
      omega (arith, same, length-append c.loop.trips.items (c.new.result ∷ [])),
      λ t d lt. more_empty c.loop.trips.items c.new.result
          (λ k b less. c.loop.invariant.1 k b (omega (arith, less, same))) c.new.ensures.items t d (omega (
            arith,
            lt,
            same,
          )),
    )
