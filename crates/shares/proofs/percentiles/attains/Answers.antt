use Rattle.std.proofs.Common.{◌∙◌}
use Rattle.rounds.specs.Table.{known_of, label_in}
use Rattle.shares.proofs.MinutesCounted.{attains_counted, count_live}
use Rattle.shares.proofs.percentiles.attains.Goals as goal

pub returns : goal.returns
returns c =
    let lanes = c.args.lanes.now in
    attains_counted (λ m. known_of (label_in lanes m)) c.args.minutes c.args.share c.args.duration c.count_within.result
    (c.count_within.ensures.count ∙ count_live lanes c.args.minutes c.args.duration c.requires.lanes)
