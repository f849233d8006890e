use Rattle.std.proofs.Common.{◌<◌, length, replicate, ap, ◌∙◌, arith, rules}
use Rattle.timetable.specs.declared.least.TheConstants.{NEVER}
use Rattle.timetable.specs.Journeys.{Whereabouts}
use Rattle.rounds.proofs.RoundsReach.{after_walk, none_started, room_to_walk, since_departure, durations_of}
use Rattle.rounds.proofs.plain.fill_durations.Goals as goal

pub walk-requires-clause-labels : goal.walk-requires-clause-labels
walk-requires-clause-labels c =
    let o : Whereabouts = record { stop = c.args.origin.0; time = c.args.depart } in
    let told = c.run_rounds.ensures in
    room_to_walk c.args.network.now told.known o c.requires.origin c.requires.depart c.args.rides c.run_rounds.new.ride
    told.table

pub count_from-requires : goal.count_from-requires
count_from-requires c p l reached =
    let n = c.args.network.now in
    let o : Whereabouts = record { stop = c.args.origin.0; time = c.args.depart } in
    let told = c.run_rounds.ensures in
    let emptied = c.fill.ensures.len ∙ told.same in
    let none = c.fill.ensures.after (λ y h. search rules) ∙ ap (λ k. replicate k NEVER) told.same in
    let table = after_walk n told.known o c.requires.origin c.requires.depart c.args.rides c.run_rounds.new.ride
    c.fill.new.self c.walk.new.ready told.stops emptied told.table (rw c.feet.ensures at c.walk.ensures)
    (none_started n told.known o c.requires.origin c.requires.depart c.args.rides c.fill.new.self none) in
    since_departure n told.known o c.requires.origin c.requires.depart c.args.rides c.walk.new.ready table p l reached

pub returns : goal.returns
returns c =
    let n = c.args.network.now in
    let o : Whereabouts = record { stop = c.args.origin.0; time = c.args.depart } in
    let told = c.run_rounds.ensures in
    let emptied = c.fill.ensures.len ∙ told.same in
    let none = c.fill.ensures.after (λ y h. search rules) ∙ ap (λ k. replicate k NEVER) told.same in
    let table = after_walk n told.known o c.requires.origin c.requires.depart c.args.rides c.run_rounds.new.ride
    c.fill.new.self c.walk.new.ready told.stops emptied told.table (rw c.feet.ensures at c.walk.ensures)
    (none_started n told.known o c.requires.origin c.requires.depart c.args.rides c.fill.new.self none) in
    record {
      stops = c.count_from.ensures.same ∙ (c.walk.ensures.same_length ∙ emptied);
      label = λ p l.
          let within : p < length c.walk.new.ready = omega (arith, c.walk.ensures.same_length, emptied) in
          durations_of n told.known o c.requires.origin c.requires.depart c.args.rides c.walk.new.ready _ table p within
          (c.count_from.ensures.since p within);
    }
