use Rattle.std.proofs.Common.{◌∙◌, ap, subst}
use Rattle.gtfs_tables.specs.Feed.{FeedData}
use Rattle.studies.specs.Inputs.{inputs_of}
use Rattle.studies.specs.Stages.{AreTables}
use Rattle.studies.proofs.ready.ready_study.Goals as goal

pub returns-clause-ready : goal.returns-clause-ready
returns-clause-ready g c =
    let i = inputs_of c.args.inputs.now in
    let prepared = c.in_ok-prepared.ensures in
    record {
      stops_are = c.without_trips.ensures.stops ∙ ap (λ (d : FeedData). d.stops) prepared.feed.feed_is;
      names_are = c.in_ok-names.ensures;
      tables_are = subst (λ (d : FeedData). AreTables i d c.in_ok-prepared.prepared.tables.value)
          prepared.feed.feed_is prepared.tables;
      networks_are = prepared.networks;
    }
