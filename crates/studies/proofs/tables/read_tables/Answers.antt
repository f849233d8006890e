use Rattle.std.proofs.Common.{◌≡◌, ◌++◌, List, [], subst, sym}
use Rattle.table_records.proofs.FaultFacts.{tells_more}
use Rattle.gtfs_tables.specs.Feed.{FeedData}
use Rattle.gtfs_tables.specs.Opportunities.{opportunities_faults}
use Rattle.gtfs_tables.specs.Origins.{destinations_faults, origins_faults}
use Rattle.table_records.specs.Faults.{Tells}
use Rattle.table_records.specs.declared.fault.FeedFault.{FeedFault}
use Rattle.table_records.specs.declared.fault.FileName.TheVariants as file
use Rattle.studies.specs.declared.fault.StudyFault.{StudyFault}
use Rattle.studies.specs.declared.fault.StudyFault.TheVariants as fault
use Rattle.studies.specs.declared.parts.Tables.{Tables}
use Rattle.studies.specs.Inputs.{InputFiles, inputs_of}
use Rattle.studies.specs.Parts.{point_faults}
use Rattle.studies.specs.Stages.{AreTables, TellsTables}
use Rattle.studies.proofs.FewOrigins.{few_origins}
use Rattle.studies.proofs.FirstOfLists.{none_of_both, tells_right}
use Rattle.studies.proofs.StudyFacts.{err_by}
use Rattle.studies.proofs.tables.read_tables.Goals as goal

module _ (i : InputFiles) (feed : FeedData) where
  -- the faults after those of the origins
  abbrev after_origins : List FeedFault
  after_origins = opportunities_faults i.opportunities feed ++ destinations_faults i.destinations feed

  past_origins : (e : FeedFault) → origins_faults i.origins feed ≡ [] → Tells e after_origins →
      Tells e (point_faults i feed)
  past_origins e none h = tells_right e (origins_faults i.origins feed) after_origins none h

pub read_origins-requires : goal.read_origins-requires
read_origins-requires c = c.requires.origins

pub returns-in_err-origins-clause-fault : goal.returns-in_err-origins-clause-fault
returns-in_err-origins-clause-fault c =
    let i = inputs_of c.args.inputs.now in
    let feed = c.args.feed.now in
    let e = c.in_err-origins.field-0.0 in
    err_by (λ (e : StudyFault). TellsTables e i feed) c.from_residual.result (fault.Feed e)
    c.from_residual.ensures.1
    (tells_more e (origins_faults i.origins feed) (after_origins i feed) c.in_err-origins.ensures.fault)

pub read_opportunities-requires : goal.read_opportunities-requires
read_opportunities-requires c = c.requires.opportunities

pub returns-in_err-opportunities-clause-fault : goal.returns-in_err-opportunities-clause-fault
returns-in_err-opportunities-clause-fault c =
    let i = inputs_of c.args.inputs.now in
    let feed = c.args.feed.now in
    let e = c.in_err-opportunities.field-0.0 in
    err_by (λ (e : StudyFault). TellsTables e i feed) c.from_residual-in_err-opportunities.result (fault.Feed e)
    c.from_residual-in_err-opportunities.ensures.1
    (past_origins i feed e c.in_ok-origins.ensures.good.0
    (tells_more e (opportunities_faults i.opportunities feed) (destinations_faults i.destinations feed)
    c.in_err-opportunities.ensures.fault))

pub read_destinations-requires : goal.read_destinations-requires
read_destinations-requires c = c.requires.destinations

pub returns-in_err-destinations-clause-fault : goal.returns-in_err-destinations-clause-fault
returns-in_err-destinations-clause-fault c =
    let i = inputs_of c.args.inputs.now in
    let feed = c.args.feed.now in
    let e = c.in_err-destinations.field-0.0 in
    err_by (λ (e : StudyFault). TellsTables e i feed) c.from_residual-in_err-destinations.result (fault.Feed e)
    c.from_residual-in_err-destinations.ensures.1
    (past_origins i feed e c.in_ok-origins.ensures.good.0
    (tells_right e (opportunities_faults i.opportunities feed) (destinations_faults i.destinations feed)
    c.in_ok-opportunities.ensures.good.0 c.in_err-destinations.ensures.fault))

pub returns-clause-good : goal.returns-clause-good
returns-clause-good c =
    let i = inputs_of c.args.inputs.now in
    let feed = c.args.feed.now in
    none_of_both (origins_faults i.origins feed) (after_origins i feed) c.in_ok-origins.ensures.good.0
    (none_of_both (opportunities_faults i.opportunities feed) (destinations_faults i.destinations feed)
    c.in_ok-opportunities.ensures.good.0 c.in_ok-destinations.ensures.good.0)

pub returns-clause-tables : goal.returns-clause-tables
returns-clause-tables c =
    let i = inputs_of c.args.inputs.now in
    let feed = c.args.feed.now in
    let made : Tables = record {
      origins = c.in_ok-origins.origins;
      opportunities = c.in_ok-opportunities.opportunities;
      destinations = c.in_ok-destinations.destinations;
    } in
    let are : AreTables i feed made = record {
      origins_are = c.in_ok-origins.ensures.good.1;
      opportunities_are = c.in_ok-opportunities.ensures.good.1;
      in_range = c.in_ok-origins.ensures.stops;
      few_origins = few_origins file.Origins i.origins feed c.in_ok-origins.origins.items
          c.in_ok-origins.ensures.good.0 c.in_ok-origins.ensures.good.1;
      count = c.in_ok-opportunities.ensures.stops;
      destinations_are = c.in_ok-destinations.ensures.good.1;
      destinations_in_range = c.in_ok-destinations.ensures.stops;
      few_destinations = few_origins file.Destinations i.destinations feed c.in_ok-destinations.destinations.items
          c.in_ok-destinations.ensures.good.0 c.in_ok-destinations.ensures.good.1;
    } in
    subst (λ (t : Tables). AreTables i feed t) (sym c.in_ok-boxed.ensures) are
