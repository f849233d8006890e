use Rattle.std.proofs.Common.{◌∙◌, ap, subst, sym}
use Rattle.gtfs_tables.specs.Feed.{FeedData}
use Rattle.footpaths.specs.Walks.{direct_of}
use Rattle.studies.specs.declared.fault.StudyFault.{StudyFault}
use Rattle.studies.specs.declared.fault.StudyFault.TheVariants as fault
use Rattle.studies.specs.declared.parts.NetworkParts.{NetworkParts}
use Rattle.studies.specs.Inputs.{inputs_of}
use Rattle.studies.specs.Stages.{AreNetworkParts, IsOfNoRun}
use Rattle.studies.specs.Study.{Tells}
use Rattle.studies.proofs.AnyGate.{names_no_run, tables_no_run}
use Rattle.studies.proofs.StudyFacts.{are_named, are_read, direct_told, err_by, feed_told, feet_for_stops}
use Rattle.studies.proofs.StudyFacts.{few_scenarios, is_feed, names_told, networks_made, networks_told, runs_of_feed}
use Rattle.studies.proofs.StudyFacts.{tables_told}
use Rattle.studies.proofs.kept.prepare.Goals as goal

pub returns-in_err-check_names-clause-fault : goal.returns-in_err-check_names-clause-fault
returns-in_err-check_names-clause-fault g c =
    let i = inputs_of c.args.inputs.now in
    let s = c.args.settings.now in
    let e = c.in_err-check_names.field-0.0 in
    err_by (λ (e : StudyFault). Tells e i s) c.from_residual.result e c.from_residual.ensures.1
    (names_told i s e c.in_err-check_names.ensures.fault)

pub returns-in_err-check_names-clause-no_run : goal.returns-in_err-check_names-clause-no_run
returns-in_err-check_names-clause-no_run g c =
    let i = inputs_of c.args.inputs.now in
    let e = c.in_err-check_names.field-0.0 in
    err_by IsOfNoRun c.from_residual.result e c.from_residual.ensures.1
    (names_no_run e i.scenarios c.in_err-check_names.ensures.fault)

pub returns-in_err-held-clause-fault : goal.returns-in_err-held-clause-fault
returns-in_err-held-clause-fault g c =
    let i = inputs_of c.args.inputs.now in
    let s = c.args.settings.now in
    let e = c.in_err-held.field-0.0 in
    err_by (λ (e : StudyFault). Tells e i s) c.from_residual-in_err-held.result (fault.Feed e)
    c.from_residual-in_err-held.ensures.1
    (feed_told i s e (are_named i s c.in_ok-check_names.ensures.good) c.in_err-held.ensures.fault)

pub returns-in_err-held-clause-no_run : goal.returns-in_err-held-clause-no_run
returns-in_err-held-clause-no_run g c =
    let e = c.in_err-held.field-0.0 in
    err_by IsOfNoRun c.from_residual-in_err-held.result (fault.Feed e) c.from_residual-in_err-held.ensures.1 (tt)

pub returns-in_err-walks-clause-fault : goal.returns-in_err-walks-clause-fault
returns-in_err-walks-clause-fault g c =
    let i = inputs_of c.args.inputs.now in
    let s = c.args.settings.now in
    let feed = c.as_ref-feed.result.now in
    let is = is_feed i s c.in_ok-held.held.value feed c.as_ref-feed.ensures c.in_ok-held.ensures.good
    c.in_ok-held.ensures.feed in
    let e = c.in_err-walks.field-0.0 in
    err_by (λ (e : StudyFault). Tells e i s) c.from_residual-in_err-walks.result (fault.Feed e)
    c.from_residual-in_err-walks.ensures.1
    (direct_told i s e feed (are_named i s c.in_ok-check_names.ensures.good) is c.in_err-walks.ensures.fault)

pub returns-in_err-walks-clause-no_run : goal.returns-in_err-walks-clause-no_run
returns-in_err-walks-clause-no_run g c =
    let e = c.in_err-walks.field-0.0 in
    err_by IsOfNoRun c.from_residual-in_err-walks.result (fault.Feed e) c.from_residual-in_err-walks.ensures.1 (tt)

pub returns-in_err-tables-clause-fault : goal.returns-in_err-tables-clause-fault
returns-in_err-tables-clause-fault g c =
    let i = inputs_of c.args.inputs.now in
    let s = c.args.settings.now in
    let feed = c.as_ref-feed.result.now in
    let is = is_feed i s c.in_ok-held.held.value feed c.as_ref-feed.ensures c.in_ok-held.ensures.good
    c.in_ok-held.ensures.feed in
    let e = c.in_err-tables.field-0.0 in
    err_by (λ (e : StudyFault). Tells e i s) c.from_residual-in_err-tables.result e
    c.from_residual-in_err-tables.ensures.1
    (tables_told i s e feed (are_named i s c.in_ok-check_names.ensures.good) is c.in_ok-walks.ensures.good
    c.in_err-tables.ensures.fault)

pub returns-in_err-tables-clause-no_run : goal.returns-in_err-tables-clause-no_run
returns-in_err-tables-clause-no_run g c =
    let i = inputs_of c.args.inputs.now in
    let feed = c.as_ref-feed.result.now in
    let e = c.in_err-tables.field-0.0 in
    err_by IsOfNoRun c.from_residual-in_err-tables.result e c.from_residual-in_err-tables.ensures.1
    (tables_no_run e i feed c.in_err-tables.ensures.fault)

pub network_parts-requires-clause-read : goal.network_parts-requires-clause-read
network_parts-requires-clause-read g c =
    let i = inputs_of c.args.inputs.now in
    let s = c.args.settings.now in
    let feed = c.as_ref-feed.result.now in
    let is = is_feed i s c.in_ok-held.held.value feed c.as_ref-feed.ensures c.in_ok-held.ensures.good
    c.in_ok-held.ensures.feed in
    are_read i s feed (are_named i s c.in_ok-check_names.ensures.good) is c.in_ok-walks.ensures.good
    c.in_ok-tables.ensures.good

pub network_parts-requires-clause-feed : goal.network_parts-requires-clause-feed
network_parts-requires-clause-feed g c = c.as_ref-feed.ensures ∙ c.in_ok-held.ensures.feed

pub network_parts-requires-clause-direct : goal.network_parts-requires-clause-direct
network_parts-requires-clause-direct g c =
    c.as_ref-direct.ensures ∙ c.in_ok-walks.ensures.direct
    ∙ ap (λ (d : FeedData). direct_of d (inputs_of c.args.inputs.now).footpaths)
    (c.as_ref-feed.ensures ∙ c.in_ok-held.ensures.feed)

pub returns-in_err-parts-clause-fault : goal.returns-in_err-parts-clause-fault
returns-in_err-parts-clause-fault g c =
    let i = inputs_of c.args.inputs.now in
    let s = c.args.settings.now in
    let e = c.in_err-parts.field-0.0 in
    err_by (λ (e : StudyFault). Tells e i s) c.from_residual-in_err-parts.result e
    c.from_residual-in_err-parts.ensures.1
    (c.in_err-parts.ensures.fault)

pub returns-in_err-parts-clause-no_run : goal.returns-in_err-parts-clause-no_run
returns-in_err-parts-clause-no_run g c =
    let e = c.in_err-parts.field-0.0 in
    err_by IsOfNoRun c.from_residual-in_err-parts.result e c.from_residual-in_err-parts.ensures.1
    c.in_err-parts.ensures.no_run

pub make_networks-requires-clause-few : goal.make_networks-requires-clause-few
make_networks-requires-clause-few g c =
    let i = inputs_of c.args.inputs.now in
    let s = c.args.settings.now in
    let feed = c.as_ref-feed.result.now in
    let feed_is = c.as_ref-feed.ensures ∙ c.in_ok-held.ensures.feed in
    let parts = c.as_ref-parts.result.now in
    let are_parts = subst (λ (p : NetworkParts). AreNetworkParts i s p) (sym c.as_ref-parts.ensures)
    c.in_ok-parts.ensures.parts in
    few_scenarios i s feed parts c.deref-8.result.now c.deref-7.result.now feed_is are_parts c.deref-8.ensures.value
    c.deref-7.ensures.value

pub make_networks-requires-clause-runs : goal.make_networks-requires-clause-runs
make_networks-requires-clause-runs g c =
    let i = inputs_of c.args.inputs.now in
    let s = c.args.settings.now in
    let feed = c.as_ref-feed.result.now in
    let feed_is = c.as_ref-feed.ensures ∙ c.in_ok-held.ensures.feed in
    let parts = c.as_ref-parts.result.now in
    let are_parts = subst (λ (p : NetworkParts). AreNetworkParts i s p) (sym c.as_ref-parts.ensures)
    c.in_ok-parts.ensures.parts in
    runs_of_feed i s feed parts c.deref-8.result.now c.deref-7.result.now feed_is are_parts c.deref-8.ensures.value
    c.deref-7.ensures.value

pub make_networks-requires-clause-feet : goal.make_networks-requires-clause-feet
make_networks-requires-clause-feet g c =
    let i = inputs_of c.args.inputs.now in
    let s = c.args.settings.now in
    let feed = c.as_ref-feed.result.now in
    let feed_is = c.as_ref-feed.ensures ∙ c.in_ok-held.ensures.feed in
    let parts = c.as_ref-parts.result.now in
    let are_parts = subst (λ (p : NetworkParts). AreNetworkParts i s p) (sym c.as_ref-parts.ensures)
    c.in_ok-parts.ensures.parts in
    feet_for_stops i s feed parts c.deref-8.result.now c.deref-7.result.now feed_is are_parts c.deref-8.ensures.value
    c.deref-7.ensures.value

pub returns-in_err-networks-clause-fault : goal.returns-in_err-networks-clause-fault
returns-in_err-networks-clause-fault g c =
    let i = inputs_of c.args.inputs.now in
    let s = c.args.settings.now in
    let feed = c.as_ref-feed.result.now in
    let feed_is = c.as_ref-feed.ensures ∙ c.in_ok-held.ensures.feed in
    let parts = c.as_ref-parts.result.now in
    let are_parts = subst (λ (p : NetworkParts). AreNetworkParts i s p) (sym c.as_ref-parts.ensures)
    c.in_ok-parts.ensures.parts in
    let e = c.in_err-networks.field-0.0 in
    err_by (λ (e : StudyFault). Tells e i s) c.from_residual-in_err-networks.result e
    c.from_residual-in_err-networks.ensures.1
    (networks_told i s feed parts c.deref-8.result.now c.deref-7.result.now feed_is are_parts c.deref-8.ensures.value
    c.deref-7.ensures.value e c.in_err-networks.ensures.fault)

pub returns-in_err-networks-clause-no_run : goal.returns-in_err-networks-clause-no_run
returns-in_err-networks-clause-no_run g c =
    let e = c.in_err-networks.field-0.0 in
    err_by IsOfNoRun c.from_residual-in_err-networks.result e c.from_residual-in_err-networks.ensures.1
    c.in_err-networks.ensures.no_run

pub returns-clause-feed : goal.returns-clause-feed
returns-clause-feed g c =
    record { faultless = c.in_ok-held.ensures.good; feed_is = c.in_ok-held.ensures.feed }

pub returns-clause-networks : goal.returns-clause-networks
returns-clause-networks g c =
    let i = inputs_of c.args.inputs.now in
    let s = c.args.settings.now in
    let feed = c.as_ref-feed.result.now in
    let feed_is = c.as_ref-feed.ensures ∙ c.in_ok-held.ensures.feed in
    let parts = c.as_ref-parts.result.now in
    let are_parts = subst (λ (p : NetworkParts). AreNetworkParts i s p) (sym c.as_ref-parts.ensures)
    c.in_ok-parts.ensures.parts in
    networks_made i s feed parts c.deref-8.result.now c.deref-7.result.now feed_is are_parts c.deref-8.ensures.value
    c.deref-7.ensures.value c.in_ok-networks.networks.items
    c.in_ok-networks.ensures.good c.in_ok-networks.ensures.networks
