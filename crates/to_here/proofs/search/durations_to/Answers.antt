use Rattle.std.proofs.Common.{◌≡◌, ◌∙◌, ap, length, subst, sym}
use Rattle.timetable.specs.Footpaths.{FeetData}
use Rattle.reversal.specs.Deadlines.{AreWalksTo}
use Rattle.to_here.specs.declared.search.Question.{Question}
use Rattle.to_here.specs.Row.{IsRowTo}
use Rattle.to_here.specs.Search.{AreDeadlinesFrom, AreOriginsDone, IsValidQuestion}
use Rattle.to_here.proofs.RowSearched.{done_row, written_back}
use Rattle.to_here.proofs.search.durations_to.Goals as goal

pub search_deadlines-requires-clause-deadlines : goal.search_deadlines-requires-clause-deadlines
search_deadlines-requires-clause-deadlines c =
    subst (AreDeadlinesFrom c.args.networks.network.now c.args.destination.0 c.args.window.first)
    (sym c.deref.ensures.value) (record {
      exact = c.in_ok-deadlines.ensures.exact;
      ascending = c.in_ok-deadlines.ensures.ascending;
    })

pub returns : goal.returns
returns c =
    let q : Question = record {
      networks = c.args.networks;
      destination = c.args.destination;
      window = c.args.window;
      rides = c.args.rides;
    } in
    let valid : IsValidQuestion q = record {
      networks = c.requires.networks;
      destination = c.requires.destination;
      window = c.requires.window;
      rides = c.requires.rides;
      horizon = c.requires.horizon;
    } in
    let p = c.args.destination.0 in
    let begun = c.in_ok-row.row in
    let long : length begun.items ≡ begun.len = sym begun.ok.0 in
    let old = c.deref_mut-2.result.now in
    let searched = c.search_deadlines.new.row in
    let new = c.finish_row.new.row in
    let walks = c.deref-2.result.now in
    let as_long : length searched ≡ length begun.items =
    c.search_deadlines.auto.row ∙ ap length c.deref_mut.ensures.value in
    let is_old : old ≡ searched =
    c.deref_mut-2.ensures.value ∙ written_back begun.len begun.items searched as_long long in
    let count : length new ≡ length old = c.finish_row.auto.row in
    let walked = subst (AreWalksTo c.args.networks.network.now.feet.walks p) (sym c.deref-2.ensures.value)
    (subst (λ (feet : FeetData). AreWalksTo feet.walks p c.in_ok-walks.walks.items) c.feet.ensures
    c.in_ok-walks.ensures) in
    let done = subst (AreOriginsDone q) (sym is_old) c.in_ok-search_deadlines.ensures in
    let is_new = written_back begun.len _ new (count ∙ ap length c.deref_mut-2.ensures.value)
    (ap length (written_back begun.len begun.items searched as_long long) ∙ as_long ∙ long) in
    subst (IsRowTo c.args.networks.network.now c.args.window c.args.rides p) (sym is_new)
    (done_row q valid c.known.ensures walks old new count c.finish_row.ensures.lowered done walked)
