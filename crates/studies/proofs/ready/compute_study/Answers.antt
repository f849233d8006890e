use Rattle.std.proofs.Common.{ℕ, List, Vec, ap, map}
use Rattle.std.specs.declared.alloc.Global.{Global}
use Rattle.gtfs_tables.specs.Feed.{FeedData}
use Rattle.studies.specs.Ready.{IsReady}
use Rattle.studies.specs.Study.{IsStudyText, TellsBy}
use Rattle.studies.specs.Watched.{SawAll, SawFault}
use Rattle.studies.proofs.ForFiles.{err_too, ok_too}
use Rattle.studies.proofs.StudyFacts.{ready_with}
use Rattle.studies.proofs.ready.compute_study.Goals as goal

pub text_of-requires-clause-asked : goal.text_of-requires-clause-asked
text_of-requires-clause-asked g c κs within =
    let (i, ready) = c.requires.ready in (
      i,
      ready_with i c.args.settings.now (ap (λ (d : FeedData). d.stops) c.as_ref.ensures)
          (ap (λ (l : List (Vec ℕ Global)). map (λ name. name.items) l) c.as_slice-2.ensures.value) c.as_ref-2.ensures
          c.as_slice.ensures.value ready,
    )

pub returns-clause-text : goal.returns-clause-text
returns-clause-text g c =
    let s = c.args.settings.now in
    ok_too _ (λ i. IsReady i s c.args.study.now) (λ i ready. ready_with i s
    (ap (λ (d : FeedData). d.stops) c.as_ref.ensures)
    (ap (λ (l : List (Vec ℕ Global)). map (λ name. name.items) l) c.as_slice-2.ensures.value) c.as_ref-2.ensures
    c.as_slice.ensures.value ready) (λ i text. IsStudyText i s text.items) c.text_of.result c.text_of.ensures.text

pub returns-clause-told : goal.returns-clause-told
returns-clause-told g c =
    let s = c.args.settings.now in
    let saw = g.W.Watch.saw c.args.watch.now in
    ok_too _ (λ i. IsReady i s c.args.study.now) (λ i ready. ready_with i s
    (ap (λ (d : FeedData). d.stops) c.as_ref.ensures)
    (ap (λ (l : List (Vec ℕ Global)). map (λ name. name.items) l) c.as_slice-2.ensures.value) c.as_ref-2.ensures
    c.as_slice.ensures.value ready) (λ i _. SawAll saw i s) c.text_of.result c.text_of.ensures.told

pub returns-clause-told_fault : goal.returns-clause-told_fault
returns-clause-told_fault g c =
    let s = c.args.settings.now in
    let saw = g.W.Watch.saw c.args.watch.now in
    err_too _ (λ i. IsReady i s c.args.study.now) (λ i ready. ready_with i s
    (ap (λ (d : FeedData). d.stops) c.as_ref.ensures)
    (ap (λ (l : List (Vec ℕ Global)). map (λ name. name.items) l) c.as_slice-2.ensures.value) c.as_ref-2.ensures
    c.as_slice.ensures.value ready) (λ i e. SawFault saw e i s) c.text_of.result c.text_of.ensures.told_fault

pub returns-clause-run : goal.returns-clause-run
returns-clause-run g c =
    let s = c.args.settings.now in
    let decides = g.G.Gate.decides c.args.gate.now in
    let was_told = g.G.Gate.was_told c.args.gate.now in
    err_too _ (λ i. IsReady i s c.args.study.now) (λ i ready. ready_with i s
    (ap (λ (d : FeedData). d.stops) c.as_ref.ensures)
    (ap (λ (l : List (Vec ℕ Global)). map (λ name. name.items) l) c.as_slice-2.ensures.value) c.as_ref-2.ensures
    c.as_slice.ensures.value ready) (λ i e. TellsBy decides was_told e i s) c.text_of.result c.text_of.ensures.run
