use Rattle.std.proofs.Common.{◌≡◌, ◌∙◌, ◌<◌, take, [], List, length, get_or, min, ap, arith, false, sym}
use Rattle.std.proofs.lemmas.List.{length-replicate}
use Rattle.timetable.specs.declared.limits.TheConstants.{MOST_CHANGE_SECONDS}
use Rattle.table_files.specs.declared.transfers.Link.{Link}
use Rattle.table_files.specs.declared.place.Place.TheVariants.{Stop}
use Rattle.table_files.specs.Transfers.{changes_at}
use Rattle.footpaths.specs.Changes.{change_of, has_stop, longer}
use Rattle.footpaths.proofs.ChangeFacts.{change_more, change_stops, changes_all, changes_each, changes_short}
use Rattle.footpaths.proofs.ChangeFacts.{no_change_stops, none_yet}
use Rattle.footpaths.proofs.changes.raise_all.Goals as goal
use Rattle.footpaths.proofs.changes.raise_all.Goals.{then-link, else-link}

pub loop-link-init : goal.loop-link-init
loop-link-init c =
    record {
      same = ap length c.requires ∙ length-replicate (length c.args.feed.now.stops) 0;
      each = none_yet (length c.args.feed.now.stops) c.args.changes.now c.requires;
    }

pub loop-link-preserved : goal.loop-link-preserved
loop-link-preserved c =
    let children = c.args.feed.now.children in
    let links = c.links-link-items.result.now in
    let i = c.loop-link.link-index in
    let none : Link = record {
      origin = Stop (record { 0 = 0 });
      target = Stop (record { 0 = 0 });
      seconds = 0;
      changes = false;
      at = 0;
    } in
    let link = get_or links i none in
    record {
      same = c.if-link.auto.changes ∙ c.loop-link.invariant.same;
      each = elim c.if-link.branch [
        | then-link w ↦ λ p within.
            let room : p < length c.loop-link.changes = omega (arith, c.if-link.auto.changes, within) in
            let before = c.loop-link.invariant.each p room in
            let stops : w.as_slice.result.now ≡ changes_at children link =
            w.as_slice.ensures ∙ (w.stops_at-stops.ensures ∙ sym (change_stops children link w.if-link.true)) in
            let raised = w.raise.ensures.raised p room in
            let more = change_more children links i none p c.loop-link-test.true in
            rw w.changes-is (raised ∙ (λ k. longer (has_stop p (stops k)) (before k) (w.min.ensures k)) ∙ sym more)
        | else-link w ↦ λ p within.
            let room : p < length c.loop-link.changes = omega (arith, c.if-link.auto.changes, within) in
            let before = c.loop-link.invariant.each p room in
            let stops : changes_at children link ≡ [] = no_change_stops children link w.if-link.false in
            let more = change_more children links i none p c.loop-link-test.true in
            rw w.changes-is (before ∙ sym (more ∙ (λ k. longer (has_stop p (stops k))
            (change_of children (take i links) p) (min link.seconds MOST_CHANGE_SECONDS))))
      ];
    }

pub returns : goal.returns
returns c =
    let feed = c.args.feed.now in
    let all : c.loop-link.changes ≡ _ = changes_all feed c.loop-link.link-index c.loop-link.changes
    (omega (arith, ap length c.links-link-items.ensures, c.loop-link-test.false)) c.loop-link.invariant.same
    (λ p within. c.loop-link.invariant.each p within
    ∙ ap (λ (l : List Link). change_of feed.children (take c.loop-link.link-index l) p)
    c.links-link-items.ensures) in
    record {
      changes = all;
      each = ap length all ∙ changes_each feed;
      short = rw all (changes_short feed);
    }
