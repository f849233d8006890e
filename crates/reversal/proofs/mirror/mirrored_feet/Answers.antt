use Rattle.std.proofs.Common.{◌≡◌, ◌∙◌, ap, ap₂, sym, subst, length}
use Rattle.timetable.specs.Footpaths.{AreFeet, rows_of}
use Rattle.reversal.specs.Mirror.{mirrored_feet}
use Rattle.reversal.proofs.MirroredFeet.{are_feet, lists_count}
use Rattle.reversal.proofs.NothingRefused.{no_feet_fault}
use Rattle.reversal.proofs.mirror.mirrored_feet.Goals as goal

pub returns-clause-fault : goal.returns-clause-fault
returns-clause-fault c =
    let feet = c.args.feet.now in
    let walks = rows_of c.in-Ok.lists.items in
    let changes = c.in-Ok-change_times.changes.items in
    let same : mirrored_feet feet ≡ record { walks = walks; changes = changes } =
    ap₂ (λ ws cs. record { walks = ws; changes = cs }) (sym c.in-Ok.ensures) (sym c.in-Ok-change_times.ensures) in
    let ok : AreFeet (record { walks = walks; changes = changes }) =
    subst AreFeet same (are_feet feet c.known.ensures) in
    absurd (no_feet_fault c.in-Err.fault c.stops.result (record { walks = walks; changes = changes }) ok
    (ap length c.in-Ok.ensures ∙ (lists_count feet c.known.ensures ∙ sym c.stops.ensures)) c.in-Err.ensures.fault)
