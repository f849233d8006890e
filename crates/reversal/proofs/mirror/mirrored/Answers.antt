use Rattle.std.proofs.Common.{◌≡◌, ◌∙◌, ap, sym, subst, map}
use Rattle.timetable.specs.Networks.{IsNet, Net}
use Rattle.reversal.specs.Mirror.{mirrored, mirrored_feet, mirrored_trip}
use Rattle.reversal.proofs.MirroredNetworks.{mirrored_is_net}
use Rattle.reversal.proofs.NothingRefused.{net_fault}
use Rattle.reversal.proofs.mirror.mirrored.Goals as goal

pub returns-clause-fault : goal.returns-clause-fault
returns-clause-fault c =
    let n = c.args.network.now in
    let h = c.args.horizon in
    let made : Net = record { stops = c.stops.result; trips = c.in-Ok.trips.items; feet = c.in_ok-feet.feet } in
    let stops : n.stops ≡ made.stops = sym c.stops.ensures in
    let trips : map (mirrored_trip h) n.trips ≡ made.trips =
    sym (c.in-Ok.ensures ∙ ap (map (mirrored_trip h)) c.trips.ensures) in
    let feet : mirrored_feet n.feet ≡ made.feet =
    sym (c.in_ok-feet.ensures.mirrored ∙ ap mirrored_feet c.feet.ensures) in
    let same : mirrored h n ≡ made =
    ap (λ s. record { stops = s; trips = map (mirrored_trip h) n.trips; feet = mirrored_feet n.feet }) stops
    ∙ (ap (λ ts. record { stops = made.stops; trips = ts; feet = mirrored_feet n.feet }) trips
    ∙ ap (λ f. record { stops = made.stops; trips = made.trips; feet = f }) feet) in
    let ok : IsNet made = subst IsNet same (mirrored_is_net h n c.known.ensures c.requires.axis).1 in
    net_fault c.in-Err.fault made ok c.in-Err.ensures.fault
