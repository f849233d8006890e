use Rattle.std.proofs.Common.{◌≡◌, ◌<◌, List, All, length, map, ap, refl, subst, sym, ◌∙◌}
use Rattle.timetable.specs.declared.trips.Trip.{Trip}
use Rattle.timetable.specs.Networks.{Net}
use Rattle.timetable.specs.Numbering.{number_in}
use Rattle.timetable.specs.Renumbering.{renumbered_trip}
use Rattle.timetable.proofs.RenumberedNetworks.{net_again, trips_back, trips_low}
use Rattle.timetable.proofs.networks.parts_of.Goals as goal

pub lines_of-lined-requires : goal.lines_of-lined-requires
lines_of-lined-requires c =
    let numbering = c.in_ok-numbering.numbering in
    let n : Net = record { stops = c.args.stops; trips = c.args.trips.now; feet = c.args.feet.now } in
    let put : c.renumber_trips.new.trips ≡ map (renumbered_trip (number_in numbering.numbers.items)) n.trips =
    c.renumber_trips.ensures ∙ ap (λ ns. map (renumbered_trip (number_in ns)) n.trips) c.as_slice.ensures.value in
    let lists : length n.feet.walks ≡ n.stops = c.requires.net.in_range.lists in
    let again = net_again n.stops numbering.numbers.items numbering.order.items c.in_ok-numbering.ensures n
    c.requires.net refl c.in_ok-near.near c.in_ok-near.ensures.known (c.in_ok-near.ensures.stops ∙ lists)
    (rw lists at c.in_ok-near.ensures.same) in
    rw put again

pub renumber_trips-requires-2 : goal.renumber_trips-requires-2
renumber_trips-requires-2 c =
    let numbering = c.in_ok-numbering.numbering in
    let trips = c.args.trips.now in
    let put : c.renumber_trips.new.trips ≡ map (renumbered_trip (number_in numbering.numbers.items)) trips =
    c.renumber_trips.ensures ∙ ap (λ ns. map (renumbered_trip (number_in ns)) trips) c.as_slice.ensures.value in
    let long : length c.as_slice-2.result.now ≡ c.args.stops = ap length c.as_slice-2.ensures.value
    ∙ c.in_ok-numbering.ensures.count in
    let low = trips_low c.args.stops numbering.numbers.items numbering.order.items c.in_ok-numbering.ensures trips
    c.requires.net.in_range.events in
    subst (λ (ts : List Trip). All (λ t. All (λ e. e.stop.0 < length c.as_slice-2.result.now) t.events) ts) (sym put)
    (subst (λ n. All (λ t. All (λ e. e.stop.0 < n) t.events)
    (map (renumbered_trip (number_in numbering.numbers.items)) trips)) (sym long) low)

pub returns-in_err-lines-clause-back : goal.returns-in_err-lines-clause-back
returns-in_err-lines-clause-back c =
    let numbering = c.in_ok-numbering.numbering in
    let trips = c.args.trips.now in
    let put : c.renumber_trips.new.trips ≡ map (renumbered_trip (number_in numbering.numbers.items)) trips =
    c.renumber_trips.ensures ∙ ap (λ ns. map (renumbered_trip (number_in ns)) trips) c.as_slice.ensures.value in
    c.renumber_trips-2.ensures
    ∙ (ap (λ ns. map (renumbered_trip (number_in ns)) c.renumber_trips.new.trips) c.as_slice-2.ensures.value
    ∙ (ap (map (renumbered_trip (number_in numbering.order.items))) put
    ∙ trips_back c.args.stops numbering.numbers.items numbering.order.items c.in_ok-numbering.ensures trips
    c.requires.net.in_range.events))

pub returns-clause-back : goal.returns-clause-back
returns-clause-back c =
    let numbering = c.in_ok-numbering.numbering in
    let trips = c.args.trips.now in
    let put : c.renumber_trips.new.trips ≡ map (renumbered_trip (number_in numbering.numbers.items)) trips =
    c.renumber_trips.ensures ∙ ap (λ ns. map (renumbered_trip (number_in ns)) trips) c.as_slice.ensures.value in
    c.renumber_trips-2.ensures
    ∙ (ap (λ ns. map (renumbered_trip (number_in ns)) c.renumber_trips.new.trips) c.as_slice-2.ensures.value
    ∙ (ap (map (renumbered_trip (number_in numbering.order.items))) put
    ∙ trips_back c.args.stops numbering.numbers.items numbering.order.items c.in_ok-numbering.ensures trips
    c.requires.net.in_range.events))
