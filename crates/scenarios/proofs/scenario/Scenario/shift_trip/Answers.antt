use Rattle.std.proofs.Common.{◌≡◌, ◌∙◌, ◌==◌, ◌++◌, ◌∷◌, [], ◌≤ℤ◌, ◌<◌, ◌+ℤ◌, if◌then◌else◌, arith, length, neg_ℤ, pos}
use Rattle.std.proofs.Common.{ap, of_z, refl, rules, to_z, w64}
use Rattle.std.specs.Prelude.{slice_index_or}
use Rattle.std.proofs.lemmas.Int.{ints, to_z-of_z}
use Rattle.scenarios.specs.Edits.{shift_of}
use Rattle.scenarios.specs.declared.edits.Edit.TheVariants.{Shift}
use Rattle.scenarios.specs.declared.edits.TheConstants.{MOST_EDITS}
use Rattle.scenarios.proofs.AddedShift.{still_looked_up}
use Rattle.scenarios.proofs.ShiftBounds.{shift_within}
use Rattle.scenarios.proofs.scenario.Scenario.shift_trip.Goals as goal

pub add_shift-requires-clause-shift : goal.add_shift-requires-clause-shift
add_shift-requires-clause-shift c =
    let edits = c.self.inside.edits.items in
    let same : slice_index_or c.make_room.new.items.items c.args.trip (pos 0) ≡ shift_of edits c.args.trip =
    c.make_room.ensures.same c.args.trip ∙ c.self.invariant.shifts c.args.trip in
    let bound = shift_within edits c.args.trip c.self.invariant.few c.self.invariant.within in
    let low : neg_ℤ (pos 60479900000) ≤ℤ slice_index_or c.make_room.new.items.items c.args.trip (pos 0) =
    rw same bound.0 in
    let high : slice_index_or c.make_room.new.items.items c.args.trip (pos 0) ≤ℤ pos 60479900000 = rw same bound.1 in
    (omega (arith, ints), omega (arith, ints))

pub invariant_of-self-2 : goal.invariant_of-self-2
invariant_of-self-2 c =
    let z = to_z w64 (of_z w64 c.args.seconds) in
    let same : z ≡ c.args.seconds = to_z-of_z w64 c.args.seconds c.ranges.seconds in
    let low : neg_ℤ (pos 604799) ≤ℤ z = rw same c.requires.low in
    let high : z ≤ℤ pos 604799 = rw same c.requires.high in
    let pushed : c.push.new.self.items ≡ c.self.inside.edits.items ++ Shift c.args.trip z ∷ [] = search rules in
    let view = ap (λ v. length v.edits) c.self.view_is in
    let few : length c.self.inside.edits.items < MOST_EDITS = omega (arith, view, c.requires.few) in
    still_looked_up c.self.inside _ c.args.trip z c.self.invariant few low high pushed refl refl
    (λ k. c.add_shift.ensures k ∙ ap (λ x. x +ℤ (if c.args.trip == k then z else pos 0)) (c.make_room.ensures.same k))
