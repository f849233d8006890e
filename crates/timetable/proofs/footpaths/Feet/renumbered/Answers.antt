use Rattle.std.proofs.Common.{◌≡◌, ℕ, ◌<◌, ap, arith, length, slice_index, subst, sym, ◌∙◌}
use Rattle.timetable.specs.Footpaths.{FeetData, rows_of}
use Rattle.timetable.specs.Numbering.{number_in}
use Rattle.timetable.specs.Renumbering.{AreRenumbered, AreRenumberedRows}
use Rattle.timetable.proofs.RenumberedFeet.{feet_again, are_renumbered}
use Rattle.timetable.proofs.ElementsInRange.{length-rows_of}
use Rattle.timetable.proofs.footpaths.Feet.renumbered.Goals as goal

module _ (c : goal.In_ok-in_order) where
  abbrev feet : FeetData
  feet = record { walks = rows_of c.self.inside.lists.items; changes = c.self.inside.changes.items }

  abbrev again : FeetData
  again = record { walks = rows_of c.in_ok-renumbered_rows.field-0.items; changes = c.in_ok-in_order.field-0.items }

  abbrev stops : ℕ
  stops = length c.args.self.now.walks

  lists : length feet.walks ≡ stops
  lists = ap (λ (f : FeetData). length f.walks) c.self.view_is

  rows : AreRenumberedRows (number_in c.args.numbering.now.numbers.items) c.args.numbering.now.order.items feet.walks
      stops again.walks
  rows = subst (λ n. AreRenumberedRows (number_in c.args.numbering.now.numbers.items) c.args.numbering.now.order.items
      feet.walks n again.walks) (sym (length-rows_of c.self.inside.lists.items) ∙ lists)
      (rw c.deref.ensures.value at c.in_ok-renumbered_rows.ensures)

  sized : length again.changes ≡ stops
  sized = c.in_ok-in_order.ensures.size ∙ (ap length c.deref-3.ensures.value ∙ c.requires.count)

  each : (n : ℕ) → n < stops →
      slice_index again.changes n ≡ slice_index feet.changes (slice_index c.args.numbering.now.order.items n)
  each n l =
      let within : n < length c.deref-3.result.now =
      omega (arith, l, ap length c.deref-3.ensures.value, c.requires.count) in
      c.in_ok-in_order.ensures.each n within
      ∙ (ap (λ xs. slice_index xs (slice_index c.deref-3.result.now n)) c.deref-2.ensures.value
      ∙ ap (λ xs. slice_index c.self.inside.changes.items (slice_index xs n)) c.deref-3.ensures.value)

pub invariant_of-result : goal.invariant_of-result
invariant_of-result c =
    feet_again (stops c) c.args.numbering.now.numbers.items c.args.numbering.now.order.items c.requires (feet c)
    (again c) c.self.invariant (lists c) (rows c) (sized c) (each c)

pub returns-clause-same : goal.returns-clause-same
returns-clause-same c =
    subst (λ (f : FeetData). AreRenumbered (number_in c.args.numbering.now.numbers.items) (stops c) f (again c))
    c.self.view_is
    (are_renumbered (stops c) c.args.numbering.now.numbers.items c.args.numbering.now.order.items c.requires (feet c)
    (again c) c.self.invariant (lists c) (rows c) (sized c) (each c))

pub returns-clause-known : goal.returns-clause-known
returns-clause-known c =
    feet_again (stops c) c.args.numbering.now.numbers.items c.args.numbering.now.order.items c.requires (feet c)
    (again c) c.self.invariant (lists c) (rows c) (sized c) (each c)
