use Rattle.std.proofs.Common.{arith, ◌/◌, ◌%◌, w8}
use mir.Syntax.{w16}
use Rattle.std.proofs.lemmas.Int.{ints, to_z_pos}
use Rattle.table_records.proofs.Dates.{civil_cast, eight_digits}
use Rattle.table_records.proofs.fields.read_date.Goals as goal

pub overflow_cast-year : goal.overflow_cast-year
overflow_cast-year c =
    let small = eight_digits c.trim-text.result.now c.in_ok-digits.digits c.if-text-ne8.false c.in_ok-digits.ensures in
    omega (arith, ints, small)

pub returns : goal.returns
returns c =
    let small = eight_digits c.trim-text.result.now c.in_ok-digits.digits c.if-text-ne8.false c.in_ok-digits.ensures in
    let eight = c.if-text-ne8.false in
    let v = c.in_ok-digits.digits in
    rw (
      c.ok.ensures.value,
      ← c.trim-text.ensures,
      eight,
      ← c.in_ok-digits.ensures,
    ) (civil_cast (v / 10000) (v / 100 % 100) (v % 100) _ _ _
    (to_z_pos w16 (v / 10000) (omega (arith, small))) (to_z_pos w8 (v / 100 % 100) (omega (arith, small)))
    (to_z_pos w8 (v % 100) (omega (arith, small))) (omega (
      arith,
      small,
    )) c.new.result c.new.ensures.succeeds c.new.ensures.value)
