use Rattle.std.proofs.Common.{refl}
use Rattle.table_files.proofs.calendar.CalendarColumns.days.Goals as goal

pub returns-in_err-monday : goal.returns-in_err-monday
returns-in_err-monday c =
    let none = rw c.field.ensures at c.in_err-monday.ensures in
    rw (c.from_residual.ensures, ← none) refl

pub returns-in_err-tuesday : goal.returns-in_err-tuesday
returns-in_err-tuesday c =
    let monday = rw c.field.ensures at c.in_ok-monday.ensures in
    let none = rw c.field-2.ensures at c.in_err-tuesday.ensures in
    rw (c.from_residual-in_err-tuesday.ensures, ← monday, ← none) refl

pub returns-in_err-wednesday : goal.returns-in_err-wednesday
returns-in_err-wednesday c =
    let monday = rw c.field.ensures at c.in_ok-monday.ensures in
    let tuesday = rw c.field-2.ensures at c.in_ok-tuesday.ensures in
    let none = rw c.field-3.ensures at c.in_err-wednesday.ensures in
    rw (c.from_residual-in_err-wednesday.ensures, ← monday, ← tuesday, ← none) refl

pub returns-in_err-thursday : goal.returns-in_err-thursday
returns-in_err-thursday c =
    let monday = rw c.field.ensures at c.in_ok-monday.ensures in
    let tuesday = rw c.field-2.ensures at c.in_ok-tuesday.ensures in
    let wednesday = rw c.field-3.ensures at c.in_ok-wednesday.ensures in
    let none = rw c.field-4.ensures at c.in_err-thursday.ensures in
    rw (c.from_residual-in_err-thursday.ensures, ← monday, ← tuesday, ← wednesday, ← none) refl

pub returns-in_err-friday : goal.returns-in_err-friday
returns-in_err-friday c =
    let monday = rw c.field.ensures at c.in_ok-monday.ensures in
    let tuesday = rw c.field-2.ensures at c.in_ok-tuesday.ensures in
    let wednesday = rw c.field-3.ensures at c.in_ok-wednesday.ensures in
    let thursday = rw c.field-4.ensures at c.in_ok-thursday.ensures in
    let none = rw c.field-5.ensures at c.in_err-friday.ensures in
    rw (c.from_residual-in_err-friday.ensures, ← monday, ← tuesday, ← wednesday, ← thursday, ← none) refl

pub returns-in_err-saturday : goal.returns-in_err-saturday
returns-in_err-saturday c =
    let monday = rw c.field.ensures at c.in_ok-monday.ensures in
    let tuesday = rw c.field-2.ensures at c.in_ok-tuesday.ensures in
    let wednesday = rw c.field-3.ensures at c.in_ok-wednesday.ensures in
    let thursday = rw c.field-4.ensures at c.in_ok-thursday.ensures in
    let friday = rw c.field-5.ensures at c.in_ok-friday.ensures in
    let none = rw c.field-6.ensures at c.in_err-saturday.ensures in
    rw (c.from_residual-in_err-saturday.ensures, ← monday, ← tuesday, ← wednesday, ← thursday, ← friday, ← none) refl

pub returns-in_err-sunday : goal.returns-in_err-sunday
returns-in_err-sunday c =
    let monday = rw c.field.ensures at c.in_ok-monday.ensures in
    let tuesday = rw c.field-2.ensures at c.in_ok-tuesday.ensures in
    let wednesday = rw c.field-3.ensures at c.in_ok-wednesday.ensures in
    let thursday = rw c.field-4.ensures at c.in_ok-thursday.ensures in
    let friday = rw c.field-5.ensures at c.in_ok-friday.ensures in
    let saturday = rw c.field-6.ensures at c.in_ok-saturday.ensures in
    let none = rw c.field-7.ensures at c.in_err-sunday.ensures in
    rw (
      c.from_residual-in_err-sunday.ensures,
      ← monday,
      ← tuesday,
      ← wednesday,
      ← thursday,
      ← friday,
      ← saturday,
      ← none,
    ) refl

pub returns : goal.returns
returns c =
    let monday = rw c.field.ensures at c.in_ok-monday.ensures in
    let tuesday = rw c.field-2.ensures at c.in_ok-tuesday.ensures in
    let wednesday = rw c.field-3.ensures at c.in_ok-wednesday.ensures in
    let thursday = rw c.field-4.ensures at c.in_ok-thursday.ensures in
    let friday = rw c.field-5.ensures at c.in_ok-friday.ensures in
    let saturday = rw c.field-6.ensures at c.in_ok-saturday.ensures in
    let sunday = rw c.field-7.ensures at c.in_ok-sunday.ensures in
    rw (← monday, ← tuesday, ← wednesday, ← thursday, ← friday, ← saturday, ← sunday) refl
