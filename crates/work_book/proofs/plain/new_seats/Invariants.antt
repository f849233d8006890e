use Rattle.std.proofs.Common.{◌≡◌, ◌≤◌, replicate, vec_capacity}
use Rattle.work_book.specs.Seat.{new_seat}
use Rattle.work_book.proofs.plain.new_seats.Given as goal

abbrev pub invariant-loop : goal.invariant-loop
invariant-loop l = record {
  seats : l.seats.items ≡ replicate l.counter new_seat;
  room : l.count ≤ vec_capacity l.seats;
}
