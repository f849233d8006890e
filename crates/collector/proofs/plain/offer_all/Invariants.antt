use Rattle.std.proofs.Common.{◌≡◌, ◌≤◌, ◌+◌, ◌++◌, length, vec_capacity}
use Rattle.std.specs.Vec.Iter.{into_iter_items}
use Rattle.collector.specs.Offers.{offered}
use Rattle.collector.specs.Plain.{merged, handed, book_steps}
use Rattle.collector.proofs.plain.offer_all.Given as goal

abbrev pub invariant-loop-step : goal.invariant-loop-step
invariant-loop-step l = record {
  answers : l.answers.items ++ merged l.collector (into_iter_items l.step-iterator) (into_iter_items l.of_book)
      ≡ merged l.fn.collector l.fn.steps.items l.fn.of_book.items;
  places : offered l.collector (handed (into_iter_items l.step-iterator))
      ≡ offered l.fn.collector (handed l.fn.steps.items);
  room : length l.answers.items + length (into_iter_items l.step-iterator) ≤ vec_capacity l.answers;
  told : length (into_iter_items l.of_book) ≡ length (book_steps (into_iter_items l.step-iterator));
}
