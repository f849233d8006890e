use Rattle.std.proofs.Common.{◌∙◌, ℕ, List, sym, ap, subst}
use Rattle.work_book.specs.Seat.{SeatState, IsAscending, has_drawn}
use Rattle.work_book.proofs.SearchByHalves.{found_where_it_stands}
use Rattle.work_book.proofs.seat.Seat.has_drawn.Goals as goal

pub returns : goal.returns
returns c =
    let up : IsAscending c.deref.result.now =
    subst (λ (xs : List ℕ). IsAscending xs) (sym c.deref.ensures.value) c.self.invariant in
    let found = found_where_it_stands c.deref.result.now c.args.number c.binary_search.result
    c.binary_search.ensures.position up in
    c.is_ok.ensures.value ∙ found ∙ ap (λ (xs : List ℕ). has_drawn c.args.number (record c.args.self.now {
      drawn =
          xs;
    })) (c.deref.ensures.value ∙ ap (λ (s : SeatState). s.drawn) c.self.view_is)
