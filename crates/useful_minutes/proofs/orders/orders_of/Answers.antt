use Rattle.std.proofs.Common.{◌≡◌, ◌+◌, ◌++◌, ◌∷◌, [], ℕ, inl, inr, sym, ap, ◌∙◌, subst, arith, length, slice_index_or}
use Rattle.std.proofs.lemmas.Bool.{cases_lt}
use Rattle.std.proofs.lemmas.List.{length_push, get_or_append_left, get_or-append-add}
use Rattle.useful_minutes.specs.Orders.{IsOrder}
use Rattle.useful_minutes.proofs.orders.orders_of.Goals as goal

pub loop-group-preserved : goal.loop-group-preserved
loop-group-preserved c =
    let old = c.loop-group.invariant in
    let orders = c.loop-group.orders.items in
    let order = c.order_of.result in
    let group = c.loop-group.group in
    rw c.in_ok-push.ensures.items (record {
      count = omega (arith, length_push orders order, old.count);
      each = λ k l. elim (cases_lt k group) [
        | inl lt ↦ subst (IsOrder c.args.positions.now k)
            (sym (get_or_append_left orders (order ∷ []) [] k (omega (arith, lt, old.count)))) (old.each k lt)
        | inr ge ↦
            let e : length orders + 0 ≡ k = omega (arith, ge, l, old.count) in
            let here : slice_index_or (orders ++ order ∷ []) k [] ≡ order =
            ap (λ (i : ℕ). slice_index_or (orders ++ order ∷ []) i []) (sym e)
            ∙ get_or-append-add orders (order ∷ []) 0 [] in
            let same : group ≡ k = omega (arith, ge, l) in
            subst (λ (i : ℕ). IsOrder c.args.positions.now i (slice_index_or (orders ++ order ∷ []) k [])) same
            (subst (IsOrder c.args.positions.now group) (sym here) c.order_of.ensures)
      ];
    })
