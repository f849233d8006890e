use Rattle.std.proofs.Common.{◌≡◌, ◌≤◌, ◌++◌, ℕ, List, length, take, drop, slice_index, append-nil}
use Rattle.std.proofs.Common.{ap, sym, ◌∙◌, inl, inr, subst, arith}
use Rattle.std.proofs.Math.ListN.{drop_of_length-le}
use Rattle.std.proofs.Math.Seq.{take-length}
use Rattle.timetable.specs.LastArrivals.{Comes}
use Rattle.timetable.proofs.last_arrivals.last_arrivals_of.Goals as goal

-- what was lent whole comes back whole
come_back : (n : ℕ) (xs ws : List ℕ) → n ≡ length xs → length ws ≡ length xs → take n (ws ++ drop (length ws) xs) ≡ ws
come_back n xs ws all same =
    ap (λ (l : List ℕ). take n (ws ++ l)) (drop_of_length-le xs (omega (arith, same)))
    ∙ (ap (take n) (append-nil ws) ∙ (ap (λ (k : ℕ). take k ws) (all ∙ sym same) ∙ take-length ws))

pub returns : goal.returns
returns c =
    let ridden = c.note_rides.new.ridden in
    let last = c.note_walks.new.last in
    let many : length ridden ≡ length c.in_ok-ridden.ridden.items =
    omega (arith, ap length c.as_mut_slice.ensures.value, c.note_rides.auto.ridden) in
    let noted : c.as_slice.result.now ≡ ridden =
    c.as_slice.ensures.value ∙ come_back c.in_ok-ridden.ridden.len c.in_ok-ridden.ridden.items
    ridden c.in_ok-ridden.ridden.ok.0 many in
    let size : length last ≡ length c.in_ok-last.last.items =
    omega (arith, ap length c.as_mut_slice-2.ensures.value, c.note_walks.auto.last) in
    let same = come_back c.in_ok-last.last.len c.in_ok-last.last.items last c.in_ok-last.last.ok.0 size in
    rw same (record {
      size = omega (
        arith,
        size,
        many,
        ap length noted,
        c.in_ok-last.last.ok.0,
        c.in_ok-ridden.ridden.ok.0,
        c.in_ok-last.ensures.len,
        c.in_ok-ridden.ensures.len,
        c.deref.ensures.len,
        c.stops.ensures,
      );
      comes = λ p time a.
          let low : time ≤ slice_index ridden p = c.note_rides.ensures.last p time a in
          let up = rw noted at (c.note_walks.ensures.rides p) in
          omega arith;
      walks = λ p time w.
          let low : w.arrival ≤ slice_index ridden w.from = c.note_rides.ensures.last w.from w.arrival w.comes in
          let up = rw noted at (c.note_walks.ensures.walks w.from p w.seconds w.foot) in
          omega (arith, w.time_is);
      some = λ p. elim (rw noted at (c.note_walks.ensures.some p)) [
        | inl e ↦ inl (subst (λ (n : ℕ). Comes c.args.trips.now p n) (sym e) (c.note_rides.ensures.some p))
        | inr y ↦ inr (record {
          from = y.0;
          arrival = slice_index ridden y.0;
          seconds = y.1;
          comes = c.note_rides.ensures.some y.0;
          foot = y.2;
          time_is = y.3;
        })
      ];
      early = c.note_walks.ensures.early;
    })
