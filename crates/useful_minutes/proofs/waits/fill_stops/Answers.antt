use Rattle.std.proofs.Common.{◌≡◌, ℕ, ◌+◌, ◌*◌, ◌/◌, ◌%◌, inl, inr, List, length, slice_index, ◌∙◌, ap, subst, arith}
use Rattle.std.proofs.lemmas.Bool.{cases_lt}
use Rattle.useful_minutes.specs.Waits.{label_at, label_from, waited}
use Rattle.useful_minutes.proofs.FilledLabels.{position_before, next_chunks}
use Rattle.useful_minutes.proofs.waits.fill_stops.Goals as goal

pub loop-stop-preserved : goal.loop-stop-preserved
loop-stop-preserved c =
    let old = c.loop-stop.invariant in
    let told = c.fill_stop.ensures in
    let chunks : ℕ = length c.args.positions.now / 16 in
    let sixteens : length c.args.positions.now ≡ 16 * chunks = let e = c.requires.chunks.1 in omega (arith, e) in
    let stop = c.loop-stop.stop in
    record {
      same = told.same ∙ old.same;
      near = told.near ∙ old.near;
      filled = λ p m l h. elim (cases_lt p stop) [
        | inl lt ↦
            let before = position_before chunks p stop (m / 16) lt (omega (arith, h, sixteens)) in
            ap (λ (chunk : List ℕ). slice_index chunk (m % 16)) (told.kept (p * chunks + m / 16) (inl before))
            ∙ old.filled p m lt h
        | inr ge ↦
            let e : stop ≡ p = omega (arith, ge, l) in
            let position = slice_index c.args.positions.now m in
            let was : label_from (stop * chunks) c.loop-stop.labels position
            ≡ label_at chunks c.args.labels.now stop position =
            ap (λ (chunk : List ℕ). slice_index chunk (position % 16))
            (old.kept (stop * chunks + position / 16) (omega arith)) in
            subst (λ (q : ℕ). label_at chunks c.fill_stop.new.labels q m ≡ waited
            (label_at chunks c.args.labels.now q position) (slice_index c.args.waits.now m)) e
            (told.filled m h
            ∙ ap (λ (x : ℕ). waited x (slice_index c.args.waits.now m)) was)
      ];
      kept = λ i l.
          let next = next_chunks chunks stop in
          told.kept i (inr (omega (arith, l, next, sixteens))) ∙ old.kept i (omega (arith, l, next));
    }

pub returns : goal.returns
returns c =
    record {
      same = c.loop-stop.invariant.same;
      filled = λ chunks p m long there l.
          let e : length c.args.positions.now / 16 ≡ chunks = omega (arith, long) in
          subst (λ (w : ℕ). label_at w c.loop-stop.labels p m ≡ waited
          (label_at w c.args.labels.now p (slice_index c.args.positions.now m)) (slice_index c.args.waits.now m)) e
          (c.loop-stop.invariant.filled p m (omega (arith, there, c.loop-stop-test.false)) l);
    }
