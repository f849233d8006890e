use Rattle.std.proofs.Common.{◌≡◌, ℕ, ◌+◌, ◌*◌, ◌/◌, ◌%◌, [], inl, inr, List, length, slice_index, slice_index_or, sym}
use Rattle.std.proofs.Common.{subst, arith}
use Rattle.std.proofs.lemmas.Bool.{cases_lt}
use Rattle.useful_minutes.specs.CountedChunks.{IsDurationAt}
use Rattle.useful_minutes.specs.Waits.{label_at}
use Rattle.useful_minutes.proofs.FilledLabels.{position_before, next_chunks}
use Rattle.useful_minutes.proofs.counted.count_stops.Goals as goal

pub loop-stop-preserved : goal.loop-stop-preserved
loop-stop-preserved c =
    let old = c.loop-stop.invariant in
    let was = c.loop-stop.durations.items in
    let new = c.count_stop.new.durations.items in
    let told = c.in_ok-count_stop.ensures in
    let counting = c.args.counting in
    let chunks : ℕ = length counting.positions.now / 16 in
    let sixteens : length counting.positions.now ≡ 16 * chunks =
    let e = c.requires.counting.chunks.1 in omega (arith, e) in
    let stop = c.loop-stop.stop in
    record {
      size = omega (arith, told.size, old.size, next_chunks chunks stop);
      each = λ p m l h. elim (cases_lt p stop) [
        | inl lt ↦
            let before = position_before chunks p stop (m / 16) lt (omega (arith, h, sixteens)) in
            subst (λ (xs : List ℕ). IsDurationAt counting p m (slice_index xs (m % 16)))
            (sym (told.kept (p * chunks + m / 16) (omega (arith, before, old.size)))) (old.each p m lt h)
        | inr ge ↦
            let same : stop ≡ p = omega (arith, ge, l) in
            let minute : 16 * (m / 16) + m % 16 ≡ m = omega arith in
            let place : length was + m / 16 ≡ stop * chunks + m / 16 = omega (arith, old.size) in
            let added = told.added (m / 16) (m % 16) (omega (arith, h, sixteens)) (omega arith) in
            subst (λ (q : ℕ). IsDurationAt counting q m (label_at chunks new q m)) same
            (subst (λ (i : ℕ). IsDurationAt counting stop i (label_at chunks new stop m)) minute
            (subst (λ (i : ℕ). IsDurationAt counting stop (16 * (m / 16) + m % 16)
            (slice_index (slice_index_or new i []) (m % 16))) place added))
      ];
    }
