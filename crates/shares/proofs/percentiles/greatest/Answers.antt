use Rattle.std.proofs.Common.{◌≡◌, ◌≢◌, ◌%◌, ◌<◌, ℕ, [], max, slice_index, slice_index_or, inl, inr, sym, ◌∙◌, arith}
use Rattle.std.proofs.lemmas.Bool.{cases_lt}
use Rattle.std.proofs.lemmas.Simd.{get_or-replicate}
use Rattle.timetable.specs.declared.least.TheConstants.{NEVER}
use Rattle.shares.specs.Percentiles.{known_label}
use Rattle.shares.proofs.MinutesCounted.{never_known, reached_more}
use Rattle.shares.proofs.percentiles.greatest.Goals as goal

neither : (a b : ℕ) → a ≢ NEVER → b ≢ NEVER → max a b ≢ NEVER
neither a b x y e = elim (cases_lt a b) [ inl l ↦ y (omega (arith, e, l)) | inr g ↦ x (omega (arith, e, g)) ]

pub loop-batch-init : goal.loop-batch-init
loop-batch-init c = record {
  known = λ l h e. omega (arith, e, get_or-replicate {A = ℕ} 16 l 0 0 h);
  greatest = λ m d h is. absurd (omega (arith, h));
}

pub loop-batch-preserved : goal.loop-batch-preserved
loop-batch-preserved c =
    let b = c.loop-batch.batch-index in
    let lanes = c.args.lanes.now in
    let high = c.loop-batch.high in
    let higher = c.higher_of-higher.result in
    let row = slice_index_or lanes b [] in
    let new : (l : ℕ) → l < 16 → slice_index higher l ≡ max (slice_index high l) (known_label (slice_index row l)) =
    λ l h. c.higher_of-higher.ensures l h in
    record {
      known = λ l h e. neither (slice_index high l) (known_label (slice_index row l)) (c.loop-batch.invariant.known l h)
          (never_known (slice_index row l)) (sym (new l h) ∙ e);
      greatest = λ m d h is. reached_more lanes high higher b m d c.loop-batch.invariant.greatest (λ l k. let n =
          new l k in omega (arith, n)) (λ l k. let n = new l k in omega (arith, n)) h is;
    }

pub returns-clause-greatest : goal.returns-clause-greatest
returns-clause-greatest c m d h is =
    let low = c.loop-batch.invariant.greatest m d (omega (arith, h)) is in
    let top = c.greatest_lane.ensures.greatest (m % 16) (omega arith) in
    omega (arith, low, top)
