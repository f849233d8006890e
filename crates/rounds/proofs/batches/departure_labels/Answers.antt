use Rattle.std.proofs.Common.{◌≡◌, ◌≢◌, ℕ, ◌+◌, ◌*◌, ◌<◌, inl, inr, slice_index, sym, ◌∙◌, subst, arith}
use Rattle.std.proofs.lemmas.Bool.{cases_lt}
use Rattle.rounds.specs.Batches.{IsDepartureLabel}
use Rattle.rounds.proofs.SearchedBatches.{no_sooner}
use Rattle.rounds.proofs.batches.departure_labels.Goals as goal
use Rattle.rounds.proofs.batches.departure_labels.Goals.{then-from-l, else-from-l}

pub overflow_sub-time : goal.overflow_sub-time
overflow_sub-time g c =
    let q = c.args.query in
    let s = no_sooner q.times.now c.requires.query.times c.args.from c.loop-l.l c.if-from-l.true in
    omega (arith, s, c.requires.base)

pub alight-departures-requires-clause-arrive : goal.alight-departures-requires-clause-arrive
alight-departures-requires-clause-arrive g c =
    let r = c.requires.range c.loop-l.l (omega (arith, c.loop-l-test.true, c.LANES-lanes.ensures)) c.if-from-l.true in
    omega (arith, r)

pub loop-l-preserved : goal.loop-l-preserved
loop-l-preserved g c =
    let q = c.args.query in
    let lanes = g.R.LaneLabels.LANES in
    let labels = g.R.LaneLabels.labels in
    let old = c.loop-l.invariant in
    let l = c.loop-l.l in
    let here : l < lanes = omega (arith, c.loop-l-test.true, c.LANES-lanes.ensures) in
    let number : (k : ℕ) → k < lanes → slice_index (labels c.minutely-numbers.result) k ≡ 60 * k =
    λ k h. (let e = (c.minutely-numbers.ensures k h).live (omega (arith, h, c.LANES-lanes.ensures)) in
    omega (arith, e)) in
    elim c.if-from-l.branch [
      | then-from-l w ↦
          let s = no_sooner q.times.now c.requires.query.times c.args.from l w.if-from-l.true in
          let told = w.alight-departures.ensures in
          let same : (k : ℕ) → k < lanes → k ≢ l →
          slice_index (labels w.alight-departures.result) k ≡ slice_index (labels c.loop-l.departures) k =
          λ k h ne. told.others k h (λ e. let n = number k h in ne (omega (arith, e, n))) in
          rw w.departures-is (record {
            done = λ k below h. elim (cases_lt k l) [
              | inl lt ↦ subst (λ (x : ℕ). IsDepartureLabel q.times.now c.args.base g.R.LaneLabels.NEVER
                  (c.args.from + k) x) (sym (same k h (λ e. omega (arith, e, lt)))) (old.done k lt h)
              | inr ge ↦
                  let e : l ≡ k = omega (arith, ge, below) in
                  let is = told.rides l here (number l here) in
                  subst (λ (j : ℕ). IsDepartureLabel q.times.now c.args.base g.R.LaneLabels.NEVER (c.args.from + j)
                  (slice_index (labels w.alight-departures.result) j)) e (record {
                    used = λ _. omega (arith, is, s, c.requires.base);
                    unused = λ past. absurd (omega (arith, past, w.if-from-l.true));
                  })
            ];
            rest = λ k from h. same k h (λ e. omega (arith, e, from)) ∙ old.rest k (omega (arith, from)) h;
          })
      | else-from-l w ↦
          rw w.departures-is (record {
            done = λ k below h. elim (cases_lt k l) [
              | inl lt ↦ old.done k lt h
              | inr ge ↦
                  let e : l ≡ k = omega (arith, ge, below) in
                  record {
                    used = λ some. absurd (omega (arith, some, w.if-from-l.false, e));
                    unused = λ _. old.rest k (omega (arith, e)) h;
                  }
            ];
            rest = λ k from h. old.rest k (omega (arith, from)) h;
          })
    ]
