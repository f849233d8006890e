use Rattle.std.proofs.Common.{◌≡◌, ℕ, ◌+◌, ◌*◌, ◌/◌, ◌%◌, ◌<◌, inl, inr, min, ◌∙◌, ap, subst, arith}
use Rattle.std.proofs.lemmas.Bool.{cases_lt}
use Rattle.useful_minutes.specs.Waits.{label_at}
use Rattle.useful_minutes.proofs.FilledLabels.{lanes_differ}
use Rattle.useful_minutes.proofs.walks.lower_stop.Goals as goal

pub loop-m-preserved : goal.loop-m-preserved
loop-m-preserved c =
    let old = c.loop-m.invariant in
    let told = c.lower_lane.ensures in
    let chunks = c.args.chunks in
    let stop = c.args.stop in
    let m = c.loop-m.m in
    let inside : m < 16 * chunks = omega (arith, c.loop-m-test.true, c.requires.chunks) in
    record {
      same = told.same ∙ old.same;
      lowered = λ k l. elim (cases_lt k m) [
        | inl lt ↦ told.kept (stop * chunks + k / 16) (k % 16)
            (lanes_differ chunks stop stop m k inside (omega (arith, lt, inside)) (inr (λ e. omega (arith, e, lt))))
            ∙ old.lowered k lt
        | inr ge ↦
            let e : m ≡ k = omega (arith, ge, l) in
            subst (λ (x : ℕ). label_at chunks c.lower_lane.new.labels stop x
            ≡ min (label_at chunks c.args.labels.now stop x) c.args.seconds) e
            (told.lowered ∙ ap (λ (x : ℕ). min x c.args.seconds) (old.kept stop m inside (inr (omega arith))))
      ];
      kept = λ p k l apart. elim apart [
        | inl other ↦ told.kept (p * chunks + k / 16) (k % 16) (lanes_differ chunks p stop m k inside l (inl other))
            ∙ old.kept p k l (inl other)
        | inr past ↦ told.kept (p * chunks + k / 16) (k % 16)
            (lanes_differ chunks p stop m k inside l (inr (λ e. omega (arith, e, past))))
            ∙ old.kept p k l (inr (omega (arith, past)))
      ];
    }
