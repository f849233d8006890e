use Rattle.std.proofs.Common.{◌≡◌, ℕ, [], List, ltb, slice_index, slice_index_or, inl, inr, ap, subst, ◌∙◌, arith}
use Rattle.std.proofs.lemmas.Bool.{cases_lt}
use Rattle.std.proofs.Math.ListN.{set}
use Rattle.std.proofs.lemmas.List.{get_or-set_same, get_or-set_other}
use Rattle.label_cells.specs.Runs.{covers}
use Rattle.label_cells.specs.SplitRuns.{whole_at, rest_at, reached_at}
use Rattle.label_cells.proofs.SplitRunsInOneLane.{spans_there}
use Rattle.label_cells.proofs.split_runs.fill_covering.Goals as goal

pub covering_of-requires-clause-whole : goal.covering_of-requires-clause-whole
covering_of-requires-clause-whole c l h = c.requires.small.wholes l c.loop-i.i h c.loop-i-test.true

pub covering_of-requires-clause-span : goal.covering_of-requires-clause-span
covering_of-requires-clause-span c l h = spans_there c.args.rows.now l c.loop-i.i c.requires.small h c.loop-i-test.true

pub loop-i-preserved : goal.loop-i-preserved
loop-i-preserved c =
    let covering = c.loop-i.covering in
    let n = c.loop-i.i in
    let here = c.covering_of.result in
    let rows = c.args.rows.now in
    let at = c.args.at in
    record {
      each = λ i l seconds less h few. elim (cases_lt i n) [
        | inl before ↦
            ap (λ (xs : List ℕ). ltb (slice_index xs l) seconds) (get_or-set_other covering n i here [] (λ e. omega
            (arith, e, before)))
            ∙ c.loop-i.invariant.each i l seconds before h few
        | inr no_less ↦
            let e : n ≡ i = omega (arith, less, no_less) in
            subst (λ (k : ℕ). ltb (slice_index (slice_index_or (set covering n here) k []) l) seconds
            ≡ covers (slice_index at l) seconds (whole_at rows l k) (rest_at rows l k) (reached_at rows l k)) e
            (ap (λ (xs : List ℕ). ltb (slice_index xs l) seconds) (get_or-set_same covering n here [] (omega (
              arith,
              c.loop-i.auto.covering,
              c.requires.size,
              c.loop-i-test.true,
            )))
            ∙ c.covering_of.ensures l seconds h few)
      ];
    }
