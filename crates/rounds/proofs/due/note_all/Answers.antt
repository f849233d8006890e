use Rattle.std.proofs.Common.{◌≡◌, ◌≤◌, ℕ, inl, inr, slice_index, get_or, arith, subst}
use Rattle.std.proofs.lemmas.Bool.{cases_lt}
use Rattle.std.proofs.lemmas.Option.{get_or_from_slice_get}
use Rattle.rounds.proofs.due.note_all.Goals as goal

pub loop-line-preserved : goal.loop-line-preserved
loop-line-preserved c =
    record {
      earlier = λ line. let a = c.loop-line.invariant.earlier line in let b = c.note.ensures.earlier line in
          omega arith;
      new = λ k line position below at. elim (cases_lt k c.loop-line.line-index) [
        | inl lt ↦ let a = c.loop-line.invariant.new k line position lt at in let b = c.note.ensures.earlier line in
            omega arith
        | inr ge ↦
            let e : k ≡ c.loop-line.line-index = omega arith in
            let none : ℕ × ℕ = (0, 0) in
            let here : get_or c.args.row.now c.loop-line.line-index none ≡ (line, position) =
            get_or_from_slice_get c.args.row.now c.loop-line.line-index (line, position) none (rw e at at) in
            subst (λ (v : ℕ × ℕ). slice_index c.note.new.due v.0 ≤ v.1) here c.note.ensures.new
      ];
    }
