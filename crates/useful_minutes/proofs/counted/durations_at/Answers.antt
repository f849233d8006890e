use Rattle.std.proofs.Common.{◌≡◌, ◌≤◌, ◌<◌, ◌+◌, ◌-◌, ◌*◌, ℕ, [], inl, inr, length, slice_index, slice_index_or, sym, ap}
use Rattle.std.proofs.Common.{◌∙◌, arith}
use Rattle.std.proofs.lemmas.Bool.{cases_lt}
use Rattle.useful_minutes.specs.declared.counted.Chunk.{Chunk}
use Rattle.useful_minutes.proofs.CountedMinutes.{duration_of, label_taken}
use Rattle.useful_minutes.proofs.counted.durations_at.Goals as goal

pub returns : goal.returns
returns c l lt =
    let counting = c.args.counting in
    let stop = c.args.stop in
    let chunk = c.args.chunk in
    let none : Chunk = record {
      early = record { at = 0; order = [] };
      late = record { at = 0; order = [] };
      more = [];
    } in
    let here = slice_index_or c.args.chunks.now chunk none in
    let is = c.requires.chunks.each chunk none c.requires.chunk in
    let all = c.requires.counting.chunks.1 in
    let within : 16 * chunk + 16 ≤ length counting.positions.now =
    omega (arith, all, c.requires.chunks.count, c.requires.chunk) in
    let label = slice_index c.widened.result l in
    let more = slice_index here.more l in
    let duration = slice_index c.with_more.result l in
    let never = c.with_more.ensures.never l lt in
    let sum = c.with_more.ensures.sum l lt in
    elim (cases_lt l 8) [
      | inl low ↦
          let taken = c.taken-early.ensures in
          let same : label ≡ slice_index c.taken-early.result l =
          c.widened.ensures l lt ∙ c.both.ensures.early l low in
          let fits : label < 65536 = omega (arith, same, taken.small l low) in
          duration_of counting stop (16 * chunk + l) label more duration c.requires.counting c.requires.labels fits
          (label_taken counting stop (2 * chunk) here.early c.taken-early.result c.requires.counting is.early
          (omega (arith, within)) taken.takes taken.none l (16 * chunk + l) label low (omega arith) same)
          (is.more l lt) never sum
      | inr high ↦
          let taken = c.taken-late.ensures in
          let j : ℕ = l - 8 in
          let low : j < 8 = omega (arith, lt, high) in
          let place : 8 + j ≡ l = omega (arith, high) in
          let same : label ≡ slice_index c.taken-late.result j =
          c.widened.ensures l lt
          ∙ (ap (λ (i : ℕ). slice_index c.both.result i) (sym place) ∙ c.both.ensures.late j low) in
          let fits : label < 65536 = omega (arith, same, taken.small j low) in
          duration_of counting stop (16 * chunk + l) label more duration c.requires.counting c.requires.labels fits
          (label_taken counting stop (2 * chunk + 1) here.late c.taken-late.result c.requires.counting is.late
          (omega (arith, within)) taken.takes taken.none j (16 * chunk + l) label low (omega (arith, place)) same)
          (is.more l lt) never sum
    ]
