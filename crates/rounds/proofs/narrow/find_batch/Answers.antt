use Rattle.std.proofs.Common.{◌≡◌, ℕ, ◌+◌, ◌-◌, ◌<◌, ◌≤◌, inl, inr, List, length, slice_index, ap, subst, sym, ◌∙◌, refl}
use Rattle.std.proofs.Common.{arith}
use Rattle.std.proofs.lemmas.Bool.{cases_lt}
use Rattle.useful_minutes.specs.Counted.{narrow_at}
use Rattle.rounds.specs.Arrivals.{IsTold}
use Rattle.rounds.specs.Batches.{AreBounds, departure_at}
use Rattle.rounds.specs.Searches.{arrival_in}
use Rattle.rounds.proofs.BoundedStops.{written}
use Rattle.rounds.proofs.narrow.find_batch.Goals as goal

pub returns-clause-found : goal.returns-clause-found
returns-clause-found g c _ =
    let q = c.args.query in
    let f = c.args.found.now in
    let lanes = g.R.LaneLabels.LANES in
    let from : ℕ = f.from - c.LANES.result in
    let same = c.LANES-2.ensures in
    let ends : from + lanes ≡ f.from = omega (arith, c.LANES.ensures, c.requires.some) in
    let old = c.requires.found in
    let found = c.write_found.ensures in
    let bases = c.write_bases.ensures in
    let had_labels = c.as_mut_slice-labels.ensures.value in
    let had_bases = c.as_mut_slice-bases.ensures.value in
    let labels_are = written f.labels c.write_found.new.found refl had_labels c.as_mut_slice-labels.ensures.len
    (found.same ∙ ap length had_labels) in
    let bases_are = written f.bases c.write_bases.new.bases refl had_bases c.as_mut_slice-bases.ensures.len
    (bases.same ∙ ap length had_bases) in
    let ready = c.in_ok-base.ensures.workspace.ready in
    let told = rw c.in-Some.is at c.in_ok-base.ensures.exact in
    record {
      room = rw (labels_are, bases_are) (record {
        places = omega (arith, old.room.places, found.same, ap length had_labels);
        many = omega (arith, old.room.many, bases.same, ap length had_bases);
      });
      wide = old.wide;
      few = old.few;
      within = omega (arith, old.within);
      departure = c.in_ok-base.ensures.departure;
      bounds = λ more. subst (λ (x : ℕ). AreBounds x q c.try_batch.new.bounds.departure
          c.try_batch.new.bounds.rounds.items)
          g.met.R.NarrowLabels.narrow (c.in_ok-base.ensures.bounds more);
      told = rw (labels_are, bases_are) (record {
        early = λ j le l. elim (cases_lt j f.from) [
          | inl lt ↦
              let k : ℕ = j - from in
              let place : from + k ≡ j = omega (arith, le) in
              let here = bases.written k (omega (arith, lt, place, ends, same)) in
              let at = ap (λ (x : ℕ). slice_index c.write_bases.new.bases x) place in
              omega (arith, here, at, told.early)
          | inr ge ↦
              let kept = bases.kept j (inr (omega (arith, ge, ends, same))) in
              let had = ap (λ (xs : List ℕ). slice_index xs j) had_bases in
              let early = old.told.early j ge l in
              omega (arith, kept, had, early)
        ];
        before = λ j le l. elim (cases_lt j f.from) [
          | inl lt ↦
              let k : ℕ = j - from in
              let place : from + k ≡ j = omega (arith, le) in
              let h : k < lanes = omega (arith, lt, place, ends) in
              let here = bases.written k (omega (arith, h, same)) in
              let at = ap (λ (x : ℕ). slice_index c.write_bases.new.bases x) place in
              let departure = ap (departure_at q) place in
              let before = told.before k h (omega (arith, place, l)) in
              omega (arith, here, at, departure, before)
          | inr ge ↦
              let kept = bases.kept j (inr (omega (arith, ge, ends, same))) in
              let had = ap (λ (xs : List ℕ). slice_index xs j) had_bases in
              let before = old.told.before j ge l in
              omega (arith, kept, had, before)
        ];
        near = λ j le l. elim (cases_lt j f.from) [
          | inl lt ↦
              let k : ℕ = j - from in
              let place : from + k ≡ j = omega (arith, le) in
              let h : k < lanes = omega (arith, lt, place, ends) in
              let here = bases.written k (omega (arith, h, same)) in
              let at = ap (λ (x : ℕ). slice_index c.write_bases.new.bases x) place in
              let departure = ap (departure_at q) place in
              let near = told.near k h (omega (arith, place, l)) in
              let never = g.met.R.NarrowLabels.narrow in
              omega (arith, here, at, departure, near, never)
          | inr ge ↦
              let kept = bases.kept j (inr (omega (arith, ge, ends, same))) in
              let had = ap (λ (xs : List ℕ). slice_index xs j) had_bases in
              let near = old.told.near j ge l in
              omega (arith, kept, had, near)
        ];
        each = λ p j there le l. elim (cases_lt j f.from) [
          | inl lt ↦
              let k : ℕ = j - from in
              let place : from + k ≡ j = omega (arith, le) in
              let h : k < lanes = omega (arith, lt, place, ends) in
              let base : c.in-Some.base ≡ slice_index c.write_bases.new.bases j =
              sym (bases.written k (omega (arith, h, same)))
              ∙ ap (λ (x : ℕ). slice_index c.write_bases.new.bases x) place in
              let label : arrival_in g.R.LaneLabels.labels c.try_batch.new.workspace k p
              ≡ narrow_at f.width c.write_found.new.found p j =
              sym (found.written k p h (omega (arith, there, ready)))
              ∙ ap (λ (x : ℕ). narrow_at f.width c.write_found.new.found p x) place in
              let is = told.each k p h (omega (arith, place, l)) there in
              subst (λ (x : ℕ). IsTold q 65535 (slice_index c.write_bases.new.bases j) (departure_at q j) p x) label
              (subst (λ (x : ℕ). IsTold q 65535 x (departure_at q j) p
              (arrival_in g.R.LaneLabels.labels c.try_batch.new.workspace k p)) base
              (subst (λ (x : ℕ). IsTold q 65535 c.in-Some.base (departure_at q x) p
              (arrival_in g.R.LaneLabels.labels c.try_batch.new.workspace k p)) place
              (subst (λ (x : ℕ). IsTold q x c.in-Some.base (departure_at q (from + k)) p
              (arrival_in g.R.LaneLabels.labels c.try_batch.new.workspace k p)) g.met.R.NarrowLabels.narrow is)))
          | inr ge ↦
              let after : from + lanes ≤ j = omega (arith, ge, ends) in
              let base = sym (bases.kept j (inr (omega (arith, after, same)))
              ∙ ap (λ (xs : List ℕ). slice_index xs j) had_bases) in
              let label = sym (found.kept p j (omega (arith, there, ready)) (omega (arith, l, old.wide)) (inr after)
              ∙ ap (λ (xs : List ℕ). narrow_at f.width xs p j) had_labels) in
              subst (λ (x : ℕ). IsTold q 65535 (slice_index c.write_bases.new.bases j) (departure_at q j) p x) label
              (subst (λ (x : ℕ). IsTold q 65535 x (departure_at q j) p (narrow_at f.width f.labels.items p j)) base
              (old.told.each p j there ge l))
        ];
      });
    }
