use Rattle.std.proofs.Common.{◌≡◌, ℕ, ◌≤◌, length, subst, sym, arith}
use Rattle.rounds.specs.Arrivals.{AreToldFrom, HaveRoomFor}
use Rattle.rounds.proofs.SearchedBatches.{few_departures}
use Rattle.rounds.proofs.narrow.run_narrow.Goals as goal

pub fit-requires-clause-width : goal.fit-requires-clause-width
fit-requires-clause-width c =
    let few = few_departures c.args.query.times.now c.requires.search.query.times in
    omega (arith, few)

pub loop-found-init : goal.loop-found-init
loop-found-init c =
    let q = c.args.query in
    let f = c.fit.new.self in
    let size = c.in_ok-fit.ensures.width in
    let none = c.in_ok-fit.ensures.from in
    let wide : length q.times.now ≤ f.width = omega (arith, size) in
    let past : length q.times.now ≤ f.from = omega (arith, none) in
    record {
      search = c.requires.search;
      whole = omega (arith, none);
      found = record {
        room = subst (λ (x : ℕ). HaveRoomFor x f.width f.labels.items f.bases.items) c.stops.ensures
            (subst (λ (x : ℕ). HaveRoomFor c.stops.result x f.labels.items f.bases.items) (sym size)
            c.in_ok-fit.ensures.room);
        wide = wide;
        few = omega (arith, size);
        within = omega (arith, size, none);
        departure = record {
          last = λ _. c.in_ok-bounds.ensures.departure;
          followed = λ more. absurd (omega (arith, more, past));
        };
        bounds = λ _. c.in_ok-bounds.ensures.bounds 65535;
        told = record {
          early = λ j le l. absurd (omega (arith, le, l, past));
          before = λ j le l. absurd (omega (arith, le, l, past));
          near = λ j le l. absurd (omega (arith, le, l, past));
          each = λ p j there le l. absurd (omega (arith, le, l, past));
        };
      };
    }

pub returns : goal.returns
returns c _ =
    let f = c.loop-found.found in
    let old = c.loop-found.invariant.found in
    let all : f.from ≡ 0 = omega (arith, c.loop-found-test.false) in
    record {
      room = old.room;
      wide = old.wide;
      told = subst (λ (x : ℕ). AreToldFrom c.args.query f.width f.labels.items f.bases.items x) all old.told;
    }
