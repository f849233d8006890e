use Rattle.std.proofs.Common.{rules, ◌≡◌, arith}
use Rattle.rounds.specs.Batches.{departure_at}
use Rattle.rounds.proofs.LastArrivals.{last_from}
use Rattle.rounds.proofs.search.Search.try_narrow.Goals as goal

pub run_narrow-requires : goal.run_narrow-requires
run_narrow-requires c =
    let q = c.args.query in
    let all : c.in_ok-self.field-0.items ≡ c.last_arrivals.result.now =
    c.in_ok-self.ensures.items_if_clones_equal (λ y h. search rules) in
    record {
      search = record {
        query = c.requires;
        ranks = λ k d l.
            let few = c.ranks_fit.ensures.0 c.if-not-ranks_fit.false in
            let h = c.longest-trips.ensures k d l in
            omega (arith, h, few);
        last_arrivals = record {
          none_later = rw all (last_from q.network.now c.known.ensures q.origin.0 (departure_at q 0) q.rides
              c.last_arrivals.result.now c.last_arrivals.ensures);
          few = rw all c.last_arrivals.ensures.early;
        };
      };
    }
