use Rattle.std.proofs.Common.{inl, inr, arith}
use Rattle.std.proofs.lemmas.Simd.{get_or-put_chunk_at, get_or-put_chunk_below, get_or-put_chunk_above}
use Rattle.trip_lanes.proofs.narrow.NarrowNarrowLabels.put.Goals as goal

pub returns-clause-put : goal.returns-clause-put
returns-clause-put c l h =
    get_or-put_chunk_at c.args.at c.args.found.now c.args.self l 0 (omega (arith, h)) (omega (arith, c.requires))

pub returns-clause-kept : goal.returns-clause-kept
returns-clause-kept c i elsewhere =
    elim elsewhere [
      | inl below ↦ get_or-put_chunk_below c.args.at c.args.found.now c.args.self i 0 below
      | inr above ↦ get_or-put_chunk_above c.args.at c.args.found.now c.args.self i 0 (omega (arith, above))
    ]
