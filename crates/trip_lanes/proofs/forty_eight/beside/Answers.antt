use Rattle.std.proofs.Common.{◌≡◌, ◌+◌, inl, arith, ◌∙◌}
use Rattle.trip_lanes.proofs.forty_eight.beside.Goals as goal

pub returns-clause-front : goal.returns-clause-front
returns-clause-front c l h =
    let place : 0 + l ≡ l = omega arith in
    c.put-2.ensures.kept l (inl h) ∙ rw place at (c.put.ensures.put l h)

pub returns-clause-back : goal.returns-clause-back
returns-clause-back c l h = c.put-2.ensures.put l h
