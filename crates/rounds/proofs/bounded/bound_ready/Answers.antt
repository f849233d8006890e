use Rattle.std.proofs.Common.{rules, ◌≡◌, length, replicate, true, false, sym, ◌∙◌, arith}
use Rattle.std.proofs.lemmas.Bool.{false≢true}
use Rattle.std.proofs.lemmas.List.{get_or-replicate, length-replicate}
use Rattle.std.proofs.lemmas.Option.{get_or_from_slice_get, slice_get_within}
use Rattle.rounds.proofs.bounded.bound_ready.Goals as goal

pub returns-clause-none : goal.returns-clause-none
returns-clause-none g c p on =
    let stops = length c.args.fallen.now in
    let is : c.fill.new.self ≡ replicate stops false = c.fill.ensures.after (λ y h. search rules) in
    let on' = rw is at on in
    let within = slice_get_within (replicate stops false) p true on' in
    false≢true (sym (get_or-replicate stops p false false (omega (arith, within, length-replicate stops false)))
    ∙ get_or_from_slice_get (replicate stops false) p true false on')
