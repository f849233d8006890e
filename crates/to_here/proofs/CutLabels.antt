-- Labels that are cut past the mirrored first start are labels of their deadlines.
use Rattle.std.proofs.Common.{◌≡◌, inl, inr, ◌+◌, ◌-◌, subst, arith}
use Rattle.std.proofs.lemmas.Bool.{cases_lt}
use Rattle.timetable.specs.Journeys.{IsReached}
use Rattle.rounds.specs.Cut.{cut_net}
use Rattle.rounds.specs.State.{arrival}
use Rattle.rounds.proofs.CutDurations.{arrival_fits_to, cut_found, cut_least}
use Rattle.to_here.specs.Laws.{CutLabelsSuffice}

pub cut_labels_suffice : CutLabelsSuffice
cut_labels_suffice h m first time p k origin base cap since label ride ready ok there begun range counted live past s
    below at_cap =
    let fits =
    arrival_fits_to cap (cut_net base cap m) (record { stop = p; time = since }) k ride ready s origin there in
    let found = cut_found m ok base cap p since (h - time) counted live k ride ready s origin there in
    let least = cut_least m ok base cap p since (h - time) counted live k ride ready s origin there in
    elim (cases_lt (arrival ride ready origin) cap) [
      | inl l ↦
          let is = below l in
          let end : arrival ride ready origin + base ≡ h - time + label = omega (arith, is, counted) in
          record {
            holds = λ low. subst (IsReached m (record { stop = p; time = h - time }) k origin) end (found l);
            least = λ d r low. let early = least (h - time + d) r in omega (arith, early, end);
          }
      | inr g ↦
          let full : arrival ride ready origin ≡ cap = omega (arith, g, fits) in
          let long = at_cap full in
          record {
            holds = λ low. absurd (omega (arith, low, long, counted, past, begun, range));
            least = λ d r low.
                let early = least (h - time + d) r in
                absurd (omega (arith, early, full, low, past, begun, range));
          }
    ]
