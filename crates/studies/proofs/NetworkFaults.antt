-- The network of one scenario after another.
use Rattle.std.proofs.Common.{◌≡◌, ◌<◌, ◌+◌, ◌∙◌, ℕ, List, [], ◌∷◌, ◌++◌, Some, map, length, drop, get_or, slice_get}
use Rattle.std.proofs.Common.{ap}
use Rattle.std.proofs.lemmas.List.{at_drop_more, take_more}
use Rattle.timetable.specs.declared.faults.NetFault.{NetFault}
use Rattle.gtfs_tables.specs.Feed.{FeedData}
use Rattle.service_days.specs.declared.run.Run.{Run}
use Rattle.scenarios.specs.Networks.{net_faults}
use Rattle.scenarios.specs.ScenarioData.{ScenarioData}
use Rattle.studies.specs.Parts.{network_faults}

-- the first of the scenarios that are left, and then the others
networks_more : (feed : FeedData) (runs : List Run) (xs : List ScenarioData) (k : ℕ) (x : ScenarioData) → k < length xs
    → network_faults feed runs k (drop k xs)
    ≡ map (λ e. (k, e)) (net_faults feed (get_or xs k x) runs) ++ network_faults feed runs (k + 1) (drop (k + 1) xs)
networks_more feed runs xs k x lt = at_drop_more (λ left. network_faults feed runs k left) xs k x lt

-- a network without fault
pub network_passed : (feed : FeedData) (runs : List Run) (xs : List ScenarioData) (k : ℕ) (x : ScenarioData) →
    k < length xs
    → net_faults feed (get_or xs k x) runs ≡ []
    → network_faults feed runs k (drop k xs) ≡ network_faults feed runs (k + 1) (drop (k + 1) xs)
network_passed feed runs xs k x lt none =
    networks_more feed runs xs k x lt
    ∙ ap (λ (faults : List NetFault). map (λ e. (k, e)) faults ++ network_faults feed runs (k + 1) (drop (k + 1) xs))
    none

first_mapped : (k : ℕ) (e : NetFault) (faults : List NetFault) (more : List (ℕ × NetFault)) →
    slice_get faults 0 ≡ Some e
    → slice_get (map (λ x. (k, x)) faults ++ more) 0 ≡ Some (k, e)
first_mapped k e [] more h = cc
first_mapped k e (x ∷ faults) more h = let same : x ≡ e = cc (h) in ap (λ (y : NetFault). Some (k, y)) same

-- a network with a first fault
pub network_told : (feed : FeedData) (runs : List Run) (xs : List ScenarioData) (k : ℕ) (x : ScenarioData)
    (e : NetFault) → k < length xs
    → slice_get (net_faults feed (get_or xs k x) runs) 0 ≡ Some e →
    slice_get (network_faults feed runs k (drop k xs)) 0 ≡ Some (k, e)
network_told feed runs xs k x e lt h =
    ap (λ (faults : List (ℕ × NetFault)). slice_get faults 0) (networks_more feed runs xs k x lt)
    ∙ first_mapped k e (net_faults feed (get_or xs k x) runs) (network_faults feed runs (k + 1) (drop (k + 1) xs)) h

pub ruleset networks = (network_passed, network_told, take_more)
