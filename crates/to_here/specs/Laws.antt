-- Which labels searches from the deadlines have to give, when they may stop, and which durations follow.
-- Letters: h horizon, n network, w window, m its departure, k rides at most, p destination.
use Rattle.std.specs.Prelude.{◌≡◌, ◌⊎◌, ℕ, ◌+◌, ◌-◌, ◌<◌, ◌≤◌, List, min, slice_index}
use Rattle.timetable.specs.Least.{IsLeastOrNever}
use Rattle.timetable.specs.Journeys.{IsDuration}
use Rattle.timetable.specs.Networks.{Net, IsNet}
use Rattle.rounds.specs.declared.window.Window.{Window}
use Rattle.rounds.specs.CappedLabels.{LaneStateTo}
use Rattle.rounds.specs.Cut.{cut_net}
use Rattle.rounds.specs.State.{arrival}
use Rattle.rounds.specs.Window.{departure}
use Rattle.reversal.specs.Deadlines.{IsDeadline, IsWalkAlone}
use Rattle.reversal.specs.ReadOut.{IsDeadlineLabel}
use Rattle.to_here.specs.Front.{IsFront, IsFrontOf}
use Rattle.to_here.specs.Searched.{AreEnough, AreSearchedFor}

-- a law: let the labels of a search from p count from a base, up to a cap past the mirrored first start. Then the
-- seconds from the mirrored deadline to an origin's label are a label of the deadline; if the label is the cap, any
-- number that is no less will do
abbrev pub CutLabelsSuffice : Type 0
CutLabelsSuffice =
    (h : ℕ) (mirrored : Net) (first time p k origin base cap since label : ℕ) (ride ready : List ℕ) → IsNet mirrored →
    origin < mirrored.stops → first ≤ time → time ≤ h → since + base ≡ h - time → (0 < since) ⊎ (base ≡ 0) →
    h < base + cap + first →
    LaneStateTo cap (cut_net base cap mirrored) (record { stop = p; time = since }) k ride ready →
    (arrival ride ready origin < cap → label + since ≡ arrival ride ready origin) →
    (arrival ride ready origin ≡ cap → cap ≤ label + since) →
    IsDeadlineLabel h mirrored first p k origin time label

-- a law: once enough deadlines were searched, the least duration of each departure is the lesser of its duration in the
-- front and a walk alone
abbrev pub FrontsGiveDurations : Type 0
FrontsGiveDurations =
    (h : ℕ) (n mirrored : Net) (w : Window) (through p k origin front walk : ℕ) (times labels durations : List ℕ) →
    AreSearchedFor h n mirrored w through p k origin times labels →
    AreEnough h n mirrored w through p k origin times labels → IsFront w times labels front durations →
    IsLeastOrNever (IsWalkAlone n.feet.walks origin p) walk → (m : ℕ) → m < w.minutes →
    IsLeastOrNever (IsDuration n origin (departure w m) k p) (min walk (slice_index durations m))

-- a law: they are enough if the front has reached the last front, which is that of a time no deadline is later than
abbrev pub FullFrontsAreEnough : Type 0
FullFrontsAreEnough =
    (h : ℕ) (n mirrored : Net) (w : Window) (through p k origin front end label last : ℕ)
    (times labels durations : List ℕ) → IsFront w times labels front durations →
    end ≤ h → ((time : ℕ) → IsDeadline n p time → time ≤ end) →
    IsDeadlineLabel h mirrored w.first p k origin end label → IsFrontOf w end label last → last ≤ front →
    AreEnough h n mirrored w through p k origin times labels
