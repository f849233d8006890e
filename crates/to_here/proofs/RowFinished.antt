-- The durations of a finished row are the least ones.
use Rattle.std.proofs.Common.{◌≡◌, ◌<◌, ℕ, List, length, map, min, slice_index, sym, ◌∙◌, ap, subst, arith}
use Rattle.std.proofs.lemmas.List.{get_or-map}
use Rattle.std.proofs.lemmas.Option.{slice_get_within}
use Rattle.timetable.specs.Least.{IsLeastOrNever}
use Rattle.timetable.specs.Journeys.{IsDuration}
use Rattle.timetable.specs.Networks.{Net}
use Rattle.rounds.specs.declared.window.Window.{Window}
use Rattle.rounds.specs.Window.{departure}
use Rattle.reversal.specs.Deadlines.{IsWalkAlone}
use Rattle.to_here.specs.declared.row.OriginDurations.{OriginDurations}
use Rattle.to_here.specs.Front.{IsFront}
use Rattle.to_here.specs.Row.{AreLowered, IsFinished}
use Rattle.to_here.specs.Searched.{AreEnough, AreSearchedFor}
use Rattle.to_here.proofs.FrontsGrow.{fronts_give_durations}

-- and so are those of one origin
pub origin_finished : (walk h : ℕ) (n mirrored : Net) (w : Window) (through p k o : ℕ) (times labels : List ℕ)
    (x y : OriginDurations) → AreSearchedFor h n mirrored w through p k o times labels →
    AreEnough h n mirrored w through p k o times labels → IsFront w times labels x.front x.durations.items →
    IsLeastOrNever (IsWalkAlone n.feet.walks o p) walk → y.durations.items ≡ map (min walk) x.durations.items →
    (m : ℕ) → m < w.minutes →
    IsLeastOrNever (IsDuration n o (departure w m) k p) (slice_index y.durations.items m)
origin_finished walk h n mirrored w through p k o times labels x y are enough f alone lowered m l =
    let within : m < length x.durations.items = omega (arith, l, f.minutes) in
    let value : slice_index y.durations.items m ≡ min walk (slice_index x.durations.items m) =
    ap (λ ds. slice_index ds m) lowered ∙ get_or-map (min walk) x.durations.items m 0 0 within in
    subst (IsLeastOrNever (IsDuration n o (departure w m) k p)) (sym value)
    (fronts_give_durations h n mirrored w through p k o x.front walk times labels x.durations.items are enough f alone
    m l)

pub row_finished : (walks : List ℕ) (old new : List OriginDurations) → length new ≡ length old →
    AreLowered walks old new → IsFinished walks old new
row_finished walks old new count lowered h n mirrored w through p k times labels searched stops fronts walked =
    record {
      origins = count ∙ stops;
      each = λ o m y at l.
          let was = lowered o y at in
          let x = was.0 in
          let low : o < n.stops = omega (arith, slice_get_within old o x was.1, stops) in
          let are = searched.searched o low in
          let alone = walked.each o (omega (arith, low, are.net.in_range.lists)) in
          origin_finished (slice_index walks o) h n mirrored w through p k o times (labels o) x y are
          (searched.enough o low) (fronts o x was.1) alone was.2 m l;
    }
