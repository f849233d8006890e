-- How one more deadline moves a front, and which durations a front gives in the end.
use Rattle.std.proofs.Common.{◌≡◌, inl, inr, ℕ, ◌+◌, ◌<◌, ◌≤◌, min, List, [], ◌∷◌, ◌++◌, length, slice_index, refl}
use Rattle.std.proofs.Common.{sym, ◌∙◌, ap, subst, arith}
use Rattle.std.proofs.lemmas.Bool.{cases_lt}
use Rattle.std.proofs.lemmas.List.{get_or_append_left, get_or_push, length_push}
use Rattle.timetable.specs.Least.{IsLeastOrNever}
use Rattle.timetable.specs.Journeys.{IsDuration}
use Rattle.rounds.specs.declared.window.Window.{Window}
use Rattle.rounds.specs.Window.{departure}
use Rattle.reversal.specs.ReadOut.{IsServedBy, until_served}
use Rattle.reversal.proofs.DurationsReadOut.{first_is_late, first_serves, read_out}
use Rattle.to_here.specs.Front.{IsFilled, IsFront}
use Rattle.to_here.specs.Laws.{FrontsGiveDurations, FullFrontsAreEnough}
use Rattle.to_here.proofs.UntilServed.{until_kept, until_more, until_never}

module _ (w : Window) (times labels : List ℕ) (front to time label : ℕ) (old new : List ℕ)
    (f : IsFront w times labels front old) (low : front ≤ to) (high : to ≤ w.minutes)
    (serves : (m : ℕ) → front ≤ m → m < to → departure w m + label ≤ time)
    (late : (m : ℕ) → to ≤ m → m < w.minutes → time < departure w m + label)
    (filled : IsFilled w time front to old new) where
  abbrev pub longer : List ℕ
  longer = times ++ time ∷ []

  abbrev pub longer_labels : List ℕ
  longer_labels = labels ++ label ∷ []

  one_more : length longer ≡ length times + 1
  one_more = length_push times time

  -- a deadline that served before still does
  still : (m j : ℕ) → IsServedBy times labels j (departure w m) → IsServedBy longer longer_labels j (departure w m)
  still m j s =
      let time_at : slice_index longer j ≡ slice_index times j = get_or_append_left times (time ∷ []) 0 j s.0 in
      let label_at : slice_index longer_labels j ≡ slice_index labels j =
      get_or_append_left labels (label ∷ []) 0 j (omega (arith, s.0, f.labelled)) in
      (omega (arith, s.0, one_more), omega (arith, s.1, time_at, label_at))

  -- the new deadline serves up to the new front
  now : (m : ℕ) → front ≤ m → m < to → IsServedBy longer longer_labels (length times) (departure w m)
  now m le l =
      let time_at : slice_index longer (length times) ≡ time = get_or_push times time 0 (length times) refl in
      let label_at : slice_index longer_labels (length times) ≡ label =
      get_or_push labels label 0 (length times) f.labelled in
      (omega (arith, one_more), let s = serves m le l in omega (arith, s, time_at, label_at))

  -- no deadline serves beyond it
  none : (m j : ℕ) → to ≤ m → m < w.minutes → IsServedBy longer longer_labels j (departure w m) → ⊥
  none m j le l s = elim (cases_lt j (length times)) [
    | inl before ↦
        let time_at : slice_index longer j ≡ slice_index times j = get_or_append_left times (time ∷ []) 0 j before in
        let label_at : slice_index longer_labels j ≡ slice_index labels j =
        get_or_append_left labels (label ∷ []) 0 j (omega (arith, before, f.labelled)) in
        f.unserved m j (omega (arith, low, le)) l (before, omega (arith, s.1, time_at, label_at))
    | inr past ↦
        let last : length times ≡ j = omega (arith, past, s.0, one_more) in
        let time_at : slice_index longer j ≡ time = get_or_push times time 0 j last in
        let label_at : slice_index longer_labels j ≡ label =
        get_or_push labels label 0 j (omega (arith, last, f.labelled)) in
        let not_yet = late m le l in
        omega (arith, s.1, time_at, label_at, not_yet)
  ]

  duration : (m : ℕ) → m < w.minutes → slice_index new m ≡ until_served longer longer_labels (departure w m)
  duration m l =
      let d = departure w m in
      elim (cases_lt m front) [
        | inl before ↦
            let s = f.served m before in
            filled.outside m (inl before)
            ∙ (f.duration m l
            ∙ sym (until_kept times labels (time ∷ []) (label ∷ []) d s.0 f.labelled s.1))
        | inr ge ↦
            let waits = until_more times labels (time ∷ []) (label ∷ []) d f.labelled (λ j s. f.unserved m j ge l s) in
            elim (cases_lt m to) [
              | inl inside ↦
                  filled.inside m ge inside
                  ∙ sym (waits ∙ first_serves time label [] [] d (serves m ge inside))
              | inr past ↦
                  filled.outside m (inr past)
                  ∙ (f.duration m l
                  ∙ (until_never times labels d (λ j s. f.unserved m j ge l s)
                  ∙ sym (waits ∙ first_is_late time label [] [] d (late m past l))))
            ]
      ]

  pub front_more : IsFront w longer longer_labels to new
  front_more =
      record {
        labelled = length_push labels label ∙ (ap (λ n. n + 1) f.labelled ∙ sym one_more);
        minutes = filled.minutes ∙ f.minutes;
        within = high;
        served = λ m l. elim (cases_lt m front) [
          | inl before ↦ let s = f.served m before in (s.0, still m s.0 s.1)
          | inr ge ↦ (length times, now m ge l)
        ];
        unserved = none;
        duration = duration;
      }

pub fronts_give_durations : FrontsGiveDurations
fronts_give_durations h n mirrored w through p k origin front walk times labels durations are enough f walks m l =
    subst (λ (d : ℕ). IsLeastOrNever (IsDuration n origin (departure w m) k p) (min walk d)) (sym (f.duration m l))
    (read_out h n mirrored times labels w.first through origin (departure w m) k p walk are.net are.axis are.horizon
    are.mirror (omega arith) (are.departures m l) are.searched (enough m l) walks)

pub full_fronts_are_enough : FullFrontsAreEnough
full_fronts_are_enough h n mirrored w through p k origin front end label last times labels durations f range final
    labelled ends reached m l =
    elim (cases_lt m front) [
      | inl before ↦ inr (inl (f.served m before))
      | inr ge ↦ inr (inr (record {
        end = end;
        label = label;
        range = range;
        last = final;
        labelled = labelled;
        unserved = ends.unserved m (omega (arith, ge, reached)) l;
      }))
    ]
