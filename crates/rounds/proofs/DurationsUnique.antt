-- The durations of a window are unique.
use Rattle.std.proofs.Common.{◌≡◌, ◌<◌, ◌+◌, ◌*◌, ◌/◌, ◌%◌, ℕ, zero, suc, List, Option, Some, None, length}
use Rattle.std.proofs.Common.{slice_index_or, refl, sym, ap, ◌∙◌, subst, arith}
use Rattle.std.proofs.Math.Nat.{div-lt_iff_lt-mul, mod-lt}
use Rattle.std.proofs.lemmas.List.{ext_get_or}
use Rattle.std.proofs.lemmas.Nat.{div-add-mod'}
use Rattle.timetable.proofs.LeastUnique.{least_unique}
use Rattle.timetable.specs.Journeys.{IsDuration}
use Rattle.rounds.specs.Table.{at, IsLeastOrNone}
use Rattle.rounds.specs.Window.{departure}
use Rattle.rounds.specs.Laws.{DurationsAreUnique}

-- two least numbers of a kind are equal, and so are two that aren't there
pub option_unique : (P : ℕ → Type 0) (a b : Option ℕ) → IsLeastOrNone P a → IsLeastOrNone P b → a ≡ b
option_unique P None None h g = refl
option_unique P None (Some n) h g = absurd (h n g.holds)
option_unique P (Some m) None h g = absurd (g m h.holds)
option_unique P (Some m) (Some n) h g = ap Some (least_unique m n h g)

some_minute : (stops minutes i : ℕ) → i < stops * minutes → 0 < minutes
some_minute stops zero i h = omega arith
some_minute stops (suc minutes) i h = omega arith

-- lists that agree at each stop and minute are equal
same_positions : (stops minutes : ℕ) (xs ys : List (Option ℕ)) → length xs ≡ stops * minutes →
    length ys ≡ stops * minutes
    → ((p m : ℕ) → p < stops → m < minutes →
    slice_index_or xs (p * minutes + m) None ≡ slice_index_or ys (p * minutes + m) None) → xs ≡ ys
same_positions stops minutes xs ys long too agree =
    ext_get_or None xs ys (long ∙ sym too) (λ i below.
    let low : i < stops * minutes = omega (arith, long) in
    let some = some_minute stops minutes i low in
    let there = agree (i / minutes) (i % minutes) ((div-lt_iff_lt-mul some).1 low) (mod-lt i some) in
    subst (λ k. slice_index_or xs k None ≡ slice_index_or ys k None) (div-add-mod' i minutes) there)

pub durations_unique : DurationsAreUnique
durations_unique n origin w k s t a b =
    let stops : s.stops ≡ t.stops = a.stops ∙ sym b.stops in
    let minutes : s.minutes ≡ t.minutes = a.minutes ∙ sym b.minutes in
    let size : length t.durations ≡ s.stops * s.minutes = b.size.size ∙ sym (λ i. stops i * minutes i) in
    let each = λ (p m : ℕ) (in_stops : p < s.stops) (in_minutes : m < s.minutes).
    option_unique (IsDuration n origin (departure w m) k p) (at s p m) (at t p m) (a.each p m in_stops in_minutes)
    (b.each p m (subst (λ x. p < x) stops in_stops) (subst (λ x. m < x) minutes in_minutes))
    ∙ ap (λ x. slice_index_or t.durations (p * x + m) None) (sym minutes) in
    let durations = same_positions s.stops s.minutes s.durations t.durations a.size.size size each in
    λ i. record { stops = stops i; minutes = minutes i; durations = durations i }
