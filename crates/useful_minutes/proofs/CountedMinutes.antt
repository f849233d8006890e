-- Durations that are counted from narrow labels, minute by minute.
use Rattle.std.proofs.Common.{◌≡◌, ◌≢◌, ℕ, ◌+◌, ◌-◌, ◌*◌, ◌/◌, ◌%◌, ◌^◌, ◌<◌, ◌≤◌, List, length, slice_index, sym, ◌∙◌}
use Rattle.std.proofs.Common.{ap, subst, arith}
use Rattle.timetable.specs.declared.least.TheConstants.{NEVER}
use Rattle.useful_minutes.specs.declared.counted.Counting.{Counting}
use Rattle.useful_minutes.specs.declared.counted.Source.{Source}
use Rattle.useful_minutes.specs.Counted.{AreCounted}
use Rattle.useful_minutes.specs.CountedChunks.{AreDurationsTo, IsSourceOf, HasLabels, IsCounting, IsDurationAt}
use Rattle.useful_minutes.specs.CountedChunks.{IsMore, base_at, found_at}
use Rattle.useful_minutes.specs.Waits.{label_at}
use Rattle.useful_minutes.specs.Eights.{TakesBoth, TakesNone}
use Rattle.useful_minutes.proofs.LabelsInOrder.{some_on}

-- the label that stands in for minute m at stop p; 0 past the window
pub record IsLabelAt (c : Counting) (p m label : ℕ) : Type 0 where
  pub live : m < c.minutes → label ≡ found_at c p m
  pub past : c.minutes ≤ m → label ≡ 0

-- the labels that eight minutes take are theirs
pub label_taken : (c : Counting) (p group : ℕ) (source : Source) (result : List ℕ) → IsCounting c →
    IsSourceOf c group source → 8 * group + 8 ≤ length c.positions.now
    → ((l k : ℕ) → l < 8 → k < 8 → TakesBoth source.order l k →
    slice_index result l ≡ slice_index c.found.labels.now (p * c.found.width + source.at + k))
    → ((l : ℕ) → l < 8 → TakesNone source.order l → slice_index result l ≡ 0)
    → (l m label : ℕ) → l < 8 → m ≡ 8 * group + l → label ≡ slice_index result l → IsLabelAt c p m label
label_taken c p group source result ok are within takes none l m label lt here is =
    let positions = c.positions.now in
    let on = some_on positions ok.steps (8 * group) l (omega (arith, lt, within)) in
    let k : ℕ = slice_index positions (8 * group + l) - slice_index positions (8 * group) in
    let there : k < 8 = omega (arith, on.1, lt) in
    let same : p * c.found.width + source.at + k ≡ p * c.found.width + slice_index positions (8 * group + l) =
    omega (arith, on.0, are.at) in
    let minute = ap (λ (i : ℕ). found_at c p i) here in
    record {
      live = λ live. is ∙ (takes l k lt there (are.order.takes l lt (omega (arith, live, here)))
          ∙ (ap (λ (i : ℕ). slice_index c.found.labels.now i) same ∙ sym minute));
      past = λ past. is ∙ none l lt (are.order.none l lt (omega (arith, past, here)));
    }

-- a duration by how much more it is than its label, where sums wrap
sum_since : (base depart label more : ℕ) → base < 16777216 → depart < 4294967296 → label < 65536 →
    depart ≤ base + label → more ≡ (base + (4294967296 - depart)) % 4294967296
    → (label + more) % 4294967296 + depart ≡ base + label
sum_since base depart label more b d l since e = omega (arith, b, d, l, since, e)

-- the duration of a minute, from the label that stands in for it
pub duration_of : (c : Counting) (p m label more duration : ℕ) → IsCounting c → HasLabels c p → label < 65536 →
    IsLabelAt c p m label → IsMore c m more → (label ≡ 65535 → duration ≡ NEVER)
    → (label ≢ 65535 → duration ≡ (label + more) % 2 ^ 32) → IsDurationAt c p m duration
duration_of c p m label more duration ok labels fits is by never sum =
    record {
      live = λ live.
          let e = is.live live in
          let base : base_at c m < 16777216 = ok.bases (slice_index c.positions.now m) 0 (ok.within m live) in
          let depart : c.first + 60 * m < 4294967296 = omega (arith, ok.first, ok.few, live) in
          record {
            never_so = λ far. never (e ∙ far);
            counted = λ near.
                let told : label ≢ 65535 = λ x. near (sym e ∙ x) in
                let since = labels.since m live near in
                let all = sum_since (base_at c m) (c.first + 60 * m) label more base depart fits (omega (arith, since, e))
                (by.live live) in
                omega (arith, all, e, sum told);
          };
      past = λ past.
          let zero = is.past past in
          let never_more = by.past past in
          let told : label ≢ 65535 = λ x. absurd (omega (arith, x, zero)) in
          omega (arith, sum told, zero, never_more);
    }

-- the durations of so many chunks are those of all minutes
pub all_counted : (c : Counting) (stops : ℕ) (durations : List (List ℕ)) → c.minutes ≤ length c.positions.now →
    AreDurationsTo c stops durations → AreCounted c.found.width c.found.labels.now c.found.bases.now c.positions.now
    c.first c.minutes stops durations
all_counted c stops durations few are =
    let chunks_are : (chunks : ℕ) → length c.positions.now ≡ 16 * chunks → length c.positions.now / 16 ≡ chunks =
    λ chunks e. omega (arith, e) in
    let each : (chunks p m : ℕ) → length c.positions.now ≡ 16 * chunks → p < stops → m < length c.positions.now →
    IsDurationAt c p m (label_at chunks durations p m) =
    λ chunks p m e lt within.
    subst (λ (w : ℕ). IsDurationAt c p m (label_at w durations p m)) (chunks_are chunks e) (are.each p m lt within) in
    record {
      size = λ chunks e. are.size ∙ ap (λ (w : ℕ). stops * w) (chunks_are chunks e);
      counted = λ chunks p m e lt l. (each chunks p m e lt (omega (arith, l, few))).live l;
      past = λ chunks p m e lt late within. (each chunks p m e lt within).past late;
    }
