-- Labels before that are kept as a stop first falls.
use Rattle.std.proofs.Common.{◌≡◌, ◌≢◌, ℕ, ◌<◌, ◌≤◌, inl, inr, List, Bool, length, get_or, set, slice_index, slice_get}
use Rattle.std.proofs.Common.{Some, true, sym, ◌∙◌, arith}
use Rattle.std.proofs.lemmas.Bool.{cases_eq, cases_lt}
use Rattle.std.proofs.lemmas.List.{get_or_past, length-map}
use Rattle.std.proofs.lemmas.Option.{slice_get_within}
use Rattle.timetable.specs.RoundSteps.{Lowers}
use Rattle.trip_lanes.specs.Lane.{lane, labels_in, MarksFallenOf}
use Rattle.trip_lanes.specs.Falls.{AreNoted}
use Rattle.trip_lanes.proofs.TripInOneLane.{lane_falls}
use Rattle.trip_lanes.proofs.WrittenLanes.{row_old, row_new, row_other}

-- the labels of a stop are lowered to these times, and it is noted where one fell
module _ {A : Type 0} (labels : A → List ℕ) (was : List ℕ) (ready low kept : List A) (fallen noted : List Bool)
    (s lanes l : ℕ) (old times : A)
    (falls : (m : ℕ) → m < lanes → Lowers (λ p x. (p ≡ s) × (x ≡ slice_index (labels times) m))
    (lane m (labels_in labels ready)) (lane m (labels_in labels low)))
    (marks : MarksFallenOf lanes (labels_in labels ready) (labels_in labels low) fallen noted)
    (same : length fallen ≡ length ready) (within : l < lanes) (read : old ≡ get_or ready s old)
    (in_ready : s < length ready)
    (are : AreNoted was (lane l (labels_in labels ready)) (lane l (labels_in labels kept)) fallen) where
  long : (m : ℕ) → length (lane m (labels_in labels ready)) ≡ length ready
  long m = length-map (labels_in labels ready) (λ w. slice_index w m) ∙ length-map ready labels

  -- where a stop isn't noted, its label stays
  stays : (p : ℕ) → (slice_get noted p ≡ Some true → ⊥) → slice_index (lane l (labels_in labels low)) p
      ≡ slice_index was p
  stays p out =
      let a = lane l (labels_in labels ready) in
      let b = lane l (labels_in labels low) in
      elim (cases_lt p (length fallen)) [
        | inl lt ↦
            let still = are.still p (λ on. out ((marks.marks p lt).1 (inl on))) in
            elim (cases_lt (slice_index b p) (slice_index a p)) [
              | inl fell ↦ absurd (out ((marks.marks p lt).1 (inr (l, within, fell))))
              | inr ge ↦ let down = lane_falls a b (falls l within) p in omega (arith, still)
            ]
        | inr ge ↦
            let still = are.still p (λ on. let in_range = slice_get_within fallen p true on in omega arith) in
            let past = get_or_past a p 0 (omega (arith, long l, same)) in
            let down = lane_falls a b (falls l within) p in
            omega (arith, still, past)
      ]

  -- another stop that is noted was noted before
  noted_else : (p : ℕ) → p ≢ s → slice_get noted p ≡ Some true → slice_get fallen p ≡ Some true
  noted_else p ne on =
      let in_range : p < length fallen = omega (arith, slice_get_within noted p true on, marks.same_length) in
      elim ((marks.marks p in_range).0 on) [
        | inl is ↦ is
        | inr fell ↦ elim ((falls fell.0 fell.1).label p (omega (arith, long fell.0, same))).holds [
          | inl e ↦ absurd (omega (arith, e, fell.2))
          | inr o ↦ absurd (ne o.0)
        ]
      ]

  -- its labels before are kept at its first fall
  pub noted_first : (slice_get fallen s ≡ Some true → ⊥) → s < length kept →
      AreNoted was (lane l (labels_in labels low)) (lane l (labels_in labels (set kept s old))) noted
  noted_first none in_kept =
      record {
        noted = λ p on. elim (cases_eq p s) [
          | inl e ↦ rw e (row_new labels kept old s l in_kept ∙ (sym (row_old labels ready s old l read in_ready)
              ∙ are.still s none))
          | inr ne ↦ row_other labels kept old s p l ne ∙ are.noted p (noted_else p ne on)
        ];
        still = stays;
      }

  -- later they are stored in a row that is of no stop
  pub noted_again : (last : ℕ) → slice_get fallen s ≡ Some true → length ready ≤ last →
      AreNoted was (lane l (labels_in labels low)) (lane l (labels_in labels (set kept last old))) noted
  noted_again last again beyond =
      record {
        noted = λ p on.
            let in_range = slice_get_within noted p true on in
            row_other labels kept old last p l (λ e. omega (arith, marks.same_length, same))
            ∙ (elim (cases_eq p s) [
              | inl e ↦ rw e (are.noted s again)
              | inr ne ↦ are.noted p (noted_else p ne on)
            ]);
        still = stays;
      }
