-- The footpaths and change times of a mirrored network.
use Rattle.std.proofs.Common.{◌≡◌, ℕ, ◌<◌, List, [], length, get_or}
use Rattle.std.proofs.Common.{slice_get, Some, refl, sym, ◌∙◌, ap, ap₂, subst, arith}
use Rattle.std.specs.List.{range_with_len}
use Rattle.std.proofs.lemmas.List.{ext_get_or}
use Rattle.std.proofs.lemmas.List.FromFn.{length-map-range_with_len, get_or-map-range_with_len}
use Rattle.std.proofs.lemmas.Option.{same_Some, slice_get-get_or, slice_get_within}
use Rattle.timetable.specs.declared.trips.StopNo.{StopNo}
use Rattle.timetable.specs.Footpaths.{AreFeet, FeetData, IsFoot}
use Rattle.timetable.proofs.KnownParts.{foot_in_range, foot_short}
use Rattle.reversal.specs.Mirror.{AreMirrored, mirrored_feet, reversed_to}
use Rattle.reversal.proofs.ReversedFootpaths.{Rising, rising_ascends, rising_from, same_rising, to_back}
use Rattle.reversal.proofs.ReversedFootpaths.{to_forth, to_rising}
use Rattle.reversal.proofs.ReversedPairs.{sum_mapped, walks_reversed}

-- the targets of accepted footpaths ascend
pub rising_row : (feet : FeetData) → AreFeet feet → (a : ℕ) (row : List (StopNo × ℕ)) →
    slice_get feet.walks a ≡ Some row →
    Rising 0 row
rising_row feet ok a row at =
    rising_from 0 row (ok.in_range.walks.rows a row at).ascending (λ x h. omega arith)

module _ (feet : FeetData) (ok : AreFeet feet) where
  pub lists_count : length (mirrored_feet feet).walks ≡ length feet.walks
  lists_count = length-map-range_with_len (λ b. reversed_to b 0 feet.walks) 0 (length feet.walks)

  row_put : (b : ℕ) → b < length feet.walks → slice_get (mirrored_feet feet).walks b ≡ Some (reversed_to b 0 feet.walks)
  row_put b l =
      let f = λ (c : ℕ). reversed_to c 0 feet.walks in
      slice_get-get_or (mirrored_feet feet).walks b [] (omega (arith, lists_count, l))
      ∙ ap Some (get_or-map-range_with_len f 0 (length feet.walks) b b [] l (omega arith))

  row_got : (b : ℕ) (row : List (StopNo × ℕ)) → slice_get (mirrored_feet feet).walks b ≡ Some row →
      (b < length feet.walks) × (row ≡ reversed_to b 0 feet.walks)
  row_got b row h =
      let l : b < length feet.walks = omega (arith, slice_get_within (mirrored_feet feet).walks b row h, lists_count) in
      (l, same_Some row (reversed_to b 0 feet.walks) (sym h ∙ row_put b l))

  -- each footpath of the mirrored network comes from one of the network
  foot_got : (b : ℕ) (row : List (StopNo × ℕ)) (k : ℕ) (x : StopNo × ℕ) →
      slice_get (mirrored_feet feet).walks b ≡ Some row → slice_get row k ≡ Some x → IsFoot feet.walks x.0.0 b x.1
  foot_got b row k x at here =
      let was = row_got b row at in
      let back = to_back feet.walks 0 b x (k, subst (λ r. slice_get r k ≡ Some x) was.1 here) in
      let same : back.0 ≡ x.0.0 = omega (arith, back.2) in
      subst (λ (s : ℕ). IsFoot feet.walks s b x.1) same (back.1, back.4.0, back.3, back.4.1)

  pub are_mirrored : AreMirrored feet (mirrored_feet feet)
  are_mirrored =
      record {
        walks = λ a b seconds. (
          λ foot.
              let l = (foot_in_range feet ok a b seconds foot).0 in
              let there = to_forth feet.walks 0 b a a seconds foot.0 (omega arith) foot.2 (foot.1, foot.3) in
              (reversed_to b 0 feet.walks, there.0, row_put b l, there.1),
          λ foot. foot_got b foot.0 foot.1 (record { 0 = a }, seconds) foot.2 foot.3,
        );
        changes = refl;
      }

  pub are_feet : AreFeet (mirrored_feet feet)
  are_feet =
      record {
        in_range = record {
          walks = record {
            lists = refl;
            rows = λ b row at. record {
              targets = λ k x here.
                  let foot = foot_got b row k x at here in
                  let range = foot_in_range feet ok x.0.0 b x.1 foot in (
                    omega (arith, slice_get_within feet.walks x.0.0 foot.0 foot.2, lists_count),
                    λ e. range.1 (sym e),
                  );
              ascending =
                  let was = row_got b row at in
                  rising_ascends 0 row (subst (Rising 0) (sym was.1)
                  (to_rising feet.walks 0 b (λ a r h. rising_row feet ok a r h)));
            };
          };
          changes = ok.in_range.changes ∙ sym lists_count;
        };
        within = record {
          walks = record {
            stops = omega (arith, lists_count, ok.within.walks.stops);
            rows = λ b row at k x here. foot_short feet ok x.0.0 b x.1 (foot_got b row k x at here);
            pairs =
                let all = range_with_len 0 (length feet.walks) in
                omega (
                  arith,
                  sum_mapped length (λ b. reversed_to b 0 feet.walks) all,
                  walks_reversed (length feet.walks) 0 feet.walks,
                  ok.within.walks.pairs,
                );
          };
          changes = ok.within.changes;
        };
      }

-- footpaths are one list if they lead the same ways
same_walks : (feet other : FeetData) → AreFeet feet → AreFeet other → length feet.walks ≡ length other.walks →
    ((a b seconds : ℕ) → IsFoot feet.walks a b seconds → IsFoot other.walks a b seconds) →
    ((a b seconds : ℕ) → IsFoot other.walks a b seconds → IsFoot feet.walks a b seconds) → feet.walks ≡ other.walks
same_walks feet other ok fine lists_count forth back =
    ext_get_or [] feet.walks other.walks lists_count (λ a l.
    let row = get_or feet.walks a [] in
    let twin = get_or other.walks a [] in
    let here = slice_get-get_or feet.walks a [] l in
    let there = slice_get-get_or other.walks a [] (omega (arith, l, lists_count)) in
    same_rising 0 0 row twin (rising_row feet ok a row here) (rising_row other fine a twin there)
    (λ x h.
    let foot = forth a x.0.0 x.1 (row, h.0, here, h.1) in
    (foot.1, subst (λ r. slice_get r foot.1 ≡ Some x) (same_Some foot.0 twin (sym foot.2 ∙ there)) foot.3))
    (λ x h.
    let foot = back a x.0.0 x.1 (twin, h.0, there, h.1) in
    (foot.1, subst (λ r. slice_get r foot.1 ≡ Some x) (same_Some foot.0 row (sym foot.2 ∙ here)) foot.3)))

-- the mirrored footpaths are unique
pub same_feet : (feet some other : FeetData) → AreFeet some → AreFeet other →
    length some.walks ≡ length other.walks → AreMirrored feet some → AreMirrored feet other → some ≡ other
same_feet feet some other ok fine lists_count is are =
    let walks : some.walks ≡ other.walks = same_walks some other ok fine lists_count
    (λ a b seconds foot. (are.walks b a seconds).0 ((is.walks b a seconds).1 foot))
    (λ a b seconds foot. (is.walks b a seconds).0 ((are.walks b a seconds).1 foot)) in
    ap₂ (λ ws cs. record { walks = ws; changes = cs }) walks (is.changes ∙ sym are.changes)
