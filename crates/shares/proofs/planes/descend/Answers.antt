use Rattle.std.proofs.Common.{◌≡◌, ◌+◌, ◌*◌, ◌-◌, ◌^◌, ◌<◌, ◌&&◌, ℕ, Bool, List, [], cond, not, eqb, slice_index_or}
use Rattle.std.proofs.Common.{sym, subst, arith}
use Rattle.std.proofs.lemmas.Bool.{lt-ltb, le-ltb}
use Rattle.std.proofs.lemmas.Grind.{pow_more}
use Rattle.shares.specs.Planes.{AreMasks, count_of, has, words_of}
use Rattle.shares.proofs.RankBitByBit.{Narrowed, high, ones_few, step_ones, step_zeros, narrowed_first, narrowed_last}
use Rattle.shares.proofs.planes.descend.Goals as goal
use Rattle.shares.proofs.planes.descend.Goals.{then-zeros-left, else-zeros-left}

-- what holds for so many words holds for those of the lanes
module _ (lanes : List (List ℕ)) (words : ℕ) (is : words ≡ words_of lanes) (Is Has Both : ℕ →
    Bool) (among plane : List ℕ) where
  counted_in : (count : ℕ) → (AreMasks Is lanes words among → AreMasks Has lanes words plane →
      count ≡ count_of (λ x. Is x && Has x) lanes words)
      → AreMasks Is lanes (words_of lanes) among → AreMasks Has lanes (words_of lanes) plane →
      count ≡ count_of (λ x. Is x && Has x) lanes (words_of lanes)
  counted_in count h = subst (λ (n : ℕ). AreMasks Is lanes n among → AreMasks Has lanes n plane →
      count ≡ count_of (λ x. Is x && Has x) lanes n) is h

  kept_in : (kept : List ℕ) → (AreMasks Is lanes words among → AreMasks Has lanes words plane →
      AreMasks Both lanes words kept)
      → AreMasks Is lanes (words_of lanes) among → AreMasks Has lanes (words_of lanes) plane →
      AreMasks Both lanes (words_of lanes) kept
  kept_in kept h = subst (λ (n : ℕ). AreMasks Is lanes n among → AreMasks Has lanes n plane →
      AreMasks Both lanes n kept) is h

pub loop-k-init : goal.loop-k-init
loop-k-init c =
    let lanes = c.args.lanes.now in
    let all = c.requires.planes.all in
    let e : c.args.bits - 0 ≡ c.args.bits = omega arith in
    record {
      long = c.told-planes 32 (omega (arith, c.requires.rows));
      low = omega arith;
      narrowed = subst (λ (j : ℕ). Narrowed lanes c.args.bits j 0 c.args.rank c.count_both-size.result c.args.rank
          (slice_index_or c.args.planes.now 32 [])) (sym e)
          (narrowed_first lanes c.args.bits c.count_both-size.result c.args.rank
          (slice_index_or c.args.planes.now 32 []) all
          (counted_in lanes c.args.words c.requires.words (has 0) (has 0) (has 0) _ _ c.count_both-size.result
          (c.count_both-size.ensures lanes (has 0) (has 0)) all all) c.requires.some c.requires.rank);
    }

pub overflow_sub-zeros : goal.overflow_sub-zeros
overflow_sub-zeros c =
    let lanes = c.args.lanes.now in
    let bits = c.args.bits in
    let l = c.loop-k in
    let j : ℕ = bits - 1 - l.k in
    let e : bits - l.k ≡ j + 1 = omega arith in
    let in_bits : j < bits = omega arith in
    let old = subst (λ (i : ℕ). Narrowed lanes bits i l.value l.left l.size c.args.rank l.among) e l.invariant.narrowed
    in
    ones_few lanes bits j l.value l.left l.size c.args.rank l.among in_bits old c.count_both-ones.result
    (counted_in lanes c.args.words c.requires.words (λ x. eqb (high bits (j + 1) x) l.value) (has (2 ^ j)) (has 0) _ _
    c.count_both-ones.result
    (c.count_both-ones.ensures lanes (λ x. eqb (high bits (j + 1) x) l.value) (has (2 ^ j))) old.masks
    (c.requires.planes.plane j in_bits))

pub loop-k-preserved : goal.loop-k-preserved
loop-k-preserved c =
    let lanes = c.args.lanes.now in
    let bits = c.args.bits in
    let l = c.loop-k in
    let j : ℕ = bits - 1 - l.k in
    let e : bits - l.k ≡ j + 1 = omega arith in
    let next : j ≡ bits - (l.k + 1) = omega arith in
    let in_bits : j < bits = omega arith in
    let old = subst (λ (i : ℕ). Narrowed lanes bits i l.value l.left l.size c.args.rank l.among) e l.invariant.narrowed
    in
    let plane = c.requires.planes.plane j in_bits in
    let ones = c.count_both-ones.result in
    let Is : ℕ → Bool = λ x. eqb (high bits (j + 1) x) l.value in
    let counted = counted_in lanes c.args.words c.requires.words Is (has (2 ^ j)) (has 0) _ _ ones
    (c.count_both-ones.ensures lanes Is (has (2 ^ j))) old.masks plane in
    let kept = c.keep.new.among in
    let masks = kept_in lanes c.args.words c.requires.words Is (has (2 ^ j)) _ _ _ kept
    (c.keep.ensures lanes Is (has (2 ^ j)) c.told-lanes) old.masks plane in
    let power = pow_more 2 l.k in
    let family = λ (b : Bool). AreMasks (λ x. eqb (high bits (j + 1) x) l.value && cond b (has (2 ^ j) x)
    (not (has (2 ^ j) x))) lanes (words_of lanes) kept in
    elim c.if-zeros-left.branch [
      | then-zeros-left w ↦
          let up = w.if-zeros-left.true in
          let new = step_ones lanes bits j l.value l.left l.size c.args.rank l.among in_bits old ones kept counted up
          (subst family (lt-ltb (l.size - ones) l.left up) masks) in
          rw (w.size-is, w.left-is, w.value-is) (record {
            long = c.keep.array_long;
            low = omega (arith, power, l.invariant.low);
            narrowed = subst (λ (i : ℕ). Narrowed lanes bits i (2 * l.value + 1) (l.left - (l.size - ones)) ones
                c.args.rank kept) next new;
          })
      | else-zeros-left w ↦
          let down = w.if-zeros-left.false in
          let new = step_zeros lanes bits j l.value l.left l.size c.args.rank l.among in_bits old ones kept counted down
          (subst family (le-ltb (l.size - ones) l.left down) masks) in
          rw (w.size-is, w.left-is, w.value-is) (record {
            long = c.keep.array_long;
            low = omega (arith, power, l.invariant.low);
            narrowed = subst (λ (i : ℕ). Narrowed lanes bits i (2 * l.value) l.left (l.size - ones) c.args.rank kept)
                next new;
          })
    ]

pub returns : goal.returns
returns c =
    let lanes = c.args.lanes.now in
    let l = c.loop-k in
    let e : c.args.bits - l.k ≡ 0 = omega arith in
    narrowed_last lanes c.args.bits l.value l.left l.size c.args.rank l.among
    (subst (λ (i : ℕ). Narrowed lanes c.args.bits i l.value l.left l.size c.args.rank l.among) e
    l.invariant.narrowed)
