-- Lists of runs, part by part.
use Rattle.std.proofs.Common.{◌≡◌, ◌∙◌, ◌<◌, ◌≤◌, ◌+◌, ℕ, Bool, true, false, if◌then◌else◌, List, [], ◌∷◌, ◌++◌, take}
use Rattle.std.proofs.Common.{length, get_or, sym, ap, subst, refl, arith, append_assoc, length-append}
use Rattle.std.proofs.lemmas.List.{append-nil, take_all, take_more, get_or_default}
use Rattle.std.proofs.lemmas.List.Folds.{length-flat_map-take}
use Rattle.std.proofs.lemmas.List.FromFn.{get_or-enumerate_from, get_or-range_with_len}
use Rattle.std.proofs.lemmas.Grind.{flat_map-append}
use Rattle.std.proofs.lemmas.Option.{get_or_from_slice_get, slice_get_within}
use Rattle.std.specs.Prelude.{All, Some, slice_get}
use Rattle.std.specs.List.{enumerate_from, flat_map, range_with_len}
use Rattle.service_days.specs.Instances.{IsListFault}
use Rattle.service_days.specs.declared.fault.DayFault.{DayFault}
use Rattle.service_days.specs.declared.fault.DayFault.TheVariants.{DateRange, TooMany, Memory}

-- why a list is refused is a reason to refuse a longer one
pub fault_of_more : (e : DayFault) (n m : ℕ) → n ≤ m → IsListFault e n → IsListFault e m
fault_of_more DateRange n m le h = h
fault_of_more TooMany n m le h = omega arith
fault_of_more Memory n m le h = tt

-- one more item, whose part is added
module _ {A B : Type 0} (f : A → List B) (xs : List A) (i : ℕ) (d x : A) (lt : i < length xs) (is : x
    ≡ get_or xs i d) where
  part_more : flat_map f (take (i + 1) xs) ≡ flat_map f (take i xs) ++ f x
  part_more =
      ap (flat_map f) (take_more xs i d lt) ∙ flat_map-append f (take i xs) (get_or xs i d ∷ [])
      ∙ ap (λ l. flat_map f (take i xs) ++ l) (append-nil (f (get_or xs i d)) ∙ ap f (sym is))

  pub list_more : (start old new : List B) → old ≡ start ++ flat_map f (take i xs) → new ≡ old ++ f x →
      new ≡ start ++ flat_map f (take (i + 1) xs)
  list_more start old new before more =
      more ∙ ap (λ l. l ++ f x) before ∙ append_assoc start (flat_map f (take i xs)) (f x)
      ∙ ap (λ l. start ++ l) (sym part_more)

  pub fault_of_part : (start old : List B) → old ≡ start ++ flat_map f (take i xs) → (e : DayFault) →
      IsListFault e (length old + length (f x)) → IsListFault e (length start + length (flat_map f xs))
  fault_of_part start old before e h =
      let whole = length-flat_map-take f xs i d lt in
      let here = ap (λ y. length (f y)) is in
      let parts = ap length before ∙ length-append start (flat_map f (take i xs)) in
      fault_of_more e (length old + length (f x)) (length start + length (flat_map f xs)) (omega arith) h

-- the parts of all items
pub list_whole : {A B : Type 0} (f : A → List B) (xs : List A) (i : ℕ) → length xs ≤ i → (start old : List B) →
    old ≡ start ++ flat_map f (take i xs) → old ≡ start ++ flat_map f xs
list_whole f xs i le start old before = before ∙ ap (λ l. start ++ flat_map f l) (take_all i xs le)

-- an item with its position
pub numbered : {A : Type 0} (xs : List A) (i : ℕ) (x : A) → slice_get xs i ≡ Some x →
    (i, x) ≡ get_or (enumerate_from 0 xs) i (i, x)
numbered {A = A} xs i x at =
    let zero : 0 + i ≡ i = omega arith in
    let it : get_or xs i x ≡ x = get_or_from_slice_get xs i x x at in
    let here : get_or (enumerate_from 0 xs) i (i, x) ≡ (0 + i, get_or xs i x) =
    get_or-enumerate_from 0 xs i (i, x) (slice_get_within xs i x at) in
    sym (here ∙ (λ k. (zero k, it k)))

-- a number below another, at its position
pub number_at : (n i : ℕ) → i < n → i ≡ get_or (range_with_len 0 n) i i
number_at n i lt = let zero : 0 + i ≡ i = omega arith in sym (get_or-range_with_len 0 n i i lt ∙ zero)

-- what holds of each holds of one
pub all_at : {A : Type 0} (P : A → Type 0) (xs : List A) (i : ℕ) (x : A) → slice_get xs i ≡ Some x → All P xs → P x
all_at P xs i x at all = subst P (get_or_from_slice_get xs i x x at) (all i x (slice_get_within xs i x at))

-- what stands at a position
pub read_at : {A : Type 0} (xs : List A) (i : ℕ) (x d y : A) → i < length xs → x ≡ get_or xs i x → get_or xs i d ≡ y →
    x ≡ y
read_at xs i x d y lt is so = is ∙ get_or_default xs i x d lt ∙ so

-- a part is left out, or added
pub left_out : {A : Type 0} (b : Bool) (part runs : List A) → b ≡ false → runs ≡ runs ++ (if b then part else [])
left_out true part runs h = cc h
left_out false part runs h = sym (append-nil runs)

pub taken_in : {A : Type 0} (b : Bool) (part : List A) → b ≡ true → part ≡ (if b then part else [])
taken_in true part h = refl
taken_in false part h = cc h
