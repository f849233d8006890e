-- Planes: the labels of a stop, bit by bit. A word has one bit for each lane of four batches.
use Rattle.std.specs.Prelude.{◌≡◌, ◌<◌, ◌≤◌, ◌+◌, ◌*◌, ◌/◌, ◌^◌, ◌%◌, ◌++◌, ℕ, zero, suc, Bool, List, [], ◌∷◌, cond}
use Rattle.std.specs.Prelude.{bit_and, eqb, leb, ltb, length, map, slice_index, slice_index_or}
use lib.Lanes.{mask_l}

-- the labels of four batches; a batch past the last has none
unfoldable pub block : List (List ℕ) → ℕ → List ℕ
block lanes word =
    slice_index_or lanes (4 * word) [] ++ (slice_index_or lanes (4 * word + 1)
    [] ++ (slice_index_or lanes (4 * word + 2) [] ++ slice_index_or lanes (4 * word + 3) []))

-- how many words have a bit for each lane
abbrev pub words_of : List (List ℕ) → ℕ
words_of lanes = (length lanes + 3) / 4

-- whether a label has a bit; each label has 0
abbrev pub has : ℕ → ℕ → Bool
has bit label = eqb (bit_and label bit) bit

-- a word that shows which labels are of a kind
abbrev pub mask : (ℕ → Bool) → List ℕ → ℕ
mask Is labels = mask_l (map Is labels)

-- each word shows which labels of its block are of a kind
pub record AreMasks (Is : ℕ → Bool) (lanes : List (List ℕ)) (words : ℕ) (masks : List ℕ) : Type 0 where
  pub each : (word : ℕ) → word < words → slice_index masks word ≡ mask Is (block lanes word)

-- the planes of the lowest bits; the last row shows all lanes
pub record ArePlanes (lanes : List (List ℕ)) (bits : ℕ) (planes : List (List ℕ)) : Type 0 where
  pub plane : (b : ℕ) → b < bits → AreMasks (has (2 ^ b)) lanes (words_of lanes) (slice_index_or planes b [])
  pub all : AreMasks (has 0) lanes (words_of lanes) (slice_index_or planes 32 [])

abbrev pub how_many : (ℕ → Bool) → List ℕ → ℕ
how_many Is [] = 0
how_many Is (label ∷ labels) = cond (Is label) 1 0 + how_many Is labels

-- how many labels of the first blocks are of a kind
abbrev pub count_of : (ℕ → Bool) → List (List ℕ) → ℕ → ℕ
count_of Is lanes zero = 0
count_of Is lanes (suc word) = count_of Is lanes word + how_many Is (block lanes word)

-- the least number that so many labels, cut to so many bits, do not exceed
pub record IsRanked (lanes : List (List ℕ)) (bits rank value : ℕ) : Type 0 where
  pub below : count_of (λ x. ltb (x % 2 ^ bits) value) lanes (words_of lanes) < rank
  pub upto : rank ≤ count_of (λ x. leb (x % 2 ^ bits) value) lanes (words_of lanes)
