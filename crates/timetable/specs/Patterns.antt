-- The number by which trips are sorted before they are put into lines.
-- "It depends on the stops of a trip and on the boarding and alighting flags alone, not on times." (The program's own
-- rule.)
use Rattle.std.specs.Prelude.{◌+◌, ◌*◌, ◌/◌, ◌%◌, ◌^◌, ℕ, Bool, List, [], ◌∷◌, bit_or, bit_xor, length, map}
use Rattle.std.specs.Prelude.{if◌then◌else◌}
use Rattle.timetable.specs.declared.trips.Event.{Event}

-- a stop, and the boarding and alighting flags of an event there
abbrev pub Place : Type 0
Place = ℕ × Bool × Bool

abbrev pub place_of : Event → Place
place_of e = (e.stop.0, e.board, e.alight)

-- 64 bits, moved up by 29; those that leave at the top come in below
abbrev pub turned : ℕ → ℕ
turned n = bit_or ((n * 2 ^ 29) % 2 ^ 64) (n / 2 ^ 35)

-- a number that mixes another one with a place
abbrev pub mixed_with : ℕ → Place → ℕ
mixed_with mixed place =
    let stop = (place.0 * 4) % 2 ^ 64 in
    let flagged = bit_xor (bit_xor (bit_xor mixed stop) (if place.1 then 2 else 0)) (if place.2 then 1 else 0) in
    turned ((flagged * 0x9E3779B97F4A7C15) % 2 ^ 64)

-- ... and with some places, one after another
abbrev pub mixed_all : ℕ → List Place → ℕ
mixed_all mixed [] = mixed
mixed_all mixed (place ∷ places) = mixed_all (mixed_with mixed place) places

abbrev pub first_stop : List Place → ℕ
first_stop [] = 0
first_stop (place ∷ places) = place.0

-- the number of the places of a trip
abbrev pub pattern : List Place → ℕ
pattern places = bit_or ((first_stop places * 2 ^ 48) % 2 ^ 64) (mixed_all (length places) places / 2 ^ 16)
