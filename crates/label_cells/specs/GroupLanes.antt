-- The labels of one stop of a group, and the runs of a group.
use Rattle.std.specs.Prelude.{ℕ, ◌+◌, ◌*◌, List, [], slice_index, slice_index_or}
use lib.Lanes.{chunk}
use Rattle.label_cells.specs.declared.runs.Run.{Run}

-- the labels of stop l of a group: each stop has `width` labels, and the group's begin at `from`
abbrev pub lane_of : List ℕ → ℕ → ℕ → ℕ → ℕ → List ℕ
lane_of found from width positions l = chunk (from + l * width) positions found

abbrev pub no_run : Run
no_run = record { shortest = []; span = 0 }

-- the shortest duration, in lane l, and the span of run i
abbrev pub shortest_at : List Run → ℕ → ℕ → ℕ
shortest_at runs l i = slice_index (slice_index_or runs i no_run).shortest l

abbrev pub span_in : List Run → ℕ → ℕ
span_in runs i = (slice_index_or runs i no_run).span
