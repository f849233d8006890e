-- How much a study computes, as its report counts it: no count is above that of 64 bits.
use Rattle.std.specs.Prelude.{◌*◌, ◌-◌, ◌^◌, ℕ, length, min}
use Rattle.workers.specs.Study.{StudyData}

abbrev pub capped : ℕ → ℕ
capped n = min n (2 ^ 64 - 1)

-- a row for each origin in each scenario's network
abbrev pub row_count : StudyData → ℕ
row_count s = capped (length s.networks * length s.origins)

-- in a row a cell for each destination and percentile
abbrev pub cell_count : StudyData → ℕ
cell_count s = capped (capped (row_count s * length s.query.destinations) * length s.query.shares)

-- in a row a sum for each limit and percentile
abbrev pub sum_count : StudyData → ℕ
sum_count s = capped (capped (row_count s * length s.query.limits) * length s.query.shares)
