-- Footpaths that are added behind others, as far as the limit of footpaths allows.
use Rattle.std.specs.Prelude.{◌≡◌, ◌⊎◌, ◌<◌, ◌++◌, length, List}
use Rattle.table_records.specs.declared.fault.What.{What}
use Rattle.table_records.specs.declared.fault.What.TheVariants as what
use Rattle.timetable.specs.declared.limits.TheConstants.{MOST_FOOTPATHS}
use Rattle.footpaths.specs.Direct.{DirectLists, Footpath}

-- the footpaths of these lists, and more behind them
abbrev pub with_more : DirectLists → List Footpath → DirectLists
with_more direct more = record { stops = direct.stops; pairs = direct.pairs ++ more; changes = direct.changes }

-- why more footpaths aren't added: no memory, or they go past the limit
abbrev pub IsRefusal : DirectLists → List Footpath → What → Type 0
IsRefusal direct more w = (w ≡ what.Memory) ⊎ ((w ≡ what.TooMany) × (MOST_FOOTPATHS < length (direct.pairs ++ more)))
