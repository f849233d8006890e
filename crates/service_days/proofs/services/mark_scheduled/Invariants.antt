use Rattle.std.proofs.Common.{◌≡◌, ◌<◌, ◌+◌, ◌||◌, ℕ, false, length, take, get_or}
use Rattle.std.specs.List.{list_any}
use Rattle.gtfs_tables.specs.Feed.{calendar_data}
use Rattle.service_days.specs.Services.{schedules}
use Rattle.service_days.proofs.services.mark_scheduled.Given as goal

abbrev pub invariant-loop-row : goal.invariant-loop-row
invariant-loop-row l = (s : ℕ) → s < length l.initial.running
    → get_or l.running s false ≡ (get_or l.initial.running s false || list_any
    (λ row. schedules (l.fn.first + s) l.fn.day.number (calendar_data row)) (take l.row-index l.calendar))
