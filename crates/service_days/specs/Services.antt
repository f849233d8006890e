-- On which days a service runs: on some weekdays from a first to a last date, with dates added and dates removed.
-- (GTFS Schedule reference, calendar.txt and calendar_dates.txt. A day is the number that `day_number` gives its date.)
use Rattle.std.specs.Prelude.{◌≡◌, ◌<◌, ◌==◌, ◌&&◌, ◌||◌, ℕ, Bool, false, not, length, nat_le, slice_index_or}
use Rattle.std.specs.List.{list_any}
use Rattle.gtfs_tables.specs.Feed.{CalendarData, ExceptionData, FeedData}
use Rattle.service_days.specs.declared.services.ServiceDay.{ServiceDay}
use Rattle.service_days.specs.Day.{weekday_at}

-- a row of a calendar covers the day, both ends included, and names its weekday
abbrev pub covers : ℕ → CalendarData → Bool
covers day row = nat_le row.first day && (nat_le day row.last && slice_index_or row.days (weekday_at day) false)

-- a row of a calendar has the service run on the day
abbrev pub schedules : ℕ → ℕ → CalendarData → Bool
schedules service day row = (row.service == service) && covers day row

-- an exception adds the day to the service
abbrev pub adds : ℕ → ℕ → ExceptionData → Bool
adds service day row = (row.service == service) && ((row.date == day) && row.adds)

-- an exception removes the day from the service
abbrev pub removes : ℕ → ℕ → ExceptionData → Bool
removes service day row = (row.service == service) && ((row.date == day) && not row.adds)

-- a service runs on a day that an exception adds; or that a calendar row covers, where no exception removes it
abbrev pub runs_on : FeedData → ℕ → ℕ → Bool
runs_on feed service day =
    list_any (adds service day) feed.exceptions
    || (list_any (schedules service day) feed.calendar && not (list_any (removes service day) feed.exceptions))

-- for each service of the feed, whether it runs on the day
pub record IsServiceDay (feed : FeedData) (day : ServiceDay) : Type 0 where
  pub count : length day.running.items ≡ length feed.services
  pub each : (service : ℕ) → service < length feed.services →
      slice_index_or day.running.items service false ≡ runs_on feed service day.number
