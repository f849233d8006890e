-- The words of a fault.
use Rattle.std.specs.Prelude.{ℕ, List, codes}
use Rattle.service_days.specs.declared.fault.DayFault.{DayFault}
use Rattle.service_days.specs.declared.fault.DayFault.TheVariants.{DateRange, TooMany, Memory}

abbrev pub words_of : DayFault → List ℕ
words_of DateRange = codes "date out of range"
words_of TooMany = codes "too many runs"
words_of Memory = codes "out of memory"
