-- The words that tell a fault.
use Rattle.std.specs.Prelude.{ℕ, List, codes}
use Rattle.timetable.specs.declared.faults.NetFault.{NetFault}
use Rattle.timetable.specs.declared.faults.NetFault.TheVariants.{StopRange, TimesGoBack, TooLarge, Memory}

abbrev pub words_of : NetFault → List ℕ
words_of StopRange = codes "stop out of range"
words_of TimesGoBack = codes "times go back"
words_of TooLarge = codes "network too large"
words_of Memory = codes "out of memory"
